use Rattle.std.proofs.Common.{take, drop}
use Rattle.station.proofs.Doing.{ActsDone}
use Rattle.station.proofs.perform.perform_all.Given as goal

-- the first acts are done
abbrev pub invariant-loop-act : goal.invariant-loop-act
invariant-loop-act g l =
    ActsDone l.tables l.roll l.session.standing.state l.fn.store l.store (take l.act-index l.acts) (drop l.act-index l.acts) (g.M.Machine.told l.fn.m) (g.M.Machine.told l.m)

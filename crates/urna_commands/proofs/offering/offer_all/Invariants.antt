use Rattle.urna_commands.specs.Offering.{AreSoFar}
use Rattle.urna_commands.proofs.offering.offer_all.Given as goal

-- the first reports were offered
abbrev pub invariant-loop-i : goal.invariant-loop-i
invariant-loop-i g l = AreSoFar l.telling l.tables l.list l.i l.intake l.refused (g.C.Cabinet.told l.fn.cabinet) (g.C.Cabinet.told l.cabinet) (g.M.Machine.told l.fn.machine) (g.M.Machine.told l.machine)

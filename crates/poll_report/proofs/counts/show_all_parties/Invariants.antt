use Rattle.std.proofs.Common.{take}
use Rattle.urna_outside.specs.ShownLines.{HasShown}
use Rattle.vote_record.specs.Bag.{bag_at}
use Rattle.poll_report.specs.Counts.{party_lines}
use Rattle.poll_report.proofs.counts.show_all_parties.Given as goal

-- the first lines were shown
abbrev pub invariant-loop-i : goal.invariant-loop-i
invariant-loop-i g l = HasShown (party_lines (take l.i l.tables.parties) (bag_at l.votes.bags l.panel)) (g.M.Machine.told l.fn.m) (g.M.Machine.told l.m)

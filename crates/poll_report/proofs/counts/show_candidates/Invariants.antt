use Rattle.std.proofs.Common.{take}
use Rattle.urna_outside.specs.ShownLines.{HasShown}
use Rattle.vote_record.specs.Bag.{bag_at}
use Rattle.election_tables.specs.TablesData.{candidates_at}
use Rattle.poll_report.specs.Counts.{candidate_lines}
use Rattle.poll_report.proofs.counts.show_candidates.Given as goal

-- the first lines were shown
abbrev pub invariant-loop-i : goal.invariant-loop-i
invariant-loop-i g l = HasShown (candidate_lines (take l.i (candidates_at l.panel l.tables)) (bag_at l.votes.bags l.panel)) (g.M.Machine.told l.fn.m) (g.M.Machine.told l.m)

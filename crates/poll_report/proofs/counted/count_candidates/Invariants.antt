use Rattle.std.proofs.Common.{◌≡◌, map, take}
use Rattle.election_tables.specs.TablesData.{candidates_at}
use Rattle.vote_kinds.specs.declared.choice.Choice.TheVariants as choice
use Rattle.vote_record.specs.Bag.{bag_at}
use Rattle.poll_report.specs.Counted.{listed}
use Rattle.poll_report.proofs.counted.count_candidates.Given as goal

-- the first candidates were counted
abbrev pub invariant-loop-i : goal.invariant-loop-i
invariant-loop-i l = l.counts ≡ listed (λ n. choice.Nominal n) (map (λ c. c.number) (take l.i (candidates_at l.panel l.tables))) (bag_at l.votes.bags l.panel)

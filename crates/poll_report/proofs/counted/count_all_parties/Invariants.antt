use Rattle.std.proofs.Common.{◌≡◌, map, take}
use Rattle.vote_kinds.specs.declared.choice.Choice.TheVariants as choice
use Rattle.vote_record.specs.Bag.{bag_at}
use Rattle.poll_report.specs.Counted.{listed}
use Rattle.poll_report.proofs.counted.count_all_parties.Given as goal

-- the first parties were counted
abbrev pub invariant-loop-i : goal.invariant-loop-i
invariant-loop-i l = l.counts ≡ listed (λ n. choice.Party n) (map (λ q. q.number) (take l.i l.tables.parties)) (bag_at l.votes.bags l.panel)

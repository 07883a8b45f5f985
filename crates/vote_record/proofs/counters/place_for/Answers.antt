use Rattle.std.proofs.Common.{not, rules}
use Rattle.std.proofs.lemmas.List.Sorted.{IsPartitionPoint-from_clause}
use Rattle.vote_kinds.specs.Choice.{choice_le}
use Rattle.vote_record.proofs.StoredCounters.{partitioned, place_of_partition}
use Rattle.vote_record.proofs.counters.place_for.Goals as goal

pub returns : goal.returns
returns c =
    let counters = c.args.counters.now in
    let choice = c.args.choice in
    place_of_partition choice counters _ c.partition_point.ensures.bound
    (IsPartitionPoint-from_clause (λ x. not (choice_le choice x.choice)) counters _ c.partition_point.ensures.partitioned (partitioned choice counters c.requires) (λ a r f' called. search rules))

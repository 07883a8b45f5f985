use Rattle.std.proofs.Common.{arith}
use Rattle.std.proofs.lemmas.List.Sorted.{IsPermutation-map, length_permutation}
use Rattle.quotients.specs.Order.{parts_of}
use Rattle.seat_remainders.proofs.SortedAverages.{never_descend}
use Rattle.seat_remainders.proofs.outcome.Averages.sorted.Goals as goal

pub invariant_of-result : goal.invariant_of-result
invariant_of-result c = let same = length_permutation _ _ c.sort_averages.ensures.same in omega (arith, same, c.requires)

pub returns-clause-sorted : goal.returns-clause-sorted
returns-clause-sorted c = never_descend _ c.in_ok-sort_averages.ensures.sorted

pub returns-clause-same : goal.returns-clause-same
returns-clause-same c = IsPermutation-map parts_of _ _ c.sort_averages.ensures.same

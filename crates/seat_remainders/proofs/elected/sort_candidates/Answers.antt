use Rattle.seat_remainders.proofs.Sorting.{sorted_is}
use Rattle.seat_remainders.proofs.elected.sort_candidates.Goals as goal

pub returns : goal.returns
returns c = sorted_is c.args.candidates.now _ c.sort_unstable.ensures.permutation c.sort_unstable.ensures.sorted

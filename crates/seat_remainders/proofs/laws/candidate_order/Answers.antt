use Rattle.seat_remainders.proofs.Ordered.{are_in_order, in_order-permutation}
use Rattle.seat_remainders.proofs.laws.candidate_order.Goals as goal

pub returns-clause-order : goal.returns-clause-order
returns-clause-order _ = are_in_order

pub returns-clause-same : goal.returns-clause-same
returns-clause-same _ = in_order-permutation

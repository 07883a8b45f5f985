use Rattle.std.proofs.Common.{ℕ, take, sym, ap, ◌∙◌, arith}
use Rattle.std.proofs.lemmas.List.{take_all}
use Rattle.seat_remainders.specs.Candidates.{in_order}
use Rattle.seat_remainders.proofs.Ordered.{in_order-length}
use Rattle.seat_remainders.proofs.Sorting.{front_is}
use Rattle.seat_remainders.proofs.elected.first_of.Goals as goal

pub returns-then-count-candidates : goal.returns-then-count-candidates
returns-then-count-candidates c =
    let split = c.select_nth_unstable-first.ensures in
    front_is c.args.candidates.now _ _ _ _ split.permutation split.partitioned c.sort_unstable.ensures.permutation c.sort_unstable.ensures.sorted
    ∙ ap (λ (n : ℕ). take n (in_order c.args.candidates.now)) split.front_len

pub returns-else-count-candidates : goal.returns-else-count-candidates
returns-else-count-candidates c =
    let len = in_order-length c.args.candidates.now in
    c.sort_candidates.ensures ∙ sym (take_all c.args.count (in_order c.args.candidates.now) (omega (arith, c.if-count-candidates.false, c.requires)))

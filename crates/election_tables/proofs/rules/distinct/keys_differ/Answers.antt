use Rattle.std.proofs.Common.{◌≡◌, ◌+◌, ◌-◌, true, false, get_or, sym, ◌∙◌, arith}
use Rattle.std.proofs.lemmas.List.{get_or_default}
use Rattle.std.proofs.lemmas.List.Sorted.{all_adjacent_more}
use Rattle.std.proofs.lemmas.Cmp.{is_eq_index}
use Rattle.std.specs.Ordering.{eq_by_cmp}
use Rattle.election_tables.proofs.Distinct.{differ_from_sort, repeat_from_sort}
use Rattle.election_tables.proofs.rules.distinct.keys_differ.Goals as goal

pub loop-i-preserved : goal.loop-i-preserved
loop-i-preserved g c =
    let ys = c.sort_unstable.new.self.items in
    let i = c.loop-i.i in
    let a = c.index.result.now in
    let b = c.index-in-loop-i.result.now in
    let here : eq_by_cmp g.K.Ord.cmp a b ≡ false = rw (← c.cmp.ensures) (is_eq_index c.cmp.result ∙ sym c.eq.ensures ∙ c.if-eq.false) in
    all_adjacent_more ys (λ x y. eq_by_cmp g.K.Ord.cmp x y ≡ false) i (omega arith) c.loop-i.invariant
    (λ d. rw (get_or_default ys (i - 1) d a (omega arith), get_or_default ys i d b (omega arith), ← c.index.ensures, ← c.index-in-loop-i.ensures) here)

pub returns-then-eq : goal.returns-then-eq
returns-then-eq g c =
    let xs = c.args.keys.items in
    let ys = c.sort_unstable.new.self.items in
    let i = c.loop-i.i in
    let a = c.index.result.now in
    let b = c.index-in-loop-i.result.now in
    let next : i - 1 + 1 ≡ i = omega arith in
    let first : get_or ys (i - 1) a ≡ a = sym c.index.ensures in
    let second : get_or ys (i - 1 + 1) a ≡ b = rw next (get_or_default ys i a b (omega arith) ∙ sym c.index-in-loop-i.ensures) in
    let here : eq_by_cmp g.K.Ord.cmp a b ≡ true = rw (← c.cmp.ensures) (is_eq_index c.cmp.result ∙ sym c.eq.ensures ∙ c.if-eq.true) in
    sym (repeat_from_sort g.met.K.Ord.total xs ys (i - 1) a c.sort_unstable.ensures.permutation (omega arith) (rw (first, second) here))

pub returns : goal.returns
returns g c =
    let ys = c.sort_unstable.new.self.items in
    sym (differ_from_sort g.met.K.Ord.total c.args.keys.items ys c.sort_unstable.ensures.permutation c.sort_unstable.ensures.sorted
    (λ k d h. c.loop-i.invariant k d (omega arith)))

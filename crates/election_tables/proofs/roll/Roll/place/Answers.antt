use Rattle.std.proofs.Common.{◌≡◌, ◌≢◌, ◌==◌, ◌<◌, ℕ, List, Some, None, length, get_or, position, sym, ap, ◌∙◌, subst, inl, inr, arith}
use Rattle.std.proofs.lemmas.Bool.{cases_lt}
use Rattle.std.proofs.lemmas.List.Sorted.{searched}
use Rattle.std.proofs.lemmas.Map.Keys.{sorted_from_strictly_increasing, non_decreasing_from_sorted}
use Rattle.std.proofs.lemmas.Map.Lookups.{exact_unsigned}
use Rattle.std.specs.List.Sorted.{IsStrictlyIncreasing}
use Rattle.election_tables.proofs.RollLines.{position_found, position_missing}
use Rattle.election_tables.proofs.roll.Roll.place.Goals as goal

pub returns-in-Ok : goal.returns-in-Ok
returns-in-Ok c =
    let xs : List ℕ = c.deref.result.now in
    let seen : xs ≡ c.args.self.now.titles = c.deref.ensures.value ∙ ap (λ r. r.titles) c.self.view_is in
    let rise : IsStrictlyIncreasing xs = subst IsStrictlyIncreasing (sym c.deref.ensures.value) c.self.invariant.rise in
    let here : get_or xs c.in-Ok.i 0 ≡ c.args.title = exact_unsigned _ _ (c.in-Ok.ensures.ok 0) in
    let P : List ℕ → Type 0 = λ ys. Some c.in-Ok.i ≡ position (λ t. t == c.args.title) ys in
    subst P seen (sym (position_found xs c.in-Ok.i c.args.title rise c.in-Ok.ensures.bound here))

pub returns-in-Err : goal.returns-in-Err
returns-in-Err c =
    let xs : List ℕ = c.deref.result.now in
    let seen : xs ≡ c.args.self.now.titles = c.deref.ensures.value ∙ ap (λ r. r.titles) c.self.view_is in
    let rise : IsStrictlyIncreasing xs = subst IsStrictlyIncreasing (sym c.deref.ensures.value) c.self.invariant.rise in
    let low = non_decreasing_from_sorted xs (sorted_from_strictly_increasing xs rise) in
    let all = searched xs c.args.title c.binary_search.result c.binary_search.ensures.position (λ i j before within. low i j 0 before within) in
    let at = rw c.in-Err.is at all in
    let gone : (k : ℕ) → k < length xs → get_or xs k 0 ≢ c.args.title =
    λ k h e. elim (cases_lt k c.in-Err.field-0) [
      | inl before ↦ (let less = at.1 k before in omega arith)
      | inr after ↦ (let more = at.2 k after h in omega arith)
    ] in
    let P : List ℕ → Type 0 = λ ys. None ≡ position (λ t. t == c.args.title) ys in
    subst P seen (sym (position_missing xs c.args.title gone))

-- What stands at a place of a list of the tables, for loops over them.
use Rattle.std.proofs.Common.{◌≡◌, ℕ, ◌<◌, List, length, get_or, slice_get, Some, None, option_map, ap, sym, ◌∙◌, inl, inr}
use Rattle.std.proofs.lemmas.List.{get_or_default}
use Rattle.std.proofs.lemmas.Option.{slice_get_cases}

-- where a call answers f of the element at a place, the place is in range and the element there has that f
pub place_is : {X Y : Type 0} (f : X → Y) (xs : List X) (i : ℕ) (y : Y) → option_map f (slice_get xs i) ≡ Some y
    → (i < length xs) × ((d : X) → f (get_or xs i d) ≡ y)
place_is f xs i y e = elim ((slice_get_cases xs i).1) [
  | inl there ↦ (
      let some : Some (f there.0) ≡ Some y = sym (ap (option_map f) there.2) ∙ e in
      let same : f there.0 ≡ y = cc in
      (there.1, λ d. ap f (get_or_default xs i d there.0 there.1 ∙ there.3) ∙ same))
  | inr gone ↦ absurd (let none : None ≡ Some y = sym (ap (option_map f) gone.1) ∙ e in cc)
]

-- The best body of the slots that were looked at.
use Rattle.std.specs.Prelude.{◌≡◌, ℕ, List, Option, Some}
use Rattle.std.specs.Option.{option_map, ForSome}
use Rattle.twin_image.specs.Held.{held_body}
use Rattle.twin_image.specs.declared.survey.Best.{Best}

-- the body that is kept, if some slot stood
abbrev pub best_body : {SIZE : ℕ} → Best SIZE → Option (List ℕ)
best_body best = option_map (λ rank. best.body.items) best.rank

-- of these bodies that one is held
abbrev pub IsBestOf : {SIZE : ℕ} → (List ℕ → Option ℕ) → List (List ℕ) → Best SIZE → Type 0
IsBestOf rank bodies best = held_body rank bodies ≡ best_body best

-- the rank that is kept is that of the body
abbrev pub IsRanked : {SIZE : ℕ} → (List ℕ → Option ℕ) → Best SIZE → Type 0
IsRanked rank best = ForSome best.rank (λ value. rank best.body.items ≡ Some value)

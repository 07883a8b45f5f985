-- Worked rows: what the codes from 0 to 14 have, and what a code that no office has.
use Rattle.std.proofs.Common.{◌≡◌, ℕ, Bool, true, false, List, [], ◌∷◌, map, Some, None, refl}
use Rattle.election_tables.specs.declared.office.Kind.{Kind}
use Rattle.election_tables.specs.declared.office.Kind.TheVariants as kind
use Rattle.election_tables.specs.Offices.{row_of, code_digits, code_proportional, allows, may_have_places, most_seats}

abbrev codes : List ℕ
codes = 0 ∷ 1 ∷ 2 ∷ 3 ∷ 4 ∷ 5 ∷ 6 ∷ 7 ∷ 8 ∷ 9 ∷ 10 ∷ 11 ∷ 12 ∷ 13 ∷ 14 ∷ []

pub digits : map code_digits codes
    ≡ None ∷ Some 2 ∷ None ∷ Some 2 ∷ None ∷ Some 3 ∷ Some 4 ∷ Some 5 ∷ Some 5 ∷ None ∷ None ∷ Some 2 ∷ None ∷ Some 5 ∷ None ∷ []
unfolding row_of
digits = refl

-- an office is decided in proportion where its code allows that
abbrev in_proportion : List Bool
in_proportion = false ∷ false ∷ false ∷ false ∷ false ∷ false ∷ true ∷ true ∷ true ∷ false ∷ false ∷ false ∷ false ∷ true ∷ false ∷ []

pub proportional : map code_proportional codes ≡ in_proportion
unfolding row_of
proportional = refl

pub allow_proportional : map (λ code. allows code kind.Proportional) codes ≡ in_proportion
unfolding row_of
allow_proportional = refl

pub allow_absolute : map (λ code. allows code kind.Absolute) codes
    ≡ false ∷ true ∷ false ∷ true ∷ false ∷ false ∷ false ∷ false ∷ false ∷ false ∷ false ∷ true ∷ false ∷ false ∷ false ∷ []
unfolding row_of
allow_absolute = refl

pub allow_simple : map (λ code. allows code kind.Simple) codes
    ≡ false ∷ true ∷ false ∷ true ∷ false ∷ true ∷ false ∷ false ∷ false ∷ false ∷ false ∷ true ∷ false ∷ false ∷ false ∷ []
unfolding row_of
allow_simple = refl

pub seats : map most_seats codes ≡ 0 ∷ 1 ∷ 0 ∷ 1 ∷ 0 ∷ 2 ∷ 200 ∷ 200 ∷ 200 ∷ 0 ∷ 0 ∷ 1 ∷ 0 ∷ 200 ∷ 0 ∷ []
unfolding row_of
seats = refl

pub two_places : map (λ code. may_have_places code 2) codes
    ≡ false ∷ false ∷ false ∷ false ∷ false ∷ true ∷ false ∷ false ∷ false ∷ false ∷ false ∷ false ∷ false ∷ false ∷ false ∷ []
unfolding row_of
two_places = refl

-- a code that no office has: no digits, no kind, no seat
pub no_office : (code : ℕ) (k : Kind) → row_of code ≡ None
    → (code_digits code ≡ None) × (code_proportional code ≡ false) × (allows code k ≡ false) × (most_seats code ≡ 0)
no_office code k e = rw e (refl, refl, refl, refl)

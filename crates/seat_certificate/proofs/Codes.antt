-- The code of a proportional office is small.
use Rattle.std.proofs.Common.{◌≡◌, ℕ, ◌≤◌, ◌<◌, ◌==◌, true, false, List, [], ◌∷◌, None, inl, inr, refl, arith}
use Rattle.std.specs.List.{AllByRecursion, find}
use Rattle.std.proofs.lemmas.Bool.{cases_lt}
use Rattle.std.proofs.lemmas.Bool.Decides.{nat_tests}
use Rattle.election_tables.specs.Offices.{code_proportional, office_rows, row_of}

none_above : {X : Type 0} (number : X → ℕ) (code : ℕ) (rows : List X) → AllByRecursion (λ row. number row ≤ 255) rows → 255 < code → find (λ row. code == number row) rows ≡ None
none_above number code [] few lt = refl
none_above number code (row ∷ rows) few lt =
    let low : number row ≤ 255 = few.0 in
    let other : (code == number row) ≡ false = grind (arith, nat_tests) in
    rw other (none_above number code rows few.1 lt)

pub small_code : (code : ℕ) → code_proportional code ≡ true → code ≤ 255
unfolding row_of
small_code code h = elim (cases_lt 255 code) [
  | inl lt ↦
      let none = none_above (λ row. row.code) code office_rows (omega arith, (omega arith, (omega arith, (omega arith, (omega arith, (omega arith, (omega arith, (omega arith, tt)))))))) lt in
      let g = rw none at h in
      absurd (cc)
  | inr le ↦ le
]

pub six : code_proportional 6 ≡ true
unfolding row_of
six = refl

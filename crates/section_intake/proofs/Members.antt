-- What is so of each element of a list, and of the one behind them.
use Rattle.std.proofs.Common.{◌≡◌, ℕ, zero, suc, List, [], ◌∷◌, ◌++◌, length, slice_get, Some, refl, sym, ap, ◌∙◌, subst, inl, inr, arith}
use Rattle.std.specs.List.{AllByRecursion, Contains}
use Rattle.std.proofs.lemmas.List.Elements.{Contains-append_cases}

pub all_but_last : {X : Type 0} (P : X → Type 0) (xs : List X) (x : X) → AllByRecursion P (xs ++ x ∷ []) → AllByRecursion P xs × P x
all_but_last P [] x all = (tt, all.0)
all_but_last P (y ∷ xs) x all = let rest = all_but_last P xs x all.1 in ((all.0, rest.0), rest.1)

pub all_weaker : {X : Type 0} (P Q : X → Type 0) (xs : List X) → ((x : X) → P x → Q x) → AllByRecursion P xs → AllByRecursion Q xs
all_weaker P Q [] from all = tt
all_weaker P Q (x ∷ xs) from all = (from x all.0, all_weaker P Q xs from all.1)

pub all_at : {X : Type 0} (P : X → Type 0) (xs : List X) (k : ℕ) (x : X) → AllByRecursion P xs → slice_get xs k ≡ Some x → P x
all_at P [] k x all e = absurd (cc)
all_at P (y ∷ xs) zero x all e = let same : y ≡ x = cc in subst P same all.0
all_at P (y ∷ xs) (suc k) x all e = all_at P xs k x all.1 e

-- a list of one has that one alone
pub only : {X : Type 0} (y x : X) → Contains (y ∷ []) x → y ≡ x
only y x (zero, lt, e) = e
only y x (suc k, lt, e) = absurd (omega arith)

pub member_at : {X : Type 0} (xs : List X) (k : ℕ) (x : X) → slice_get xs k ≡ Some x → Contains xs x
member_at [] k x e = absurd (cc)
member_at (y ∷ xs) zero x e = let same : y ≡ x = cc in (0, omega arith, same)
member_at (y ∷ xs) (suc k) x e = let (i, lt, is) = member_at xs k x e in (suc i, omega arith, is)

-- a list with one member of x taken out has every other member, and is shorter
pub taken : {X : Type 0} (xs : List X) (x : X) → Contains xs x
    → (rest : List X) × (suc (length rest) ≡ length xs) × ((y : X) → Contains xs y → (y ≡ x → ⊥) → Contains rest y)
taken [] x (k, lt, e) = absurd (omega arith)
taken (z ∷ xs) x at = elim (Contains-append_cases (z ∷ []) xs x at) [
  | inl one ↦
      let is = only z x one in
      (xs, refl, λ y there ne. elim (Contains-append_cases (z ∷ []) xs y there) [ inl e ↦ absurd (ne (sym (only z y e) ∙ is)) | inr t ↦ t ])
  | inr later ↦
      let (rest, len, others) = taken xs x later in
      (z ∷ rest, ap suc len, λ y there ne. elim (Contains-append_cases (z ∷ []) xs y there) [ inl e ↦ (0, omega arith, only z y e) | inr t ↦ let (k, lt, e) = others y t ne in (suc k, omega arith, e) ])
]

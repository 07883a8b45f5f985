-- How many pages change.
use Rattle.std.proofs.Common.{◌≡◌, ◌≢◌, ℕ, zero, suc, ◌+◌, ◌<◌, ◌≤◌, ◌⊎◌, inl, inr, Bool, true, false, cond, not, List, [], ◌∷◌, length, refl, ap, ◌∙◌, arith}
use Rattle.std.specs.List.{filter, range_with_len}
use Rattle.std.proofs.lemmas.Bool.{cases_eq}
use Rattle.std.proofs.lemmas.Slice.Eq.{bytes_eq-Decides}
use Rattle.gate_slot.specs.Page.{page, is_changed, changed_below}
use Rattle.gate_slot.proofs.Paging.{changed_from, same_page}

unchanged : (old new : List ℕ) (k : ℕ) → page k old ≡ page k new → is_changed old new k ≡ false
unchanged old new k same = ap not ((bytes_eq-Decides (page k old) (page k new)).1 same)

-- an element more is no fewer
no_fewer : (t : Bool) (x : ℕ) (xs : List ℕ) → length xs ≤ length (cond t (x ∷ xs) xs)
no_fewer true x xs = omega arith
no_fewer false x xs = omega arith

-- what passes the first test passes one of the other two
few_pass : (p q r : ℕ → Bool) → ((x : ℕ) → p x ≡ true → (q x ≡ true) ⊎ (r x ≡ true)) → (xs : List ℕ) → length (filter p xs) ≤ length (filter q xs) + length (filter r xs)
few_pass p q r one [] = omega arith
few_pass p q r one (x ∷ xs) = by (few_pass p q r one xs) (p x) (q x) (r x) (one x)
  where
    by : length (filter p xs) ≤ length (filter q xs) + length (filter r xs) → (s t u : Bool) → (s ≡ true → (t ≡ true) ⊎ (u ≡ true))
        → length (cond s (x ∷ filter p xs) (filter p xs)) ≤ length (cond t (x ∷ filter q xs) (filter q xs)) + length (cond u (x ∷ filter r xs) (filter r xs))
    by few false t u either = omega (arith, few, no_fewer t x (filter q xs), no_fewer u x (filter r xs))
    by few true true u either = omega (arith, few, no_fewer u x (filter r xs))
    by few true false true either = omega (arith, few)
    by few true false false either = elim (either refl) [
      | inl is ↦ absurd (cc)
      | inr is ↦ absurd (cc)
    ]

-- a page that changes on the way from one body to a third changes on one of the two parts of it
pub changed_in_two : (a b c : List ℕ) (n : ℕ) → length (changed_below n a c) ≤ length (changed_below n a b) + length (changed_below n b c)
changed_in_two a b c n = few_pass (is_changed a c) (is_changed a b) (is_changed b c) either (range_with_len 0 n)
  where
    either : (k : ℕ) → is_changed a c k ≡ true → (is_changed a b k ≡ true) ⊎ (is_changed b c k ≡ true)
    either k is = by (is_changed a b k) (is_changed b c k) refl refl
      where
        by : (t u : Bool) → is_changed a b k ≡ t → is_changed b c k ≡ u → (t ≡ true) ⊎ (u ≡ true)
        by true u first second = inl refl
        by false true first second = inr refl
        by false false first second =
            let same = unchanged a c k (same_page a b k first ∙ same_page b c k second) in absurd (cc (is, same))

-- bodies that agree but in one page
module _ (old new : List ℕ) (p : ℕ) (agree : (k : ℕ) → k ≢ p → page k old ≡ page k new) where
  -- another page is left out
  left_out : (k : ℕ) (rest : List ℕ) → k ≢ p → cond (is_changed old new k) (k ∷ rest) rest ≡ rest
  left_out k rest other = ap (λ (t : Bool). cond t (k ∷ rest) rest) (unchanged old new k (agree k other))

  none_behind : (k m : ℕ) → p < k → changed_from old new k m ≡ []
  none_behind k zero behind = refl
  none_behind k (suc m) behind =
      left_out k (changed_from old new (k + 1) m) (λ same. omega (arith, same, behind)) ∙ none_behind (k + 1) m (omega (arith, behind))

  at_most_one : (k m : ℕ) → length (changed_from old new k m) ≤ 1
  at_most_one k zero = omega arith
  at_most_one k (suc m) = elim (cases_eq k p) [
    | inl same ↦
        let none = ap length (none_behind (k + 1) m (omega (arith, same))) in
        one_more (is_changed old new k) (changed_from old new (k + 1) m) none
    | inr other ↦ omega (arith, ap length (left_out k (changed_from old new (k + 1) m) other), at_most_one (k + 1) m)
  ]
    where
      one_more : (t : Bool) (rest : List ℕ) → length rest ≡ 0 → length (cond t (k ∷ rest) rest) ≤ 1
      one_more true rest none = omega (arith, none)
      one_more false rest none = omega (arith, none)

  pub one_page_changes : (n : ℕ) → length (changed_below n old new) ≤ 1
  one_page_changes n = at_most_one 0 n

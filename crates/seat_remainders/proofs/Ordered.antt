-- Candidates in their order: the same candidates, those of more votes first
use Rattle.std.proofs.Common.{◌≡◌, ℕ, zero, suc, ◌+◌, ◌≤◌, Bool, true, false, cond, nat_le, ltb, List, [], ◌∷◌, length, drop, sum_by, count_by, inl, inr, refl, ap, ◌∙◌, arith}
use Rattle.std.specs.List.{AllByRecursion, list_any}
use Rattle.std.specs.List.Sorted.{IsPermutation}
use Rattle.std.proofs.lemmas.Bool.{cases_Bool}
use Rattle.std.proofs.lemmas.Bool.Decides.{nat_tests}
use Rattle.std.proofs.lemmas.List.Elements.{All-from_recursion, recursion_from_All}
use Rattle.std.proofs.lemmas.List.Sums.{sum_by-cons}
use Rattle.std.proofs.lemmas.List.Sorted.{All-permutation, IsPermutation-refl, IsPermutation-trans, IsPermutation-cons, IsPermutation-middle, length_permutation, sum_by-IsPermutation}
use Rattle.seat_remainders.specs.declared.contest.Entry.{Entry}
use Rattle.seat_remainders.specs.Candidates.{stands_first, with_candidate, in_order, AreInOrder}

-- The same candidates

with-permutation_at : (c d : Entry) (xs : List Entry) (b : Bool) → IsPermutation (c ∷ xs) (with_candidate c xs) → IsPermutation (c ∷ d ∷ xs) (cond b (c ∷ d ∷ xs) (d ∷ with_candidate c xs))
with-permutation_at c d xs true more = IsPermutation-refl (c ∷ d ∷ xs)
with-permutation_at c d xs false more =
    IsPermutation-trans (c ∷ d ∷ xs) (d ∷ c ∷ xs) (d ∷ with_candidate c xs) (IsPermutation-middle (c ∷ []) d xs) (IsPermutation-cons d (c ∷ xs) (with_candidate c xs) more)

with-permutation : (c : Entry) (xs : List Entry) → IsPermutation (c ∷ xs) (with_candidate c xs)
with-permutation c [] = IsPermutation-refl (c ∷ [])
with-permutation c (d ∷ xs) = with-permutation_at c d xs (stands_first c d) (with-permutation c xs)

pub in_order-permutation : (xs : List Entry) → IsPermutation xs (in_order xs)
in_order-permutation [] = IsPermutation-refl []
in_order-permutation (c ∷ xs) =
    IsPermutation-trans (c ∷ xs) (c ∷ in_order xs) (with_candidate c (in_order xs)) (IsPermutation-cons c xs (in_order xs) (in_order-permutation xs)) (with-permutation c (in_order xs))

pub all_moved : (P : Entry → Type 0) (xs ys : List Entry) → IsPermutation xs ys → AllByRecursion P xs → AllByRecursion P ys
all_moved P xs ys moved all = recursion_from_All P ys (All-permutation P xs ys moved (All-from_recursion P xs all))

pub in_order-sum : (f : Entry → ℕ) (xs : List Entry) → sum_by f (in_order xs) ≡ sum_by f xs
in_order-sum f xs = sum_by-IsPermutation f xs (in_order xs) (in_order-permutation xs)

pub in_order-length : (xs : List Entry) → length (in_order xs) ≡ length xs
in_order-length xs = length_permutation xs (in_order xs) (in_order-permutation xs)

-- The order

pub first_self : (a : Entry) → stands_first a a ≡ true
first_self a = grind (arith, nat_tests)

pub first_total : (a b : Entry) → stands_first a b ≡ false → stands_first b a ≡ true
first_total a b h = grind (arith, nat_tests)

pub first_trans : (a b c : Entry) → stands_first a b ≡ true → stands_first b c ≡ true → stands_first a c ≡ true
first_trans a b c h g = grind (arith, nat_tests)

pub first_votes : (a b : Entry) → stands_first a b ≡ true → b.votes ≤ a.votes
first_votes a b h = grind (arith, nat_tests)

-- who stands before one stands before all that this one stands before
pub all_behind : (a b : Entry) (xs : List Entry) → stands_first a b ≡ true → AllByRecursion (λ d. stands_first b d ≡ true) xs → AllByRecursion (λ d. stands_first a d ≡ true) xs
all_behind a b [] h p = tt
all_behind a b (d ∷ xs) h p = (first_trans a b d h p.0, all_behind a b xs h p.1)

all_with_at : (a c d : Entry) (xs : List Entry) (b : Bool) → stands_first a c ≡ true → stands_first a d ≡ true → AllByRecursion (λ e. stands_first a e ≡ true) xs
    → AllByRecursion (λ e. stands_first a e ≡ true) (with_candidate c xs) → AllByRecursion (λ e. stands_first a e ≡ true) (cond b (c ∷ d ∷ xs) (d ∷ with_candidate c xs))
all_with_at a c d xs true h g p more = (h, (g, p))
all_with_at a c d xs false h g p more = (g, more)

all_with : (a c : Entry) (xs : List Entry) → stands_first a c ≡ true → AllByRecursion (λ d. stands_first a d ≡ true) xs → AllByRecursion (λ d. stands_first a d ≡ true) (with_candidate c xs)
all_with a c [] h p = (h, tt)
all_with a c (d ∷ xs) h p = all_with_at a c d xs (stands_first c d) h p.0 p.1 (all_with a c xs h p.1)

with-in_order_at : (c d : Entry) (xs : List Entry) (b : Bool) → stands_first c d ≡ b → AreInOrder (d ∷ xs) → AreInOrder (with_candidate c xs) → AreInOrder (cond b (c ∷ d ∷ xs) (d ∷ with_candidate c xs))
with-in_order_at c d xs true h p more = ((h, all_behind c d xs h p.0), p)
with-in_order_at c d xs false h p more = (all_with d c xs (first_total c d h) p.0, more)

with-in_order : (c : Entry) (xs : List Entry) → AreInOrder xs → AreInOrder (with_candidate c xs)
with-in_order c [] p = (tt, tt)
with-in_order c (d ∷ xs) p = with-in_order_at c d xs (stands_first c d) refl p (with-in_order c xs p.1)

pub are_in_order : (xs : List Entry) → AreInOrder (in_order xs)
are_in_order [] = tt
are_in_order (c ∷ xs) = with-in_order c (in_order xs) (are_in_order xs)

-- A test that whoever stands first passes too: those that pass are in front

-- where one passes, so does each that stands before it
abbrev pub GoesUp : (Entry → Bool) → Type 0
GoesUp f = (a b : Entry) → stands_first a b ≡ true → f b ≡ true → f a ≡ true

count_cons : (f : Entry → Bool) (c : Entry) (xs : List Entry) (b : Bool) → f c ≡ b → count_by f (c ∷ xs) ≡ cond b 1 0 + count_by f xs
count_cons f c xs b is = sum_by-cons (λ e. cond (f e) 1 0) c xs ∙ ap (λ (b : Bool). cond b 1 0 + count_by f xs) is

-- everybody has no vote or more
pub all_have_none : (xs : List Entry) → count_by (λ c. nat_le 0 c.votes) xs ≡ length xs
all_have_none [] = refl
all_have_none (c ∷ xs) = let one = count_cons (λ e. nat_le 0 e.votes) c xs true (grind (arith, nat_tests)) in let others = all_have_none xs in omega arith

none_pass : (f : Entry → Bool) → GoesUp f → (c : Entry) (xs : List Entry) → f c ≡ false → AllByRecursion (λ d. stands_first c d ≡ true) xs → count_by f xs ≡ 0
none_pass f up c [] fails all = refl
none_pass f up c (d ∷ xs) fails all = elim (cases_Bool (f d)) [
  | inl t ↦ let e = up c d all.0 t in absurd (cc)
  | inr g ↦ let one = count_cons f d xs false g in let none = none_pass f up c xs fails all.1 in omega arith
]

pub never_below : (n : ℕ) → false ≡ ltb n 0
never_below n = grind (arith, nat_tests)

-- somebody behind the first n passes exactly where more than n pass
pub left_pass : (f : Entry → Bool) → GoesUp f → (n : ℕ) (xs : List Entry) → AreInOrder xs → list_any f (drop n xs) ≡ ltb n (count_by f xs)
left_pass f up zero [] order = refl
left_pass f up (suc n) [] order = let none : count_by f [] ≡ 0 = refl in rw none (never_below (suc n))
left_pass f up zero (c ∷ xs) order = elim (cases_Bool (f c)) [
  | inl t ↦ let m = count_cons f c xs true t in rw (m, t) (grind (arith, nat_tests))
  | inr g ↦ let m = count_cons f c xs false g in let h = left_pass f up zero xs order.1 in rw (m, g) (h ∙ ap (λ (k : ℕ). ltb 0 k) (omega arith))
]
left_pass f up (suc n) (c ∷ xs) order = elim (cases_Bool (f c)) [
  | inl t ↦ let m = count_cons f c xs true t in let h = left_pass f up n xs order.1 in rw m (h ∙ grind (arith, nat_tests))
  | inr g ↦
      let m = count_cons f c xs false g in
      let none = none_pass f up c xs g order.0 in
      let h = left_pass f up n xs order.1 in
      rw m (h ∙ rw none (grind (arith, nat_tests)))
]

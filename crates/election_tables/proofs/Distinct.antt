-- Lists in which nothing stands twice: the test, std's word, and what a sort and a look at neighbours say.
use Rattle.std.proofs.Common.{◌≡◌, ℕ, ℤ, ◌+◌, ◌<◌, Bool, true, false, not, ◌&&◌, List, [], ◌∷◌, length, get_or, Ordering, Less, Equal, Greater, IsPermutation, refl, ap, sym, ◌∙◌, arith, inl, inr}
use Rattle.std.specs.Cmp.{IsTotalOrder, both_ways}
use Rattle.std.specs.List.{list_any, AllByRecursion, IsDistinct, AllAdjacentBelow}
use Rattle.std.specs.List.Sorted.{IsSorted}
use Rattle.std.specs.Ordering.{is_lt, is_eq, eq_by_cmp, ordering_reverse, ordering_then, int_cmp}
use Rattle.std.proofs.lemmas.Cmp.{eq_by_cmp_equiv}
use Rattle.std.proofs.lemmas.Bool.{and_parts, cases_Bool, not-true, false≢true}
use Rattle.std.proofs.lemmas.List.Sorted.{IsPermutation-sym}
use Rattle.std.proofs.lemmas.Map.Keys.{IsDistinct-from_sorted, IsDistinct-IsPermutation, apart_from_distinct, sorted_from_all_adjacent}
use Rattle.election_tables.specs.Rules.{are_distinct, same_pair}

none_pass : {K : Type 0} (p : K → Bool) (xs : List K) → list_any p xs ≡ false → AllByRecursion (λ y. p y ≡ false) xs
none_pass p [] e = tt
none_pass p (x ∷ xs) e =
    elim (cases_Bool (p x)) [
      | inl pass ↦ absurd (false≢true (sym e ∙ rw pass))
      | inr miss ↦ (miss, none_pass p xs (rw miss at e))
    ]

any_fails : {K : Type 0} (p : K → Bool) (xs : List K) → AllByRecursion (λ y. p y ≡ false) xs → list_any p xs ≡ false
any_fails p [] h = refl
any_fails p (x ∷ xs) h = rw h.0 (any_fails p xs h.1)

pub IsDistinct-from_test : {K : Type 0} (same : K → K → Bool) (xs : List K) → are_distinct same xs ≡ true → IsDistinct same xs
unfolding IsDistinct
IsDistinct-from_test same [] e = tt
IsDistinct-from_test same (x ∷ xs) e =
    let (here, more) = and_parts (not (list_any (same x) xs)) (are_distinct same xs) e in
    (none_pass (same x) xs (not-true _ here), IsDistinct-from_test same xs more)

pub test_from_IsDistinct : {K : Type 0} (same : K → K → Bool) (xs : List K) → IsDistinct same xs → are_distinct same xs ≡ true
unfolding IsDistinct
test_from_IsDistinct same [] h = refl
test_from_IsDistinct same (x ∷ xs) h = rw (any_fails (same x) xs h.0) (test_from_IsDistinct same xs h.1)

-- a list and its permutation
pub are_distinct-IsPermutation : {K : Type 0} (same : K → K → Bool) (flips : (x y : K) → same x y ≡ same y x) (xs ys : List K) → IsPermutation xs ys
    → are_distinct same xs ≡ are_distinct same ys
are_distinct-IsPermutation same flips xs ys moved = both_ways _ _
    (λ e. test_from_IsDistinct same ys (IsDistinct-IsPermutation same flips xs ys moved (IsDistinct-from_test same xs e)))
    (λ e. test_from_IsDistinct same xs (IsDistinct-IsPermutation same flips ys xs (IsPermutation-sym xs ys moved) (IsDistinct-from_test same ys e)))

-- ---- neighbours of a sorted list

-- y isn't below x, and they aren't the same: x is below y
pub below : (o p : Ordering) → o ≡ ordering_reverse p → is_lt p ≡ false → is_eq o ≡ false → o ≡ Less
below Less p e h n = refl
below Equal p e h n = absurd (false≢true (sym n))
below Greater Less e h n = absurd (false≢true (sym h))
below Greater Equal e h n = absurd (cc)
below Greater Greater e h n = absurd (cc)

-- where no two neighbours of a sorted list are the same, no two elements are
pub distinct_from_neighbours : {K : Type 0} {R : K → K → Ordering} (o : IsTotalOrder R) (ys : List K) → IsSorted R ys
    → AllAdjacentBelow (λ x y. eq_by_cmp R x y ≡ false) ys (length ys) → are_distinct (eq_by_cmp R) ys ≡ true
distinct_from_neighbours o [] sorted apart = refl
distinct_from_neighbours {K} {R} o (y ∷ ys) sorted apart =
    test_from_IsDistinct (eq_by_cmp R) (y ∷ ys) (IsDistinct-from_sorted R (y ∷ ys) (sorted_from_all_adjacent o (y ∷ ys) y
    (λ k h. below _ _ (o.antisymm (get_or (y ∷ ys) k y) (get_or (y ∷ ys) (k + 1) y)) (sorted k y (omega arith) h) (apart k y h))))

-- where two neighbours are the same, the list isn't distinct
pub repeats_from_neighbours : {K : Type 0} (same : K → K → Bool) (ys : List K) (k : ℕ) (d : K) → k + 1 < length ys
    → same (get_or ys k d) (get_or ys (k + 1) d) ≡ true → are_distinct same ys ≡ false
repeats_from_neighbours same ys k d within e =
    elim (cases_Bool (are_distinct same ys)) [
      | inl pass ↦ absurd (false≢true (sym (apart_from_distinct same ys k (k + 1) d (IsDistinct-from_test same ys pass) (omega arith) within) ∙ e))
      | inr miss ↦ miss
    ]

-- ---- before and after a sort

pub differ_from_sort : {K : Type 0} {R : K → K → Ordering} (o : IsTotalOrder R) (xs ys : List K) → IsPermutation xs ys → IsSorted R ys
    → AllAdjacentBelow (λ x y. eq_by_cmp R x y ≡ false) ys (length ys) → are_distinct (eq_by_cmp R) xs ≡ true
differ_from_sort {K} {R} o xs ys moved sorted apart =
    are_distinct-IsPermutation (eq_by_cmp R) (eq_by_cmp_equiv o).symm xs ys moved ∙ distinct_from_neighbours o ys sorted apart

pub repeat_from_sort : {K : Type 0} {R : K → K → Ordering} (o : IsTotalOrder R) (xs ys : List K) (k : ℕ) (d : K) → IsPermutation xs ys → k + 1 < length ys
    → eq_by_cmp R (get_or ys k d) (get_or ys (k + 1) d) ≡ true → are_distinct (eq_by_cmp R) xs ≡ false
repeat_from_sort {K} {R} o xs ys k d moved within e =
    are_distinct-IsPermutation (eq_by_cmp R) (eq_by_cmp_equiv o).symm xs ys moved ∙ repeats_from_neighbours (eq_by_cmp R) ys k d within e

-- ---- pairs of numbers

-- one order, and then another one
pub is_eq_then : (o p : Ordering) → is_eq (ordering_then o p) ≡ (is_eq o && is_eq p)
is_eq_then Less p = refl
is_eq_then Equal p = refl
is_eq_then Greater p = refl

-- one test of pairs of numbers is the other
pub pairs_by_cmp : (xs : List (ℤ × ℤ)) → are_distinct same_pair xs ≡ are_distinct (eq_by_cmp (λ a b. ordering_then (int_cmp a.0 b.0) (int_cmp a.1 b.1))) xs
pairs_by_cmp xs = let same_tests : (λ a b. is_eq (ordering_then (int_cmp a.0 b.0) (int_cmp a.1 b.1))) ≡ same_pair = λ i (a : ℤ × ℤ) (b : ℤ × ℤ). is_eq_then (int_cmp a.0 b.0) (int_cmp a.1 b.1) i in
    ap (λ same. are_distinct same xs) (sym same_tests)

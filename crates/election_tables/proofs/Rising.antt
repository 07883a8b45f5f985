-- Lists that rise strictly by a key: how a sort makes them, and what a binary search finds in them.
use Rattle.std.proofs.Common.{◌≡◌, ℕ, suc, ◌+◌, ◌<◌, Bool, true, false, List, [], ◌∷◌, length, map, get_or, slice_get, Some, None, ◌≤◌, Ordering, Less, Equal, Greater, IsPermutation, refl, ap, sym, ◌∙◌, subst, inl, inr, arith}
use Rattle.std.specs.Cmp.{IsTotalOrder}
use Rattle.std.specs.Prelude.{nat_lt}
use Rattle.std.specs.List.{All, HoldsAt, find, list_any, position, position_or_len}
use Rattle.std.specs.List.Sorted.{IsSortedByKey, IsStrictlySortedBy, IsPartitionPoint}
use Rattle.std.specs.Ordering.{is_eq, is_lt, eq_by_cmp, ordering_reverse}
use Rattle.std.proofs.lemmas.Bool.{cases_Bool, cases_lt}
use Rattle.std.proofs.lemmas.List.Elements.{All-head, All-tail}
use Rattle.std.proofs.lemmas.List.{get_or-map, length-map}
use Rattle.std.proofs.lemmas.List.Folds.{find_at}
use Rattle.std.proofs.lemmas.List.Sorted.{IsPermutation-map}
use Rattle.std.proofs.lemmas.List.Sums.{position_or_len_is}
use Rattle.std.proofs.lemmas.Map.Keys.{apart_from_distinct, sorted_from_all_adjacent, Less-from_sorted}
use Rattle.std.proofs.lemmas.Map.Lookups.{CmpEqualImpliesEq}
use Rattle.std.proofs.lemmas.Bool.Decides.{nat_tests}
use Rattle.std.proofs.lemmas.Option.{slice_get-get_or, slice_get_cases, slice_get_past}
use Rattle.election_tables.specs.Rules.{are_distinct}
use Rattle.election_tables.proofs.Distinct.{IsDistinct-from_test, are_distinct-IsPermutation, below}

-- ---- a sort

-- what is sorted by keys that differ rises strictly
pub strict_from_sort : {X K : Type 0} {R : K → K → Ordering} (o : IsTotalOrder R) (key : X → K) (xs : List X) → IsSortedByKey key R xs
    → are_distinct (eq_by_cmp R) (map key xs) ≡ true → IsStrictlySortedBy R (map key xs)
unfolding IsStrictlySortedBy
strict_from_sort o key [] sorted distinct = tt
strict_from_sort {X} {K} {R} o key (x ∷ xs) sorted distinct =
    let ys : List X = x ∷ xs in
    let keys : List K = map key ys in
    let same_length : length keys ≡ length ys = length-map ys key in
    sorted_from_all_adjacent o keys (key x)
    (λ k h.
    let within : k + 1 < length ys = omega (arith, same_length) in
    let here : get_or keys k (key x) ≡ key (get_or ys k x) = get_or-map key ys k x (key x) (omega arith) in
    let next : get_or keys (k + 1) (key x) ≡ key (get_or ys (k + 1) x) = get_or-map key ys (k + 1) x (key x) within in
    let apart = apart_from_distinct (eq_by_cmp R) keys k (k + 1) (key x) (IsDistinct-from_test (eq_by_cmp R) keys distinct) (omega arith) h in
    rw (here, next) (below _ _ (o.antisymm (key (get_or ys k x)) (key (get_or ys (k + 1) x))) (sorted k x (omega arith) within) (rw (here, next) at apart)))

-- ---- keys that differ in the document differ in the tables

same_any : {E X K J : Type 0} (same : J → J → Bool) (entry_key : E → J) (entry : X → E) (key : X → K) (R : K → K → Ordering)
    → ((x y : X) → same (entry_key (entry x)) (entry_key (entry y)) ≡ eq_by_cmp R (key x) (key y)) → (x : X) (xs : List X)
    → list_any (same (entry_key (entry x))) (map entry_key (map entry xs)) ≡ list_any (eq_by_cmp R (key x)) (map key xs)
same_any same entry_key entry key R tests x [] = refl
same_any same entry_key entry key R tests x (y ∷ ys) = rw (tests x y, same_any same entry_key entry key R tests x ys) refl

pub same_distinct : {E X K J : Type 0} (same : J → J → Bool) (entry_key : E → J) (entry : X → E) (key : X → K) (R : K → K → Ordering)
    → ((x y : X) → same (entry_key (entry x)) (entry_key (entry y)) ≡ eq_by_cmp R (key x) (key y)) → (xs : List X)
    → are_distinct same (map entry_key (map entry xs)) ≡ are_distinct (eq_by_cmp R) (map key xs)
same_distinct same entry_key entry key R tests [] = refl
same_distinct same entry_key entry key R tests (x ∷ xs) =
    rw (same_any same entry_key entry key R tests x xs, same_distinct same entry_key entry key R tests xs) refl

pub distinct_keys : {E X K J : Type 0} (same : J → J → Bool) (flips : (a b : J) → same a b ≡ same b a) (entry_key : E → J) (entry : X → E) (key : X → K) (R : K → K → Ordering)
    → ((x y : X) → same (entry_key (entry x)) (entry_key (entry y)) ≡ eq_by_cmp R (key x) (key y)) → (entries : List E) (xs : List X)
    → IsPermutation entries (map entry xs) → are_distinct same (map entry_key entries) ≡ true → are_distinct (eq_by_cmp R) (map key xs) ≡ true
distinct_keys same flips entry_key entry key R tests entries xs moved distinct =
    sym (same_distinct same entry_key entry key R tests xs)
    ∙ sym (are_distinct-IsPermutation same flips (map entry_key entries) (map entry_key (map entry xs)) (IsPermutation-map entry_key entries (map entry xs) moved))
    ∙ distinct

-- ---- a search

-- the place where the key stands is the one that a search from the front finds
found_place : {X K : Type 0} {R : K → K → Ordering} (exact : CmpEqualImpliesEq R) (key : X → K) (q : K) (p : X → Bool)
    → ((x : X) → p x ≡ eq_by_cmp R (key x) q) → (xs : List X) → IsStrictlySortedBy R (map key xs) → (i : ℕ) (x : X) → i < length xs
    → HoldsAt (λ y. R (key y) q ≡ Equal) xs i → position_or_len p xs ≡ i
found_place {X} {K} {R} exact key q p tests xs rise i x within at =
    let tied : R (key (get_or xs i x)) q ≡ Equal = at x in
    let same : key (get_or xs i x) ≡ q = exact _ _ tied in
    let same_length : length (map key xs) ≡ length xs = length-map xs key in
    let before : (k : ℕ) → k < i → p (get_or xs k x) ≡ false =
    λ k h. (
    let less : R (get_or (map key xs) k (key x)) (get_or (map key xs) i (key x)) ≡ Less = Less-from_sorted R (map key xs) k i (key x) rise h (omega (arith, same_length)) in
    let first : get_or (map key xs) k (key x) ≡ key (get_or xs k x) = get_or-map key xs k x (key x) (omega arith) in
    let second : get_or (map key xs) i (key x) ≡ key (get_or xs i x) = get_or-map key xs i x (key x) within in
    let lower : R (key (get_or xs k x)) q ≡ Less = rw (first, second, same) at less in
    tests (get_or xs k x) ∙ ap is_eq lower) in
    position_or_len_is p xs i x (omega arith) before (λ _. tests (get_or xs i x) ∙ ap is_eq tied)

pub found_at : {X K : Type 0} {R : K → K → Ordering} (exact : CmpEqualImpliesEq R) (key : X → K) (q : K) (p : X → Bool)
    → ((x : X) → p x ≡ eq_by_cmp R (key x) q) → (xs : List X) → IsStrictlySortedBy R (map key xs) → (i : ℕ) → i < length xs
    → HoldsAt (λ y. R (key y) q ≡ Equal) xs i → position p xs ≡ Some i
found_at {X} exact key q p tests xs rise i within at = elim ((slice_get_cases xs i).1) [
  | inl there ↦
      let place : position_or_len p xs ≡ i = found_place exact key q p tests xs rise i there.0 within at in
      let lt : nat_lt i (length xs) ≡ true = grind (arith, nat_tests) in
      rw (place, lt) refl
  | inr past ↦ absurd (let gone = past.0 in omega arith)
]

-- and what stands there is what it finds
pub found : {X K : Type 0} {R : K → K → Ordering} (exact : CmpEqualImpliesEq R) (key : X → K) (q : K) (p : X → Bool)
    → ((x : X) → p x ≡ eq_by_cmp R (key x) q) → (xs : List X) → IsStrictlySortedBy R (map key xs) → (i : ℕ) (x : X) → i < length xs
    → HoldsAt (λ y. R (key y) q ≡ Equal) xs i → x ≡ get_or xs i x → find p xs ≡ Some x
found exact key q p tests xs rise i x within at here =
    find_at p xs ∙ ap (slice_get xs) (found_place exact key q p tests xs rise i x within at) ∙ slice_get-get_or xs i x within ∙ ap Some (sym here)

-- where the key stands nowhere a search from the front finds nothing
nowhere : {X : Type 0} (p : X → Bool) (xs : List X) → ((k : ℕ) (d : X) → k < length xs → p (get_or xs k d) ≡ false) → find p xs ≡ None
nowhere p [] misses = refl
nowhere p (x ∷ xs) misses =
    let first : p x ≡ false = misses 0 x (omega arith) in
    rw first (nowhere p xs (λ k d h. misses (suc k) d (omega arith)))

pub missing : {X K : Type 0} (R : K → K → Ordering) (key : X → K) (q : K) (p : X → Bool)
    → ((x : X) → p x ≡ eq_by_cmp R (key x) q) → (xs : List X) (i : ℕ)
    → IsPartitionPoint (λ y. R (key y) q ≡ Less) (λ y. R (key y) q ≡ Greater) xs i → find p xs ≡ None
missing R key q p tests xs i parts =
    nowhere p xs (λ k d h. elim (cases_lt k i) [
      | inl before ↦ tests (get_or xs k d) ∙ ap is_eq (parts.0 k d (omega arith) before)
      | inr after ↦ tests (get_or xs k d) ∙ ap is_eq (parts.1 k d after h)
    ])

pub missing_at : {X : Type 0} (p : X → Bool) (xs : List X) → find p xs ≡ None → position p xs ≡ None
missing_at p xs none = elim (cases_Bool (nat_lt (position_or_len p xs) (length xs))) [
  | inl within ↦ absurd (let e = sym (sym (find_at p xs) ∙ none) in there xs (position_or_len p xs) within e)
  | inr past ↦ rw past refl
]
  where
    there : {X : Type 0} (xs : List X) (i : ℕ) → nat_lt i (length xs) ≡ true → None ≡ slice_get xs i → ⊥
    there xs i within e = elim ((slice_get_cases xs i).1) [
      | inl some ↦ let both = e ∙ some.2 in cc
      | inr past ↦ let gone = past.0 in let lt : i < length xs = grind (arith, nat_tests) in omega arith
    ]

-- what a search finds stands at the place that it finds
pub at_place : {X : Type 0} (p : X → Bool) (xs : List X) (i : ℕ) → position p xs ≡ Some i → (i < length xs) × (find p xs ≡ slice_get xs i)
at_place p xs i e = elim (cases_Bool (nat_lt (position_or_len p xs) (length xs))) [
  | inl within ↦
      let same : position_or_len p xs ≡ i = (let some : Some (position_or_len p xs) ≡ Some i = rw within at e in cc) in
      let lt : position_or_len p xs < length xs = grind (arith, nat_tests) in
      (omega arith, find_at p xs ∙ ap (slice_get xs) same)
  | inr past ↦ absurd (let none : None ≡ Some i = rw past at e in cc)
]

pub no_place : {X : Type 0} (p : X → Bool) (xs : List X) → position p xs ≡ None → find p xs ≡ None
no_place p xs e = elim (cases_Bool (nat_lt (position_or_len p xs) (length xs))) [
  | inl within ↦ absurd (let some : Some (position_or_len p xs) ≡ None = rw within at e in cc)
  | inr past ↦
      let gone : length xs ≤ position_or_len p xs = grind (arith, nat_tests) in
      find_at p xs ∙ slice_get_past xs (position_or_len p xs) gone
]

-- what is so of each element is so of the one that is found
pub find_all : {X : Type 0} (P : X → Type 0) (p : X → Bool) (xs : List X) (x : X) → All P xs → find p xs ≡ Some x → P x
find_all P p [] x all e = cc
find_all P p (y ∷ ys) x all e = elim (cases_Bool (p y)) [
  | inl pass ↦ (let same : y ≡ x = (let e2 : Some y ≡ Some x = rw pass at e in cc) in subst P same (All-head P y ys all))
  | inr miss ↦ find_all P p ys x (All-tail P y ys all) (rw miss at e)
]

-- and it passes the test
pub find_passes : {X : Type 0} (p : X → Bool) (xs : List X) (x : X) → find p xs ≡ Some x → p x ≡ true
find_passes p [] x e = cc
find_passes p (y ∷ ys) x e = elim (cases_Bool (p y)) [
  | inl pass ↦ (let same : y ≡ x = (let e2 : Some y ≡ Some x = rw pass at e in cc) in rw same at pass)
  | inr miss ↦ find_passes p ys x (rw miss at e)
]

-- each neighbour of a strict order isn't above the next
pub sorted_from_strict : {X K : Type 0} {R : K → K → Ordering} (o : IsTotalOrder R) (key : X → K) (xs : List X) → IsStrictlySortedBy R (map key xs) → IsSortedByKey key R xs
sorted_from_strict {X} {K} {R} o key xs rise k d low within =
    let same_length : length (map key xs) ≡ length xs = length-map xs key in
    let less : R (get_or (map key xs) k (key d)) (get_or (map key xs) (k + 1) (key d)) ≡ Less = Less-from_sorted R (map key xs) k (k + 1) (key d) rise (omega arith) (omega (arith, same_length)) in
    let first : get_or (map key xs) k (key d) ≡ key (get_or xs k d) = get_or-map key xs k d (key d) (omega arith) in
    let second : get_or (map key xs) (k + 1) (key d) ≡ key (get_or xs (k + 1) d) = get_or-map key xs (k + 1) d (key d) within in
    let lower : R (key (get_or xs k d)) (key (get_or xs (k + 1) d)) ≡ Less = rw (first, second) at less in
    ap is_lt (o.antisymm (key (get_or xs (k + 1) d)) (key (get_or xs k d)) ∙ ap ordering_reverse lower)

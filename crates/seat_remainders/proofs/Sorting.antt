-- A sorted vector has the order of candidates.
use Rattle.std.proofs.Common.{◌≡◌, ℕ, suc, ◌+◌, ◌≤◌, ◌<◌, Bool, true, false, not, cond, nat_le, ◌&&◌, ◌==◌, List, [], ◌∷◌, ◌++◌, length, take, get_or, count_by, filter, inl, inr, sym, refl, ap, ◌∙◌, subst, arith}
use Rattle.std.specs.List.{AllByRecursion}
use Rattle.std.specs.List.Sorted.{IsPermutation, IsSorted, IsSplitAround}
use Rattle.std.specs.Ordering.{nat_cmp, on, flip_args, then_cmp, is_lt}
use Rattle.std.specs.declared.cmp.Ordering.{Ordering}
use Rattle.std.proofs.lemmas.Bool.{cases_Bool, not-true}
use Rattle.std.proofs.lemmas.Bool.Decides.{nat_tests}
use Rattle.std.proofs.lemmas.List.{take-append-le}
use Rattle.std.proofs.lemmas.List.Elements.{filter_passes, recursion_from_All}
use Rattle.std.proofs.lemmas.List.Filters.{sum_by-filter_both}
use Rattle.std.proofs.lemmas.List.Sums.{sum_by-cons, sum_by-append}
use Rattle.std.proofs.lemmas.List.Sorted.{length_permutation, sum_by-IsPermutation}
use Rattle.std.proofs.Math.Seq.{take-append_seam}
use Rattle.urna_base.proofs.Every.{every_append}
use Rattle.seat_remainders.specs.declared.contest.Entry.{Entry}
use Rattle.seat_remainders.specs.Candidates.{stands_first, in_order, AreInOrder}
use Rattle.seat_remainders.proofs.Ordered.{GoesUp, first_self, first_total, all_behind, all_moved, are_in_order, in_order-length, in_order-permutation, in_order-sum}

same_entry : (a b : Entry) → a.number ≡ b.number → a.birth ≡ b.birth → a.votes ≡ b.votes → a ≡ b
same_entry a b e f g =
    let make : ℕ → ℕ → ℕ → Entry = λ n d v. record { number = n; birth = d; votes = v } in
    ap (λ n. make n a.birth a.votes) e ∙ ap (λ d. make b.number d a.votes) f ∙ ap (λ v. make b.number b.birth v) g

-- two candidates that stand before each other are one
first_antisym : (a b : Entry) → stands_first a b ≡ true → stands_first b a ≡ true → a ≡ b
first_antisym a b h g = same_entry a b (grind (arith, nat_tests)) (grind (arith, nat_tests)) (grind (arith, nat_tests))

-- How many of the candidates are this one

abbrev is_same : Entry → Entry → Bool
is_same a b = a.number == b.number && (a.birth == b.birth && a.votes == b.votes)

same_true : (a b : Entry) → is_same a b ≡ true → a ≡ b
same_true a b h = same_entry a b (grind (arith, nat_tests)) (grind (arith, nat_tests)) (grind (arith, nat_tests))

same_self : (a : Entry) → is_same a a ≡ true
same_self a = grind (arith, nat_tests)

abbrev count_of : Entry → List Entry → ℕ
count_of a xs = count_by (is_same a) xs

count_cons : (a x : Entry) (xs : List Entry) → count_of a (x ∷ xs) ≡ cond (is_same a x) 1 0 + count_of a xs
count_cons a x xs = sum_by-cons (λ e. cond (is_same a e) 1 0) x xs

count_first : (x : Entry) (xs : List Entry) → count_of x (x ∷ xs) ≡ 1 + count_of x xs
count_first x xs = count_cons x x xs ∙ ap (λ (b : Bool). cond b 1 0 + count_of x xs) (same_self x)

among : (y x : Entry) (xs : List Entry) → AllByRecursion (λ e. stands_first x e ≡ true) xs → 1 ≤ count_of y xs → stands_first x y ≡ true
among y x [] all n = absurd (omega arith)
among y x (e ∷ xs) all n = elim (cases_Bool (is_same y e)) [
  | inl t ↦ subst (λ (z : Entry). stands_first x z ≡ true) (sym (same_true y e t)) all.0
  | inr f ↦ among y x xs all.1 (let d : count_of y (e ∷ xs) ≡ 0 + count_of y xs = count_cons y e xs ∙ ap (λ (b : Bool). cond b 1 0 + count_of y xs) f in omega arith)
]

first_le : (y x : Entry) (xs : List Entry) → AllByRecursion (λ e. stands_first x e ≡ true) xs → 1 ≤ count_of y (x ∷ xs) → stands_first x y ≡ true
first_le y x xs all n = among y x (x ∷ xs) (first_self x, all) n

-- candidates in order are known by how many there are of each
same_order : (a b : List Entry) → AreInOrder a → AreInOrder b → ((c : Entry) → count_of c a ≡ count_of c b) → a ≡ b
same_order [] [] p q h = refl
same_order [] (y ∷ ys) p q h = let e = count_first y ys in let d = h y in absurd (omega arith)
same_order (x ∷ xs) [] p q h = let e = count_first x xs in let d = h x in absurd (omega arith)
same_order (x ∷ xs) (y ∷ ys) p q h =
    let cy = count_first y ys in
    let cx = count_first x xs in
    let hy = h y in
    let hx = h x in
    let e : x ≡ y = first_antisym x y (first_le y x xs p.0 (omega arith)) (first_le x y ys q.0 (omega arith)) in
    let tails : xs ≡ ys = same_order xs ys p.1 q.1 (λ c.
    let l = count_cons c x xs in
    let r = count_cons c y ys in
    let m = h c in
    let k : cond {A = ℕ} (is_same c x) 1 0 ≡ cond (is_same c y) 1 0 = ap (λ (z : Entry). cond {A = ℕ} (is_same c z) 1 0) e in
    omega arith) in
    ap (λ (z : Entry). z ∷ xs) e ∙ ap (λ (t : List Entry). y ∷ t) tails

-- The order of the sort

abbrev order_of : Entry → Entry → Ordering
order_of = then_cmp (flip_args (on (λ (c : Entry). c.votes) nat_cmp)) (then_cmp (on (λ (c : Entry). c.birth) nat_cmp) (on (λ (c : Entry). c.number) nat_cmp))

not_after : (a b : Entry) → is_lt (order_of b a) ≡ false → stands_first a b ≡ true
not_after a b h = grind (arith, nat_tests)

from_sorted : (xs : List Entry) → ((k : ℕ) (d : Entry) → suc k < length xs → stands_first (get_or xs k d) (get_or xs (suc k) d) ≡ true) → AreInOrder xs
from_sorted [] h = tt
from_sorted (x ∷ []) h = (tt, tt)
from_sorted (x ∷ y ∷ xs) h =
    let rest = from_sorted (y ∷ xs) (λ k d lt. h (suc k) d (omega arith)) in
    let first = h 0 x (omega arith) in
    ((first, all_behind x y xs first rest.0), rest)

-- sorted candidates stand in order
in_order_of_sorted : (xs : List Entry) → IsSorted order_of xs → AreInOrder xs
in_order_of_sorted xs sorted =
    from_sorted xs (λ k d lt.
    let next : k + 1 ≡ suc k = omega arith in
    subst (λ (n : ℕ). stands_first (get_or xs k d) (get_or xs n d) ≡ true) next (not_after (get_or xs k d) (get_or xs (k + 1) d) (sorted k d (omega arith) (omega arith))))

count_moved : (c : Entry) (xs ys : List Entry) → IsPermutation xs ys → count_of c ys ≡ count_of c xs
count_moved c xs ys moved = sum_by-IsPermutation (λ e. cond (is_same c e) 1 0) xs ys moved

count_ordered : (c : Entry) (xs : List Entry) → count_of c (in_order xs) ≡ count_of c xs
count_ordered c xs = in_order-sum (λ e. cond (is_same c e) 1 0) xs

pub sorted_is : (xs ys : List Entry) → IsPermutation xs ys → IsSorted order_of ys → ys ≡ in_order xs
sorted_is xs ys moved sorted = same_order ys (in_order xs) (in_order_of_sorted ys sorted) (are_in_order xs) (λ c. count_moved c xs ys moved ∙ sym (count_ordered c xs))

-- The first alone, sorted

-- candidates in order behind others in order, each of whom stands before each of them
order-append : (xs ys : List Entry) → AreInOrder xs → AreInOrder ys → AllByRecursion (λ a. AllByRecursion (λ b. stands_first a b ≡ true) ys) xs → AreInOrder (xs ++ ys)
order-append [] ys p q all = q
order-append (x ∷ xs) ys p q all = (every_append (λ b. stands_first x b ≡ true) xs ys p.0 all.0, order-append xs ys p.1 q all.1)

-- who stands before one stands before all that this one stands before
each_before : (x : Entry) (xs ys : List Entry) → AllByRecursion (λ a. stands_first a x ≡ true) xs → AllByRecursion (λ b. stands_first x b ≡ true) ys → AllByRecursion (λ a. AllByRecursion (λ b. stands_first a b ≡ true) ys) xs
each_before x [] ys p q = tt
each_before x (a ∷ xs) ys p q = (all_behind a x ys p.0 q, each_before x xs ys p.1 q)

-- where nobody of the front stands behind one, and nobody of the rest before it, the front, sorted, is the first of all
pub front_is : (xs front back sorted : List Entry) (x : Entry) → IsPermutation xs (front ++ x ∷ back) → IsSplitAround order_of front x back → IsPermutation front sorted → IsSorted order_of sorted
    → sorted ≡ take (length front) (in_order xs)
front_is xs front back sorted x moved (before, after) same up =
    let behind = in_order (x ∷ back) in
    let to_x = recursion_from_All (λ a. stands_first a x ≡ true) front (λ k d lt. not_after (get_or front k d) x (before k d lt)) in
    let from_x = recursion_from_All (λ b. stands_first x b ≡ true) back (λ k d lt. not_after x (get_or back k d) (after k d lt)) in
    let ordered : AreInOrder (sorted ++ behind) =
    order-append sorted behind (in_order_of_sorted sorted up) (are_in_order (x ∷ back)) (each_before x sorted behind (all_moved (λ a. stands_first a x ≡ true) front sorted same to_x)
    (all_moved (λ b. stands_first x b ≡ true) (x ∷ back) behind (in_order-permutation (x ∷ back)) (first_self x, from_x))) in
    let whole : sorted ++ behind ≡ in_order xs = same_order (sorted ++ behind) (in_order xs) ordered (are_in_order xs) (λ c.
    let test : Entry → ℕ = λ e. cond (is_same c e) 1 0 in
    let one = sum_by-append test sorted behind in
    let two = sum_by-append test front (x ∷ back) in
    let three = count_moved c front sorted same in
    let four = count_ordered c (x ∷ back) in
    let five = count_moved c xs (front ++ x ∷ back) moved in
    let six = count_ordered c xs in
    omega arith) in
    let len = length_permutation front sorted same in
    sym (take-append_seam sorted behind) ∙ ap (λ (n : ℕ). take n (sorted ++ behind)) len ∙ ap (λ (l : List Entry). take (length front) l) whole

-- Those who pass a test alone, where whoever stands before one who passes does too

-- who passes stands before who fails
passes_first : (f : Entry → Bool) → GoesUp f → (a b : Entry) → f a ≡ true → not (f b) ≡ true → stands_first a b ≡ true
passes_first f up a b passes fails = elim (cases_Bool (stands_first a b)) [
  | inl t ↦ t
  | inr h ↦ let e = up b a (first_total a b h) passes in let g = not-true (f b) fails in absurd (cc)
]

before_all : (f : Entry → Bool) → GoesUp f → (a : Entry) (ys : List Entry) → f a ≡ true → AllByRecursion (λ b. not (f b) ≡ true) ys → AllByRecursion (λ b. stands_first a b ≡ true) ys
before_all f up a [] passes fail = tt
before_all f up a (b ∷ ys) passes fail = (passes_first f up a b passes fail.0, before_all f up a ys passes fail.1)

each_passes_first : (f : Entry → Bool) → GoesUp f → (xs ys : List Entry) → AllByRecursion (λ a. f a ≡ true) xs → AllByRecursion (λ b. not (f b) ≡ true) ys → AllByRecursion (λ a. AllByRecursion (λ b. stands_first a b ≡ true) ys) xs
each_passes_first f up [] ys pass fail = tt
each_passes_first f up (a ∷ xs) ys pass fail = (before_all f up a ys pass.0 fail, each_passes_first f up xs ys pass.1 fail)

-- the first of all are the first of those who pass, where so many do
pub front_passes : (f : Entry → Bool) → GoesUp f → (n : ℕ) (xs : List Entry) → n ≤ length (filter f xs) → take n (in_order (filter f xs)) ≡ take n (in_order xs)
front_passes f up n xs enough =
    let fails : Entry → Bool = λ e. not (f e) in
    let able = in_order (filter f xs) in
    let others = in_order (filter fails xs) in
    let pass = all_moved (λ e. f e ≡ true) (filter f xs) able (in_order-permutation (filter f xs)) (recursion_from_All (λ e. f e ≡ true) (filter f xs) (filter_passes f xs)) in
    let fail = all_moved (λ e. not (f e) ≡ true) (filter fails xs) others (in_order-permutation (filter fails xs)) (recursion_from_All (λ e. not (f e) ≡ true) (filter fails xs) (filter_passes fails xs)) in
    let ordered : AreInOrder (able ++ others) = order-append able others (are_in_order (filter f xs)) (are_in_order (filter fails xs)) (each_passes_first f up able others pass fail) in
    let whole : able ++ others ≡ in_order xs = same_order (able ++ others) (in_order xs) ordered (are_in_order xs) (λ c.
    let test : Entry → ℕ = λ e. cond (is_same c e) 1 0 in
    let one = sum_by-append test able others in
    let two = count_ordered c (filter f xs) in
    let three = count_ordered c (filter fails xs) in
    let four = sum_by-filter_both f fails (λ e. refl) test xs in
    let five = count_ordered c xs in
    omega arith) in
    let len = in_order-length (filter f xs) in
    sym (take-append-le n able others (omega arith)) ∙ ap (λ (l : List Entry). take n l) whole

-- so many votes
pub votes_go_up : (least : ℕ) → GoesUp (λ c. nat_le least c.votes)
votes_go_up least a b h g = grind (arith, nat_tests)

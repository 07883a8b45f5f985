-- Sums over numbers that rise strictly: what stands at one of them is added once. And sums of sums, in either order.
use Rattle.std.proofs.Common.{◌≡◌, ℕ, ◌+◌, ◌<◌, ◌≤◌, ◌==◌, true, false, if◌then◌else◌, List, [], ◌∷◌, refl, sym, ap, ◌∙◌, subst, inl, inr, arith}
use Rattle.std.specs.Prelude.{nat_eq}
use Rattle.std.specs.List.{AllByRecursion, list_any, sum_by}
use Rattle.std.specs.List.Sorted.{IsStrictlyIncreasing}
use Rattle.std.proofs.lemmas.Bool.{cases_Bool}
use Rattle.std.proofs.lemmas.Bool.Decides.{nat_tests}
use Rattle.std.proofs.lemmas.List.Kept.{AllPairs-from_increasing}
use Rattle.std.proofs.lemmas.List.Sums.{sum_by-cons}
use Rattle.poll_report.proofs.Totals.{Rises, rises}

-- ---- sums of sums

pub sum_zero : {X : Type 0} (f : X → ℕ) (xs : List X) → ((x : X) → f x ≡ 0) → sum_by f xs ≡ 0
sum_zero f [] none = refl
sum_zero f (x ∷ xs) none =
    let sum = sum_by-cons f x xs in
    let first = none x in
    let rest = sum_zero f xs none in
    omega arith

pub sum_same : {X : Type 0} (f g : X → ℕ) (xs : List X) → ((x : X) → f x ≡ g x) → sum_by f xs ≡ sum_by g xs
sum_same f g [] same = refl
sum_same f g (x ∷ xs) same =
    let left = sum_by-cons f x xs in
    let right = sum_by-cons g x xs in
    let first = same x in
    let rest = sum_same f g xs same in
    omega arith

pub sum_both : {X : Type 0} (f g : X → ℕ) (xs : List X) → sum_by (λ x. f x + g x) xs ≡ sum_by f xs + sum_by g xs
sum_both f g [] = refl
sum_both {X} f g (x ∷ xs) =
    let both = sum_by-cons (λ (y : X). f y + g y) x xs in
    let left = sum_by-cons f x xs in
    let right = sum_by-cons g x xs in
    let rest = sum_both f g xs in
    omega arith

-- rows and columns have one sum
pub sums_turned : {X Y : Type 0} (f : X → Y → ℕ) (xs : List X) (ys : List Y) → sum_by (λ x. sum_by (f x) ys) xs ≡ sum_by (λ y. sum_by (λ x. f x y) xs) ys
sums_turned {X} {Y} f xs [] = sum_zero (λ (x : X). sum_by (f x) []) xs (λ x. refl)
sums_turned {X} {Y} f xs (y ∷ ys) =
    sum_same (λ (x : X). sum_by (f x) (y ∷ ys)) (λ (x : X). f x y + sum_by (f x) ys) xs (λ x. sum_by-cons (f x) y ys)
    ∙ sum_both (λ (x : X). f x y) (λ (x : X). sum_by (f x) ys) xs
    ∙ ap (λ (n : ℕ). sum_by (λ x. f x y) xs + n) (sums_turned f xs ys)
    ∙ sym (sum_by-cons (λ (z : Y). sum_by (λ x. f x z) xs) y ys)

-- ---- at one number

-- what stands at a number: its value there, and 0 at any other
abbrev pub value_at : ℕ → ℕ → ℕ → ℕ
value_at x v n = if x == n then v else 0

at_it : (x v n : ℕ) → (x == n) ≡ true → value_at x v n ≡ v
at_it x v n here = ap (λ b. if b then v else 0) here

elsewhere : (x v n : ℕ) → (x == n) ≡ false → value_at x v n ≡ 0
elsewhere x v n other = ap (λ b. if b then v else 0) other

-- numbers that are all greater have nothing of it
none_above : (x v : ℕ) (numbers : List ℕ) → AllByRecursion (λ n. x < n) numbers → sum_by (value_at x v) numbers ≡ 0
none_above x v [] above = refl
none_above x v (n ∷ numbers) above =
    let sum = sum_by-cons (value_at x v) n numbers in
    let less = above.0 in
    let first = elsewhere x v n (grind (arith, nat_tests)) in
    let rest = none_above x v numbers above.1 in
    omega arith

at_first : (x v n : ℕ) (numbers : List ℕ) → AllByRecursion (λ m. n < m) numbers → (x == n) ≡ true → sum_by (value_at x v) (n ∷ numbers) ≡ v
at_first x v n numbers above here =
    let sum = sum_by-cons (value_at x v) n numbers in
    let same : n ≡ x = grind (arith, nat_tests) in
    let first = at_it x v n here in
    let rest = none_above x v numbers (subst (λ (k : ℕ). AllByRecursion (λ m. k < m) numbers) same above) in
    omega arith

once_in : (x v : ℕ) (numbers : List ℕ) → Rises numbers → list_any (nat_eq x) numbers ≡ true → sum_by (value_at x v) numbers ≡ v
once_in x v [] rise there = absurd (cc)
once_in x v (n ∷ numbers) rise there = elim (cases_Bool (x == n)) [
  | inl here ↦ at_first x v n numbers rise.0 here
  | inr other ↦
      let sum = sum_by-cons (value_at x v) n numbers in
      let first = elsewhere x v n other in
      let rest = once_in x v numbers rise.1 (rw other at there) in
      omega arith
]

most_in : (x v : ℕ) (numbers : List ℕ) → Rises numbers → sum_by (value_at x v) numbers ≤ v
most_in x v [] rise = omega arith
most_in x v (n ∷ numbers) rise = elim (cases_Bool (x == n)) [
  | inl here ↦ let all = at_first x v n numbers rise.0 here in omega arith
  | inr other ↦
      let sum = sum_by-cons (value_at x v) n numbers in
      let first = elsewhere x v n other in
      let rest = most_in x v numbers rise.1 in
      omega arith
]

-- what stands at one of them is added once,
pub value_once : (x v : ℕ) (numbers : List ℕ) → IsStrictlyIncreasing numbers → list_any (nat_eq x) numbers ≡ true
    → sum_by (λ n. if x == n then v else 0) numbers ≡ v
value_once x v numbers rise there = once_in x v numbers (rises numbers (AllPairs-from_increasing numbers rise)) there

-- and what stands at any number once at most
pub value_at_most : (x v : ℕ) (numbers : List ℕ) → IsStrictlyIncreasing numbers → sum_by (λ n. if x == n then v else 0) numbers ≤ v
value_at_most x v numbers rise = most_in x v numbers (rises numbers (AllPairs-from_increasing numbers rise))

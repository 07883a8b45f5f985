-- A list that rises by a number comes back from its groups.
use Rattle.std.proofs.Common.{◌≡◌, ℕ, zero, suc, ◌+◌, ◌<◌, ◌≤◌, true, false, List, [], ◌∷◌, ◌++◌, take, drop, refl, sym, ap, subst, ◌∙◌, inl, inr, arith}
use Rattle.std.specs.Prelude.{◌==◌}
use Rattle.std.specs.List.{AllByRecursion, flat_map, filter, prefix_len, range_with_len}
use Rattle.std.proofs.lemmas.Bool.Decides.{nat_tests}
use Rattle.std.proofs.lemmas.Bool.{cases_Bool, eqb-true}

-- each has a number from a on and below a + n, and none has a smaller number than one before it
abbrev pub Within : {A : Type 0} → (A → ℕ) → ℕ → ℕ → List A → Type 0
Within g a n xs = AllByRecursion (λ x. (a ≤ g x) × (g x < a + n)) xs

abbrev pub Ascends : {A : Type 0} → (A → ℕ) → List A → Type 0
Ascends g [] = Unit {0}
Ascends g (x ∷ xs) = AllByRecursion (λ y. g x ≤ g y) xs × Ascends g xs

abbrev pub groups : {A : Type 0} → (A → ℕ) → List A → ℕ → ℕ → List A
groups g xs a n = flat_map (λ k. filter (λ x. g x == k) xs) (range_with_len a n)

other_number : (m n : ℕ) → m < n → (m == n) ≡ false
other_number m n h = grind (arith, nat_tests)

larger_number : (m n : ℕ) → n < m → (m == n) ≡ false
larger_number m n h = grind (arith, nat_tests)

-- no element has the number
pub none_has : {A : Type 0} (g : A → ℕ) (a : ℕ) (xs : List A) → AllByRecursion (λ x. a < g x) xs → filter (λ x. g x == a) xs ≡ []
none_has g a [] h = refl
none_has g a (x ∷ xs) h = rw (larger_number (g x) a h.0) (none_has g a xs h.1)

-- an element with a smaller number is in no later group
later_groups : {A : Type 0} (g : A → ℕ) (x : A) (xs : List A) (a n : ℕ) → g x < a → groups g (x ∷ xs) a n ≡ groups g xs a n
later_groups g x xs a zero h = refl
later_groups g x xs a (suc n) h =
    let rest = later_groups g x xs (a + 1) n (omega arith) in
    rw (other_number (g x) a h) (ap (λ l. filter (λ y. g y == a) xs ++ l) rest)

above_all : {A : Type 0} (g : A → ℕ) (a : ℕ) (x : A) (xs : List A) → a < g x → AllByRecursion (λ y. g x ≤ g y) xs
    → AllByRecursion (λ y. a < g y) xs
above_all g a x [] h l = tt
above_all g a x (y ∷ xs) h l = (omega arith, above_all g a x xs h l.1)

move_up : {A : Type 0} (g : A → ℕ) (a n : ℕ) (xs : List A) → AllByRecursion (λ x. a < g x) xs → Within g a (suc n) xs
    → Within g (a + 1) n xs
move_up g a n [] h w = tt
move_up g a n (x ∷ xs) h w = ((omega arith, omega arith), move_up g a n xs h.1 w.1)

pub strictly : (m n : ℕ) → (m == n) ≡ false → n ≤ m → n < m
strictly m n e h = grind (arith, nat_tests)

first_groups : {A : Type 0} (g : A → ℕ) (n a : ℕ) (xs : List A) → Within g a (suc n) xs → Ascends g xs
    → ((zs : List A) → Within g (a + 1) n zs → Ascends g zs → groups g zs (a + 1) n ≡ zs) → groups g xs a (suc n) ≡ xs
first_groups g n a [] w s next = next [] tt tt
first_groups {A = A} g n a (y ∷ ys) w s next =
    elim (cases_Bool (g y == a)) [
      | inl e ↦
          let same : g y ≡ a = eqb-true (g y) a e in
          let rest = first_groups g n a ys w.1 s.1 next in
          let later = later_groups g y ys (a + 1) n (omega arith) in
          rw e (ap (λ (l : List A). y ∷ (filter (λ x. g x == a) ys ++ l)) later ∙ ap (λ (l : List A). y ∷ l) rest)
      | inr e ↦
          let over = strictly (g y) a e w.0.0 in
          let all : AllByRecursion (λ x. a < g x) (y ∷ ys) = (over, above_all g a y ys over s.0) in
          rw (none_has g a (y ∷ ys) all) (next (y ∷ ys) (move_up g a n (y ∷ ys) all w) s)
    ]

-- the groups of a list that ascends are the list
pub regroup : {A : Type 0} (g : A → ℕ) (n a : ℕ) (xs : List A) → Within g a n xs → Ascends g xs → groups g xs a n ≡ xs
regroup g zero a [] w s = refl
regroup g zero a (x ∷ xs) w s = absurd (let low = w.0.0 in let high = w.0.1 in omega arith)
regroup g (suc n) a xs w s = first_groups g n a xs w s (λ ys w1 s1. regroup g n (a + 1) ys w1 s1)

-- ---- group after group, from the front

-- from the number a on, the rest of a list has the groups of the whole, and nothing below; and it ascends
pub record RestFrom {A : Type 0} (g : A → ℕ) (a : ℕ) (all rest : List A) : Type 0 where
  pub groups : (k : ℕ) → a ≤ k → filter (λ x. g x == k) rest ≡ filter (λ x. g x == k) all
  pub from : AllByRecursion (λ x. a ≤ g x) rest
  pub ascends : Ascends g rest

from_within : {A : Type 0} (g : A → ℕ) (a n : ℕ) (xs : List A) → Within g a n xs → AllByRecursion (λ x. a ≤ g x) xs
from_within g a n [] w = tt
from_within g a n (x ∷ xs) w = (w.0.0, from_within g a n xs w.1)

-- at first all is left
pub rest_of_all : {A : Type 0} (g : A → ℕ) (a n : ℕ) (all rest : List A) → rest ≡ all → Within g a n all → Ascends g all
    → RestFrom g a all rest
rest_of_all {A = A} g a n all rest e w s =
    let P : List A → Type 0 = λ l. RestFrom g a all l in
    subst P (sym e) (record { groups = λ k l. refl; from = from_within g a n all w; ascends = s })

-- how many of a group stand first, and what stands behind them
abbrev pub first_of : {A : Type 0} → (A → ℕ) → ℕ → List A → ℕ
first_of g a xs = prefix_len (λ x. g x == a) xs

abbrev behind : {A : Type 0} → (A → ℕ) → ℕ → List A → List A
behind g a xs = drop (first_of g a xs) xs

one_more : (n : ℕ) → 1 + n ≡ suc n
one_more n = omega arith

first_one : {A : Type 0} (g : A → ℕ) (a : ℕ) (x : A) (xs : List A) → (g x == a) ≡ true → first_of g a (x ∷ xs) ≡ suc (first_of g a xs)
first_one g a x xs e = rw e (one_more (first_of g a xs))

no_first : {A : Type 0} (g : A → ℕ) (a : ℕ) (x : A) (xs : List A) → (g x == a) ≡ false → first_of g a (x ∷ xs) ≡ 0
no_first g a x xs e = rw e refl

-- those that stand first are the group
first_is_group : {A : Type 0} (g : A → ℕ) (a : ℕ) (xs : List A) → AllByRecursion (λ x. a ≤ g x) xs → Ascends g xs
    → take (first_of g a xs) xs ≡ filter (λ x. g x == a) xs
first_is_group g a [] w s = refl
first_is_group {A = A} g a (x ∷ xs) w s = elim (cases_Bool (g x == a)) [
  | inl e ↦
      ap (λ (n : ℕ). take n (x ∷ xs)) (first_one g a x xs e)
      ∙ (ap (λ (l : List A). x ∷ l) (first_is_group g a xs w.1 s.1) ∙ rw e refl)
  | inr e ↦
      let over = strictly (g x) a e w.0 in
      let none = none_has g a (x ∷ xs) (over, above_all g a x xs over s.0) in
      ap (λ (n : ℕ). take n (x ∷ xs)) (no_first g a x xs e) ∙ sym none
]

all_above : {A : Type 0} (g : A → ℕ) (a : ℕ) (xs : List A) → AllByRecursion (λ x. a < g x) xs → AllByRecursion (λ x. a + 1 ≤ g x) xs
all_above g a [] h = tt
all_above g a (x ∷ xs) h = (let l = h.0 in omega arith, all_above g a xs h.1)

-- what stands behind them is the rest from the next number on
behind_is_rest : {A : Type 0} (g : A → ℕ) (a : ℕ) (xs : List A) → AllByRecursion (λ x. a ≤ g x) xs → Ascends g xs
    → RestFrom g (a + 1) xs (behind g a xs)
behind_is_rest g a [] w s = record { groups = λ k l. refl; from = tt; ascends = tt }
behind_is_rest {A = A} g a (x ∷ xs) w s = elim (cases_Bool (g x == a)) [
  | inl e ↦
      let later = behind_is_rest g a xs w.1 s.1 in
      let same : g x ≡ a = eqb-true (g x) a e in
      let cut : behind g a (x ∷ xs) ≡ behind g a xs = ap (λ (n : ℕ). drop n (x ∷ xs)) (first_one g a x xs e) in
      let P : List A → Type 0 = λ l. RestFrom g (a + 1) (x ∷ xs) l in
      subst P (sym cut) (record {
        groups = λ k l. rw (other_number (g x) k (omega arith)) (later.groups k l);
        from = later.from;
        ascends = later.ascends;
      })
  | inr e ↦
      let over = strictly (g x) a e w.0 in
      let cut : behind g a (x ∷ xs) ≡ x ∷ xs = ap (λ (n : ℕ). drop n (x ∷ xs)) (no_first g a x xs e) in
      let P : List A → Type 0 = λ l. RestFrom g (a + 1) (x ∷ xs) l in
      subst P (sym cut) (record {
        groups = λ k l. refl;
        from = all_above g a (x ∷ xs) (over, above_all g a x xs over s.0);
        ascends = s;
      })
]

-- where the rest is cut behind those that stand first, these are the next group
pub front_is_group : {A : Type 0} (g : A → ℕ) (a n : ℕ) (all rest front : List A) → RestFrom g a all rest → n ≡ first_of g a rest
    → front ≡ take n rest → front ≡ filter (λ x. g x == a) all
front_is_group g a n all rest front h place cut =
    cut ∙ (ap (λ (j : ℕ). take j rest) place ∙ (first_is_group g a rest h.from h.ascends ∙ h.groups a (omega arith)))

-- and the others are the rest from the next number on
pub back_is_rest : {A : Type 0} (g : A → ℕ) (a n : ℕ) (all rest back : List A) → RestFrom g a all rest → n ≡ first_of g a rest
    → back ≡ drop n rest → RestFrom g (a + 1) all back
back_is_rest {A = A} g a n all rest back h place cut =
    let later = behind_is_rest g a rest h.from h.ascends in
    let P : List A → Type 0 = λ l. RestFrom g (a + 1) all l in
    subst P (sym (cut ∙ ap (λ (j : ℕ). drop j rest) place)) (record {
      groups = λ k l. later.groups k l ∙ h.groups k (omega arith);
      from = later.from;
      ascends = later.ascends;
    })

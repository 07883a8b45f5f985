-- Bags of choices: the order in which members come doesn't count
use Rattle.std.proofs.Common.{◌≡◌, ℕ, zero, suc, ◌+◌, ◌≤◌, ◌<◌, ◌≢◌, Bool, true, false, cond, List, [], ◌∷◌, ◌++◌, length, replicate, inl, inr, refl, sym, ap, subst, ◌∙◌, nat_le, nat_lt, arith, ◌==◌}
use Rattle.std.proofs.lemmas.Bool.{cases_Bool}
use Rattle.std.proofs.lemmas.Bool.Decides.{nat_tests}
use Rattle.std.proofs.lemmas.List.Sums.{sum_by-cons}
use Rattle.std.specs.List.{AllByRecursion}
use Rattle.urna_base.proofs.Every.{every_append}
use Rattle.vote_kinds.specs.declared.choice.Choice.{Choice}
use Rattle.vote_kinds.specs.declared.choice.Choice.TheVariants as choice
use Rattle.vote_kinds.specs.Choice.{choice_le, is_same, kind_of, number_of}
use Rattle.vote_kinds.proofs.LineChoices.{same_refl}
use Rattle.vote_record.specs.Bag.{IsInOrder, count_of, with_choice, with_choices, bag_at, with_vote}

-- the order on two numbers
abbrev order : ℕ → ℕ → ℕ → ℕ → Bool
order k m j n = cond (k == j) (nat_le m n) (nat_lt k j)

order_total : (k m j n : ℕ) → order k m j n ≡ false → order j n k m ≡ true
order_total k m j n h = grind (arith, nat_tests)

order_trans : (k m j n i o : ℕ) → order k m j n ≡ true → order j n i o ≡ true → order k m i o ≡ true
order_trans k m j n i o h g = grind (arith, nat_tests)

order_both : (k m j n : ℕ) → order k m j n ≡ true → order j n k m ≡ true → (k ≡ j) × (m ≡ n)
order_both k m j n h g = (grind (arith, nat_tests), grind (arith, nat_tests))

same_choice : (a b : Choice) → kind_of a ≡ kind_of b → number_of a ≡ number_of b → a ≡ b
same_choice (choice.Nominal m) (choice.Nominal n) k e = ap (λ (i : ℕ). choice.Nominal i) e
same_choice (choice.Nominal m) (choice.Party q) k e = absurd (omega arith)
same_choice (choice.Nominal m) choice.Blank k e = absurd (omega arith)
same_choice (choice.Nominal m) choice.Null k e = absurd (omega arith)
same_choice (choice.Party p) (choice.Nominal n) k e = absurd (omega arith)
same_choice (choice.Party p) (choice.Party q) k e = ap (λ (i : ℕ). choice.Party i) e
same_choice (choice.Party p) choice.Blank k e = absurd (omega arith)
same_choice (choice.Party p) choice.Null k e = absurd (omega arith)
same_choice choice.Blank (choice.Nominal n) k e = absurd (omega arith)
same_choice choice.Blank (choice.Party q) k e = absurd (omega arith)
same_choice choice.Blank choice.Blank k e = refl
same_choice choice.Blank choice.Null k e = absurd (omega arith)
same_choice choice.Null (choice.Nominal n) k e = absurd (omega arith)
same_choice choice.Null (choice.Party q) k e = absurd (omega arith)
same_choice choice.Null choice.Blank k e = absurd (omega arith)
same_choice choice.Null choice.Null k e = refl

pub le_total : (a b : Choice) → choice_le a b ≡ false → choice_le b a ≡ true
le_total a b h = order_total (kind_of a) (number_of a) (kind_of b) (number_of b) h

pub le_trans : (a b c : Choice) → choice_le a b ≡ true → choice_le b c ≡ true → choice_le a c ≡ true
le_trans a b c h g = order_trans (kind_of a) (number_of a) (kind_of b) (number_of b) (kind_of c) (number_of c) h g

pub le_antisym : (a b : Choice) → choice_le a b ≡ true → choice_le b a ≡ true → a ≡ b
le_antisym a b h g = let both = order_both (kind_of a) (number_of a) (kind_of b) (number_of b) h g in same_choice a b both.0 both.1

pair_either : (a b : Choice) (t : List Choice) (p q : Bool) → choice_le a b ≡ p → choice_le b a ≡ q → cond p (a ∷ b ∷ t) (b ∷ a ∷ t) ≡ cond q (b ∷ a ∷ t) (a ∷ b ∷ t)
pair_either a b t true true h g = let e = le_antisym a b h g in cc
pair_either a b t true false h g = refl
pair_either a b t false true h g = refl
pair_either a b t false false h g = let e = le_total a b h in absurd (cc)

pair : (a b : Choice) (t : List Choice) → cond (choice_le a b) (a ∷ b ∷ t) (b ∷ a ∷ t) ≡ cond (choice_le b a) (b ∷ a ∷ t) (a ∷ b ∷ t)
pair a b t = pair_either a b t (choice_le a b) (choice_le b a) refl refl

not_before : (a b d : Choice) → choice_le a d ≡ true → choice_le b d ≡ false → choice_le b a ≡ false
not_before a b d h g = elim (cases_Bool (choice_le b a)) [
  | inl e ↦ let f = le_trans b a d e h in absurd (cc)
  | inr e ↦ e
]

swap_at : (a b d : Choice) (bag : List Choice) (p q : Bool) → choice_le a d ≡ p → choice_le b d ≡ q
    → with_choice a (with_choice b bag) ≡ with_choice b (with_choice a bag)
    → with_choice a (with_choice b (d ∷ bag)) ≡ with_choice b (with_choice a (d ∷ bag))
swap_at a b d bag true true h g more = rw (h, g) (rw h (pair a b (d ∷ bag)))
swap_at a b d bag true false h g more = rw (h, g) (rw (h, not_before a b d h g) refl)
swap_at a b d bag false true h g more = rw (h, g) (rw (h, not_before b a d g h) refl)
swap_at a b d bag false false h g more = rw (h, g) (rw h (ap (λ (t : List Choice). d ∷ t) more))

-- two members come in either order
pub with_choice-swap : (a b : Choice) (bag : List Choice) → with_choice a (with_choice b bag) ≡ with_choice b (with_choice a bag)
with_choice-swap a b [] = pair a b []
with_choice-swap a b (d ∷ bag) = swap_at a b d bag (choice_le a d) (choice_le b d) refl refl (with_choice-swap a b bag)

length_at : (c d : Choice) (bag : List Choice) (p : Bool) → choice_le c d ≡ p → length (with_choice c bag) ≡ suc (length bag) → length (with_choice c (d ∷ bag)) ≡ suc (length (d ∷ bag))
length_at c d bag true h more = rw h refl
length_at c d bag false h more = rw h (ap suc more)

pub length-with_choice : (c : Choice) (bag : List Choice) → length (with_choice c bag) ≡ suc (length bag)
length-with_choice c [] = refl
length-with_choice c (d ∷ bag) = length_at c d bag (choice_le c d) refl (length-with_choice c bag)

-- Bags of all panels

pub with_vote-swap : (p q : ℕ) (a b : Choice) (bags : List (List Choice)) → with_vote p a (with_vote q b bags) ≡ with_vote q b (with_vote p a bags)
with_vote-swap p q a b [] = refl
with_vote-swap zero zero a b (bag ∷ bags) = ap (λ (t : List Choice). t ∷ bags) (with_choice-swap a b bag)
with_vote-swap zero (suc q) a b (bag ∷ bags) = refl
with_vote-swap (suc p) zero a b (bag ∷ bags) = refl
with_vote-swap (suc p) (suc q) a b (bag ∷ bags) = ap (λ (t : List (List Choice)). bag ∷ t) (with_vote-swap p q a b bags)

-- Counts

pub count_cons : (c d : Choice) (bag : List Choice) → count_of c (d ∷ bag) ≡ cond (is_same c d) 1 0 + count_of c bag
count_cons c d bag = sum_by-cons (λ e. cond (is_same c e) 1 0) d bag

pub count_of-with_choice : (c d : Choice) (bag : List Choice) → count_of c (with_choice d bag) ≡ cond (is_same c d) 1 0 + count_of c bag
count_of-with_choice c d [] = count_cons c d []
count_of-with_choice c d (e ∷ bag) = elim (cases_Bool (choice_le d e)) [
  | inl t ↦ rw t (count_cons c d (e ∷ bag))
  | inr f ↦ rw f (let more = count_of-with_choice c d bag in let one = count_cons c e (with_choice d bag) in let rest = count_cons c e bag in omega arith)
]

-- A bag is known by its counts

pub same_true : (a b : Choice) → is_same a b ≡ true → a ≡ b
same_true a b h = same_choice a b (grind (arith, nat_tests)) (grind (arith, nat_tests))

pub le_refl : (a : Choice) → choice_le a a ≡ true
le_refl a = grind (arith, nat_tests)

among : (y x : Choice) (xs : List Choice) → AllByRecursion (λ e. choice_le x e ≡ true) xs → 1 ≤ count_of y xs → choice_le x y ≡ true
among y x [] all n = absurd (omega arith)
among y x (e ∷ xs) all n = elim (cases_Bool (is_same y e)) [
  | inl t ↦ subst (λ (z : Choice). choice_le x z ≡ true) (sym (same_true y e t)) all.0
  | inr f ↦ among y x xs all.1 (let c = count_cons y e xs in let d : count_of y (e ∷ xs) ≡ 0 + count_of y xs = c ∙ ap (λ (b : Bool). cond b 1 0 + count_of y xs) f in omega arith)
]

-- the first of a bag in order is at or before each member
first_le : (y x : Choice) (xs : List Choice) → AllByRecursion (λ e. choice_le x e ≡ true) xs → 1 ≤ count_of y (x ∷ xs) → choice_le x y ≡ true
first_le y x xs all n = elim (cases_Bool (is_same y x)) [
  | inl t ↦ subst (λ (z : Choice). choice_le x z ≡ true) (sym (same_true y x t)) (le_refl x)
  | inr f ↦ among y x xs all (let c = count_cons y x xs in let d : count_of y (x ∷ xs) ≡ 0 + count_of y xs = c ∙ ap (λ (b : Bool). cond b 1 0 + count_of y xs) f in omega arith)
]

pub same_bag : (a b : List Choice) → IsInOrder a → IsInOrder b → ((c : Choice) → count_of c a ≡ count_of c b) → a ≡ b
same_bag [] [] p q h = refl
same_bag [] (y ∷ ys) p q h = let c = count_cons y y ys in let d = h y in let e : count_of y (y ∷ ys) ≡ 1 + count_of y ys = c ∙ ap (λ (b : Bool). cond b 1 0 + count_of y ys) (same_refl y) in absurd (omega arith)
same_bag (x ∷ xs) [] p q h = let c = count_cons x x xs in let d = h x in let e : count_of x (x ∷ xs) ≡ 1 + count_of x xs = c ∙ ap (λ (b : Bool). cond b 1 0 + count_of x xs) (same_refl x) in absurd (omega arith)
same_bag (x ∷ xs) (y ∷ ys) p q h =
    let cy : count_of y (y ∷ ys) ≡ 1 + count_of y ys = count_cons y y ys ∙ ap (λ (b : Bool). cond b 1 0 + count_of y ys) (same_refl y) in
    let cx : count_of x (x ∷ xs) ≡ 1 + count_of x xs = count_cons x x xs ∙ ap (λ (b : Bool). cond b 1 0 + count_of x xs) (same_refl x) in
    let hy = h y in
    let hx = h x in
    let e : x ≡ y = le_antisym x y (first_le y x xs p.0 (omega arith)) (first_le x y ys q.0 (omega arith)) in
    let tails : xs ≡ ys = same_bag xs ys p.1 q.1 (λ c.
    let l = count_cons c x xs in
    let r = count_cons c y ys in
    let m = h c in
    let k = ap (λ (z : Choice). cond {A = ℕ} (is_same c z) 1 0) e in
    omega arith) in
    ap (λ (z : Choice). z ∷ xs) e ∙ ap (λ (t : List Choice). y ∷ t) tails

-- Adding keeps the order

pub all_trans : (a b : Choice) (bag : List Choice) → choice_le a b ≡ true → AllByRecursion (λ d. choice_le b d ≡ true) bag → AllByRecursion (λ d. choice_le a d ≡ true) bag
all_trans a b [] h p = tt
all_trans a b (d ∷ bag) h p = (le_trans a b d h p.0, all_trans a b bag h p.1)

all_with_at : (a c d : Choice) (bag : List Choice) (b : Bool) → choice_le a c ≡ true → choice_le a d ≡ true → AllByRecursion (λ e. choice_le a e ≡ true) bag
    → AllByRecursion (λ e. choice_le a e ≡ true) (with_choice c bag) → AllByRecursion (λ e. choice_le a e ≡ true) (cond b (c ∷ d ∷ bag) (d ∷ with_choice c bag))
all_with_at a c d bag true h g p more = (h, (g, p))
all_with_at a c d bag false h g p more = (g, more)

all_with : (a c : Choice) (bag : List Choice) → choice_le a c ≡ true → AllByRecursion (λ d. choice_le a d ≡ true) bag → AllByRecursion (λ d. choice_le a d ≡ true) (with_choice c bag)
all_with a c [] h p = (h, tt)
all_with a c (d ∷ bag) h p = all_with_at a c d bag (choice_le c d) h p.0 p.1 (all_with a c bag h p.1)

in_order_at : (c d : Choice) (bag : List Choice) (b : Bool) → choice_le c d ≡ b → IsInOrder (d ∷ bag) → IsInOrder (with_choice c bag) → IsInOrder (cond b (c ∷ d ∷ bag) (d ∷ with_choice c bag))
in_order_at c d bag true h p more = ((h, all_trans c d bag h p.0), p)
in_order_at c d bag false h p more = (all_with d c bag (le_total c d h) p.0, more)

pub in_order-with_choice : (c : Choice) (bag : List Choice) → IsInOrder bag → IsInOrder (with_choice c bag)
in_order-with_choice c [] p = (tt, tt)
in_order-with_choice c (d ∷ bag) p = in_order_at c d bag (choice_le c d) refl p (in_order-with_choice c bag p.1)

-- A member at the end

with_choice-front : (c : Choice) (bag : List Choice) → AllByRecursion (λ d. choice_le c d ≡ true) bag → with_choice c bag ≡ c ∷ bag
with_choice-front c [] all = refl
with_choice-front c (d ∷ bag) all = rw all.0 refl

-- a member that stands at or after all others goes to the end
pub with_choice-last : (c : Choice) (bag : List Choice) → IsInOrder bag → AllByRecursion (λ d. choice_le d c ≡ true) bag → with_choice c bag ≡ bag ++ c ∷ []
with_choice-last c [] p all = refl
with_choice-last c (d ∷ bag) p all =
    let rest : d ∷ with_choice c bag ≡ d ∷ (bag ++ c ∷ []) = ap (λ (t : List Choice). d ∷ t) (with_choice-last c bag p.1 all.1) in
    elim (cases_Bool (choice_le c d)) [
      | inl t ↦
          let e : c ≡ d = le_antisym c d t all.0 in
          let front : with_choice c bag ≡ c ∷ bag = with_choice-front c bag (subst (λ (x : Choice). AllByRecursion (λ y. choice_le x y ≡ true) bag) (sym e) p.0) in
          rw t (ap (λ (x : Choice). x ∷ d ∷ bag) e ∙ ap (λ (x : Choice). d ∷ x ∷ bag) (sym e) ∙ sym (ap (λ (t : List Choice). d ∷ t) front) ∙ rest)
      | inr f ↦ rw f rest
    ]

-- So many members more

pub all_replicate : (P : Choice → Type 0) (n : ℕ) (c : Choice) → P c → AllByRecursion P (replicate n c)
all_replicate P zero c p = tt
all_replicate P (suc n) c p = (p, all_replicate P n c p)

pub length-with_choices : (n : ℕ) (c : Choice) (bag : List Choice) → length (with_choices n c bag) ≡ length bag + n
length-with_choices zero c bag = omega arith
length-with_choices (suc n) c bag = let more = length-with_choices n c bag in let one = length-with_choice c (with_choices n c bag) in omega arith

pub in_order-with_choices : (n : ℕ) (c : Choice) (bag : List Choice) → IsInOrder bag → IsInOrder (with_choices n c bag)
in_order-with_choices zero c bag p = p
in_order-with_choices (suc n) c bag p = in_order-with_choice c (with_choices n c bag) (in_order-with_choices n c bag p)

-- they go to the front of members that stand at or after them
pub with_choices-front : (n : ℕ) (c : Choice) (bag : List Choice) → AllByRecursion (λ d. choice_le c d ≡ true) bag → with_choices n c bag ≡ replicate n c ++ bag
with_choices-front zero c bag all = refl
with_choices-front (suc n) c bag all =
    ap (with_choice c) (with_choices-front n c bag all)
    ∙ with_choice-front c (replicate n c ++ bag) (every_append (λ d. choice_le c d ≡ true) (replicate n c) bag (all_replicate (λ d. choice_le c d ≡ true) n c (le_refl c)) all)

with_choice-past : (c : Choice) (front bag : List Choice) → AllByRecursion (λ d. choice_le c d ≡ false) front → with_choice c (front ++ bag) ≡ front ++ with_choice c bag
with_choice-past c [] bag all = refl
with_choice-past c (d ∷ front) bag all = rw all.0 (ap (λ (t : List Choice). d ∷ t) (with_choice-past c front bag all.1))

-- and behind members that stand before them
pub with_choices-past : (n : ℕ) (c : Choice) (front bag : List Choice) → AllByRecursion (λ d. choice_le c d ≡ false) front → with_choices n c (front ++ bag) ≡ front ++ with_choices n c bag
with_choices-past zero c front bag all = refl
with_choices-past (suc n) c front bag all = ap (with_choice c) (with_choices-past n c front bag all) ∙ with_choice-past c front (with_choices n c bag) all

-- The bag of one panel

pub bag_at-with_vote_same : (panel : ℕ) (c : Choice) (bags : List (List Choice)) → panel < length bags → bag_at (with_vote panel c bags) panel ≡ with_choice c (bag_at bags panel)
bag_at-with_vote_same panel c [] lt = absurd (omega arith)
bag_at-with_vote_same zero c (bag ∷ bags) lt = refl
bag_at-with_vote_same (suc panel) c (bag ∷ bags) lt = bag_at-with_vote_same panel c bags (omega arith)

pub bag_at-with_vote_other : (panel other : ℕ) (c : Choice) (bags : List (List Choice)) → other ≢ panel → bag_at (with_vote panel c bags) other ≡ bag_at bags other
bag_at-with_vote_other panel other c [] ne = refl
bag_at-with_vote_other zero zero c (bag ∷ bags) ne = absurd (ne refl)
bag_at-with_vote_other zero (suc other) c (bag ∷ bags) ne = refl
bag_at-with_vote_other (suc panel) zero c (bag ∷ bags) ne = refl
bag_at-with_vote_other (suc panel) (suc other) c (bag ∷ bags) ne = bag_at-with_vote_other panel other c bags (λ e. ne (ap suc e))

pub length-with_vote : (panel : ℕ) (c : Choice) (bags : List (List Choice)) → length (with_vote panel c bags) ≡ length bags
length-with_vote panel c [] = refl
length-with_vote zero c (bag ∷ bags) = refl
length-with_vote (suc panel) c (bag ∷ bags) = ap suc (length-with_vote panel c bags)

-- Bags and the counters of their choices
use Rattle.std.proofs.Common.{◌≡◌, ℕ, zero, suc, ◌+◌, ◌<◌, Bool, true, false, cond, ◌||◌, List, [], ◌∷◌, ◌++◌, length, get_or, map, replicate, inl, inr, refl, sym, ap, subst, ◌∙◌, arith}
use Rattle.std.specs.List.{AllByRecursion, list_any, sum}
use Rattle.std.proofs.lemmas.Bool.{cases_Bool}
use Rattle.std.proofs.lemmas.List.{length-append, length-replicate, get_or-map}
use Rattle.std.proofs.lemmas.List.Sums.{sum_by-cons}
use Rattle.urna_base.proofs.Every.{every_append}
use Rattle.vote_kinds.specs.declared.choice.Choice.{Choice}
use Rattle.vote_kinds.specs.Ballot.{BallotLine, choices_of, is_choice}
use Rattle.vote_kinds.specs.Choice.{AreRising, choice_le, is_same}
use Rattle.vote_kinds.proofs.LineChoices.{choice_is_one, same_refl}
use Rattle.vote_record.specs.Bag.{IsInOrder, count_of}
use Rattle.vote_record.specs.Counters.{counts_of, bag_with}
use Rattle.vote_record.proofs.Bags.{count_cons, same_true, same_bag, le_refl, le_total, all_replicate}

-- How often a choice is a member

count_yes : (d c : Choice) (bag : List Choice) → is_same d c ≡ true → count_of d (c ∷ bag) ≡ 1 + count_of d bag
count_yes d c bag same = count_cons d c bag ∙ ap (λ (b : Bool). cond b 1 0 + count_of d bag) same

count_no : (d c : Choice) (bag : List Choice) → is_same d c ≡ false → count_of d (c ∷ bag) ≡ count_of d bag
count_no d c bag other =
    let e : count_of d (c ∷ bag) ≡ 0 + count_of d bag = count_cons d c bag ∙ ap (λ (b : Bool). cond b 1 0 + count_of d bag) other in
    omega arith

-- behind so many members of the choice
count_same : (c : Choice) (n : ℕ) (bag : List Choice) → count_of c (replicate n c ++ bag) ≡ n + count_of c bag
count_same c zero bag = omega arith
count_same c (suc n) bag = let one = count_yes c c (replicate n c ++ bag) (same_refl c) in let more = count_same c n bag in omega arith

-- and of another
count_other : (d c : Choice) (n : ℕ) (bag : List Choice) → is_same d c ≡ false → count_of d (replicate n c ++ bag) ≡ count_of d bag
count_other d c zero bag other = refl
count_other d c (suc n) bag other = count_no d c (replicate n c ++ bag) other ∙ count_other d c n bag other

-- a choice that doesn't stand at or before another isn't it, nor is the other it
pub not_same : (d c : Choice) → choice_le d c ≡ false → is_same d c ≡ false
not_same d c after = elim (cases_Bool (is_same d c)) [
  | inl t ↦ let e : choice_le d c ≡ true = subst (λ (x : Choice). choice_le d x ≡ true) (same_true d c t) (le_refl d) in absurd (cc)
  | inr f ↦ f
]

pub same_not : (d c : Choice) → choice_le d c ≡ false → is_same c d ≡ false
same_not d c after = elim (cases_Bool (is_same c d)) [
  | inl t ↦ let e : choice_le d c ≡ true = subst (λ (x : Choice). choice_le d x ≡ true) (sym (same_true c d t)) (le_refl d) in absurd (cc)
  | inr f ↦ f
]

none_among : (c : Choice) (choices : List Choice) → AllByRecursion (λ d. choice_le d c ≡ false) choices → list_any (is_same c) choices ≡ false
none_among c [] all = refl
none_among c (d ∷ choices) all = ap (λ (b : Bool). b || list_any (is_same c) choices) (same_not d c all.0) ∙ none_among c choices all.1

-- The bag of counters is in order

all_bag_with : (P : Choice → Type 0) (choices : List Choice) (counts : List ℕ) → AllByRecursion P choices → AllByRecursion P (bag_with choices counts)
all_bag_with P [] counts all = tt
all_bag_with P (c ∷ choices) [] all = tt
all_bag_with P (c ∷ choices) (n ∷ counts) all = every_append P (replicate n c) (bag_with choices counts) (all_replicate P n c all.0) (all_bag_with P choices counts all.1)

all_after : (c : Choice) (choices : List Choice) → AllByRecursion (λ d. choice_le d c ≡ false) choices → AllByRecursion (λ d. choice_le c d ≡ true) choices
all_after c [] all = tt
all_after c (d ∷ choices) all = (le_total d c all.0, all_after c choices all.1)

order_front : (n : ℕ) (c : Choice) (bag : List Choice) → AllByRecursion (λ d. choice_le c d ≡ true) bag → IsInOrder bag → IsInOrder (replicate n c ++ bag)
order_front zero c bag all order = order
order_front (suc n) c bag all order =
    (every_append (λ d. choice_le c d ≡ true) (replicate n c) bag (all_replicate (λ d. choice_le c d ≡ true) n c (le_refl c)) all, order_front n c bag all order)

pub order_bag_with : (choices : List Choice) (counts : List ℕ) → AreRising choices → IsInOrder (bag_with choices counts)
order_bag_with [] counts rise = tt
order_bag_with (c ∷ choices) [] rise = tt
order_bag_with (c ∷ choices) (n ∷ counts) rise =
    order_front n c (bag_with choices counts) (all_bag_with (λ d. choice_le c d ≡ true) choices counts (all_after c choices rise.0)) (order_bag_with choices counts rise.1)

-- it has as many members as they count
pub length_bag_with : (choices : List Choice) (counts : List ℕ) → length counts ≡ length choices → length (bag_with choices counts) ≡ sum counts
length_bag_with [] [] e = refl
length_bag_with [] (n ∷ counts) e = absurd (omega arith)
length_bag_with (c ∷ choices) [] e = absurd (omega arith)
length_bag_with (c ∷ choices) (n ∷ counts) e =
    let more = length_bag_with choices counts (omega arith) in
    omega (arith, length-append (replicate n c) (bag_with choices counts), length-replicate n c, sum_by-cons (λ x. x) n counts)

-- A bag is that of its counts

-- a choice that is none of these has no members
absent : (d : Choice) (choices : List Choice) (counts : List ℕ) → list_any (is_same d) choices ≡ false → count_of d (bag_with choices counts) ≡ 0
absent d [] counts none = refl
absent d (c ∷ choices) [] none = refl
absent d (c ∷ choices) (n ∷ counts) none = elim (cases_Bool (is_same d c)) [
  | inl t ↦ let e : list_any (is_same d) (c ∷ choices) ≡ true = ap (λ (b : Bool). b || list_any (is_same d) choices) t in absurd (cc)
  | inr f ↦
      let rest : list_any (is_same d) choices ≡ false = sym (ap (λ (b : Bool). b || list_any (is_same d) choices) f) ∙ none in
      count_other d c n (bag_with choices counts) f ∙ absent d choices counts rest
]

-- one that is among them has as many as is said of it
present : (d : Choice) (choices : List Choice) (f : Choice → ℕ) → AreRising choices → list_any (is_same d) choices ≡ true → count_of d (bag_with choices (map f choices)) ≡ f d
present d [] f rise is = absurd (cc)
present d (c ∷ choices) f rise is = elim (cases_Bool (is_same d c)) [
  | inl t ↦
      let same : c ≡ d = sym (same_true d c t) in
      let none = absent c choices (map f choices) (none_among c choices rise.0) in
      let here : count_of c (bag_with (c ∷ choices) (map f (c ∷ choices))) ≡ f c = count_same c (f c) (bag_with choices (map f choices)) ∙ omega arith in
      subst (λ (x : Choice). count_of x (bag_with (c ∷ choices) (map f (c ∷ choices))) ≡ f x) same here
  | inr g ↦
      let rest : list_any (is_same d) choices ≡ true = sym (ap (λ (b : Bool). b || list_any (is_same d) choices) g) ∙ is in
      count_other d c (f c) (bag_with choices (map f choices)) g ∙ present d choices f rise.1 rest
]

-- a choice of which is not so what is so of all members is none of them
pub none_counted : (P : Choice → Type 0) (d : Choice) (bag : List Choice) → AllByRecursion P bag → ¬ P d → count_of d bag ≡ 0
none_counted P d [] all none = refl
none_counted P d (c ∷ bag) all none = elim (cases_Bool (is_same d c)) [
  | inl t ↦ absurd (none (subst P (sym (same_true d c t)) all.0))
  | inr f ↦ count_no d c bag f ∙ none_counted P d bag all.1 none
]

pub bag_of_counts : (choices bag : List Choice) → AreRising choices → IsInOrder bag → AllByRecursion (λ c. list_any (is_same c) choices ≡ true) bag → bag_with choices (counts_of choices bag) ≡ bag
bag_of_counts choices bag rise order all =
    same_bag (bag_with choices (counts_of choices bag)) bag (order_bag_with choices (counts_of choices bag) rise) order (λ d.
    elim (cases_Bool (list_any (is_same d) choices)) [
      | inl is ↦ present d choices (λ c. count_of c bag) rise is
      | inr none ↦ absent d choices (counts_of choices bag) none ∙ sym (none_counted (λ c. list_any (is_same c) choices ≡ true) d bag all (λ is. absurd (cc)))
    ])

-- choices that may be made on a line are among the line's
pub all_among : (line : BallotLine) (bag : List Choice) → AllByRecursion (λ c. is_choice line c ≡ true) bag → AllByRecursion (λ c. list_any (is_same c) (choices_of line) ≡ true) bag
all_among line [] all = tt
all_among line (c ∷ bag) all = (sym (choice_is_one line c) ∙ all.0, all_among line bag all.1)

-- Counts are those of their bag

counts_behind : (choices : List Choice) (c : Choice) (n : ℕ) (bag : List Choice) → AllByRecursion (λ d. choice_le d c ≡ false) choices → counts_of choices (replicate n c ++ bag) ≡ counts_of choices bag
counts_behind [] c n bag all = refl
counts_behind (d ∷ choices) c n bag all =
    ap (λ (k : ℕ). k ∷ counts_of choices (replicate n c ++ bag)) (count_other d c n bag (not_same d c all.0))
    ∙ ap (λ (ks : List ℕ). count_of d bag ∷ ks) (counts_behind choices c n bag all.1)

pub counts_of_bag : (choices : List Choice) (counts : List ℕ) → AreRising choices → length counts ≡ length choices → counts_of choices (bag_with choices counts) ≡ counts
counts_of_bag [] [] rise e = refl
counts_of_bag [] (n ∷ counts) rise e = absurd (omega arith)
counts_of_bag (c ∷ choices) [] rise e = absurd (omega arith)
counts_of_bag (c ∷ choices) (n ∷ counts) rise e =
    let bag : List Choice = bag_with choices counts in
    let none = absent c choices counts (none_among c choices rise.0) in
    let here : count_of c (replicate n c ++ bag) ≡ n = count_same c n bag ∙ omega arith in
    ap (λ (k : ℕ). k ∷ counts_of choices (replicate n c ++ bag)) here
    ∙ ap (λ (ks : List ℕ). n ∷ ks) (counts_behind choices c n bag rise.0 ∙ counts_of_bag choices counts rise.1 (omega arith))

-- so the choice in a place has as many members as the count in this place says
pub count_in_place : (choices : List Choice) (counts : List ℕ) (place : ℕ) (c : Choice) (n : ℕ) → AreRising choices → length counts ≡ length choices → place < length choices
    → count_of (get_or choices place c) (bag_with choices counts) ≡ get_or counts place n
count_in_place choices counts place c n rise long lt =
    sym (get_or-map (λ d. count_of d (bag_with choices counts)) choices place c n lt) ∙ ap (λ (ks : List ℕ). get_or ks place n) (counts_of_bag choices counts rise long)

-- A bag to which the choices of counters are added in order, each as often as its counter says
use Rattle.std.proofs.Common.{◌≡◌, ℕ, zero, suc, true, false, List, [], ◌∷◌, ◌++◌, replicate, sym, ap, subst, ◌∙◌, append_assoc, add-one}
use Rattle.std.specs.List.{AllByRecursion}
use Rattle.std.proofs.lemmas.List.{append-nil, replicate_more}
use Rattle.urna_base.proofs.Every.{every_append}
use Rattle.vote_kinds.specs.declared.choice.Choice.{Choice}
use Rattle.vote_kinds.specs.Choice.{AreRising, choice_le}
use Rattle.vote_record.specs.Bag.{IsInOrder, with_choices}
use Rattle.vote_record.specs.Counters.{bag_with}
use Rattle.vote_record.proofs.Bags.{all_replicate, in_order-with_choices, le_refl, le_total, with_choice-last}

-- the bag with so many members more of each of these choices, which are added one choice after the other
abbrev pub filled : List Choice → List ℕ → List Choice → List Choice
filled [] counts bag = bag
filled (c ∷ choices) [] bag = bag
filled (c ∷ choices) (n ∷ counts) bag = filled choices counts (with_choices n c bag)

-- members of a choice that stands at or after all others go to the end
pub with_choices-last : (n : ℕ) (c : Choice) (bag : List Choice) → IsInOrder bag → AllByRecursion (λ d. choice_le d c ≡ true) bag → with_choices n c bag ≡ bag ++ replicate n c
with_choices-last zero c bag order before = sym (append-nil bag)
with_choices-last (suc n) c bag order before =
    let more : with_choices n c bag ≡ bag ++ replicate n c = with_choices-last n c bag order before in
    let all : AllByRecursion (λ d. choice_le d c ≡ true) (bag ++ replicate n c) =
    every_append (λ d. choice_le d c ≡ true) bag (replicate n c) before (all_replicate (λ d. choice_le d c ≡ true) n c (le_refl c)) in
    with_choice-last c (with_choices n c bag) (in_order-with_choices n c bag order) (subst (AllByRecursion (λ d. choice_le d c ≡ true)) (sym more) all)
    ∙ ap (λ (b : List Choice). b ++ c ∷ []) more
    ∙ append_assoc bag (replicate n c) (c ∷ [])
    ∙ ap (λ (b : List Choice). bag ++ b) (replicate_more n c ∙ ap (λ (k : ℕ). replicate k c) (add-one n))

-- all members stand at a choice or before it
abbrev AreBefore : List Choice → Choice → Type 0
AreBefore bag c = AllByRecursion (λ d. choice_le d c ≡ true) bag

still_before : (n : ℕ) (c : Choice) (bag choices : List Choice) → AllByRecursion (λ d. choice_le d c ≡ false) choices → AllByRecursion (AreBefore bag) choices
    → AllByRecursion (AreBefore (bag ++ replicate n c)) choices
still_before n c bag [] rise before = tt
still_before n c bag (d ∷ choices) rise before =
    (every_append (λ e. choice_le e d ≡ true) bag (replicate n c) before.0 (all_replicate (λ e. choice_le e d ≡ true) n c (le_total d c rise.0)), still_before n c bag choices rise.1 before.1)

-- behind a bag of which all members stand before the choices
filled_behind : (choices : List Choice) (counts : List ℕ) (bag : List Choice) → AreRising choices → IsInOrder bag → AllByRecursion (AreBefore bag) choices → filled choices counts bag ≡ bag ++ bag_with choices counts
filled_behind [] counts bag rise order before = sym (append-nil bag)
filled_behind (c ∷ choices) [] bag rise order before = sym (append-nil bag)
filled_behind (c ∷ choices) (n ∷ counts) bag rise order before =
    let more : with_choices n c bag ≡ bag ++ replicate n c = with_choices-last n c bag order before.0 in
    let after : AllByRecursion (AreBefore (with_choices n c bag)) choices = subst (λ (b : List Choice). AllByRecursion (AreBefore b) choices) (sym more) (still_before n c bag choices rise.0 before.1) in
    filled_behind choices counts (with_choices n c bag) rise.1 (in_order-with_choices n c bag order) after
    ∙ ap (λ (b : List Choice). b ++ bag_with choices counts) more ∙ append_assoc bag (replicate n c) (bag_with choices counts)

none_before : (choices : List Choice) → AllByRecursion (AreBefore []) choices
none_before [] = tt
none_before (c ∷ choices) = (tt, none_before choices)

-- from the empty bag on they make the bag of the counters
pub filled_from_none : (choices : List Choice) (counts : List ℕ) → AreRising choices → filled choices counts [] ≡ bag_with choices counts
filled_from_none choices counts rise = filled_behind choices counts [] rise tt (none_before choices)

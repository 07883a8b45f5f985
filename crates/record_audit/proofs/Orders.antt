-- Votes in the order of choices, one more at the end.
use Rattle.std.proofs.Common.{◌≡◌, suc, ◌-◌, Bool, true, List, [], ◌∷◌, ◌++◌, length, refl, sym, ◌∙◌, arith}
use Rattle.std.specs.List.{AllByRecursion}
use Rattle.urna_base.proofs.Every.{every_append}
use Rattle.vote_kinds.specs.Choice.{choice_le}
use Rattle.vote_kinds.specs.declared.choice.Choice.{Choice}
use Rattle.vote_record.specs.Bag.{IsInOrder}
use Rattle.vote_record.proofs.Bags.{le_trans}
use Rattle.record_audit.specs.Reading.{may_follow}

-- a choice stands at or behind the last of some
abbrev last_le : List Choice → Choice → Bool
last_le [] c = true
last_le (x ∷ []) c = choice_le x c
last_le (x ∷ y ∷ votes) c = last_le (y ∷ votes) c

last_is : (votes : List Choice) (c : Choice) → may_follow votes c ≡ last_le votes c
last_is [] c = refl
last_is (x ∷ []) c = refl
last_is (x ∷ y ∷ votes) c =
    let e : suc (suc (length votes)) - 1 ≡ suc (suc (length votes) - 1) = omega arith in
    rw e (last_is (y ∷ votes) c)

-- and so behind each that stands at or before all of these
behind_all : (x y : Choice) (votes : List Choice) (c : Choice) → AllByRecursion (λ d. choice_le x d ≡ true) (y ∷ votes) → last_le (y ∷ votes) c ≡ true
    → choice_le x c ≡ true
behind_all x y [] c all h = le_trans x y c all.0 h
behind_all x y (z ∷ votes) c all h = behind_all x z votes c all.1 h

in_order_last : (votes : List Choice) (c : Choice) → IsInOrder votes → last_le votes c ≡ true → IsInOrder (votes ++ c ∷ [])
in_order_last [] c is h = (tt, tt)
in_order_last (x ∷ []) c is h = ((h, tt), (tt, tt))
in_order_last (x ∷ y ∷ votes) c is h =
    (every_append (λ d. choice_le x d ≡ true) (y ∷ votes) (c ∷ []) is.0 (behind_all x y votes c is.0 h, tt), in_order_last (y ∷ votes) c is.1 h)

-- votes stay in order with one more that stands at or behind the last
pub in_order_more : (votes : List Choice) (c : Choice) → IsInOrder votes → may_follow votes c ≡ true → IsInOrder (votes ++ c ∷ [])
in_order_more votes c is h = in_order_last votes c is (sym (last_is votes c) ∙ h)

first_of_all : (x c : Choice) (more : List Choice) → AllByRecursion (λ d. choice_le x d ≡ true) (c ∷ more) → choice_le x c ≡ true
first_of_all x c more all = all.0

last_in_order : (votes : List Choice) (c : Choice) (more : List Choice) → IsInOrder (votes ++ c ∷ more) → last_le votes c ≡ true
last_in_order [] c more is = refl
last_in_order (x ∷ []) c more is = first_of_all x c more is.0
last_in_order (x ∷ y ∷ votes) c more is = last_in_order (y ∷ votes) c more is.1

-- of votes in order each stands at or behind the last before it
pub follows_in_order : (votes : List Choice) (c : Choice) (more : List Choice) → IsInOrder (votes ++ c ∷ more) → may_follow votes c ≡ true
follows_in_order votes c more is = last_is votes c ∙ last_in_order votes c more is

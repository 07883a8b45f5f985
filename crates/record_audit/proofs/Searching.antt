-- The search through votes in any order finds the first difference too.
use Rattle.std.proofs.Common.{◌≡◌, Bool, true, false, List, [], ◌∷◌, ◌++◌, map, length, drop, get_or, ℕ, ◌+◌, ◌<◌, suc, add-one, Option, Some, None, refl, sym, ap, ◌∙◌, inl, inr, arith}
use Rattle.std.specs.Prelude.{if◌then◌else◌, is_none}
use Rattle.std.specs.List.{filter}
use Rattle.std.specs.Option.{option_map_or}
use Rattle.std.proofs.Math.Seq.{drop-cons}
use Rattle.std.proofs.lemmas.Bool.{cases_Bool}
use Rattle.urna_base.proofs.DigitLaws.{both_from_and}
use Rattle.vote_kinds.specs.Choice.{choice_le}
use Rattle.vote_kinds.specs.declared.choice.Choice.{Choice}
use Rattle.vote_record.specs.Bag.{IsInOrder}
use Rattle.vote_record.proofs.Bags.{le_total, le_trans}
use Rattle.poll_report.specs.declared.report.OfficeCount.{OfficeCount}
use Rattle.record_audit.specs.Finding.{difference, differs_at, first_choice, named}
use Rattle.record_audit.specs.Walk.{best_of, better, earlier_of, first_before, in_order}
use Rattle.record_audit.proofs.Walking.{all_from}

-- ---- the order of votes

none_is : {A : Type 0} (o : Option A) → is_none o ≡ true → o ≡ None
none_is None h = refl
none_is (Some x) h = absurd (cc)

pub order_is : (votes : List Choice) → in_order votes ≡ true → IsInOrder votes
unfolding in_order
order_is [] h = tt
order_is (v ∷ votes) h =
    let both = both_from_and (is_none (first_before v votes)) (in_order votes) h in
    let rest = order_is votes both.1 in
    (all_from v votes rest (none_is (first_before v votes) both.0), rest)

pub order_on : (votes behind : List Choice) (v : Choice) → votes ≡ v ∷ behind → first_before v behind ≡ None → in_order votes ≡ in_order behind
unfolding in_order
order_on votes behind v e h = rw e (rw h refl)

pub order_ends : (votes behind : List Choice) (v u : Choice) → votes ≡ v ∷ behind → first_before v behind ≡ Some u → in_order votes ≡ false
unfolding in_order
order_ends votes behind v u e h = rw e (rw h refl)

pub order_over : (votes : List Choice) → length votes ≡ 0 → in_order votes ≡ true
unfolding in_order
order_over [] h = refl
order_over (v ∷ votes) h = absurd (omega arith)

-- ---- the earliest

-- of a choice, if there is one, and another, if there is one
abbrev joined : Option Choice → Option Choice → Option Choice
joined f None = f
joined f (Some d) = earlier_of f d

-- of three it is the same whichever two come first
three : (e c g : Choice) (p q : Bool) → choice_le e c ≡ p → choice_le c g ≡ q
    → joined (if p then Some e else Some c) (Some g) ≡ joined (Some e) (if q then Some c else Some g)
three e c g true true h k = let far = le_trans e c g h k in rw (h, far) refl
three e c g true false h k = refl
three e c g false true h k = rw (h, k) refl
three e c g false false h k = elim (cases_Bool (choice_le e g)) [
  | inl t ↦ let no = le_trans c e g (le_total e c h) t in absurd (cc)
  | inr f ↦ rw (k, f) refl
]

joined_three : (f : Option Choice) (c : Choice) (o : Option Choice) → joined (earlier_of f c) o ≡ joined f (joined (Some c) o)
joined_three None c None = refl
joined_three None c (Some g) = at (choice_le c g)
  where
    at : (b : Bool) → (if b then Some c else Some g) ≡ joined None (if b then Some c else Some g)
    at true = refl
    at false = refl
joined_three (Some e) c None = refl
joined_three (Some e) c (Some g) = three e c g (choice_le e c) (choice_le c g) refl refl

first_is : (c : Choice) (o : Option Choice) → Some (option_map_or (λ d. if choice_le c d then c else d) o c) ≡ joined (Some c) o
first_is c None = refl
first_is c (Some d) = at (choice_le c d)
  where
    at : (b : Bool) → Some (if b then c else d) ≡ (if b then Some c else Some d)
    at true = refl
    at false = refl

pub best_join : (p : Choice → Bool) (f : Option Choice) (xs ys : List Choice) → best_of p f (xs ++ ys) ≡ best_of p (best_of p f xs) ys
unfolding best_of
best_join p f [] ys = refl
best_join p f (x ∷ xs) ys = best_join p (better p f x) xs ys

best_is : (p : Choice → Bool) (f : Option Choice) (cs : List Choice) → best_of p f cs ≡ joined f (first_choice (filter p cs))
unfolding best_of
best_is p f [] = refl
best_is p f (c ∷ cs) = elim (cases_Bool (p c)) [
  | inl t ↦
      let rest = best_is p (earlier_of f c) cs in
      rw t (rest ∙ (joined_three f c (first_choice (filter p cs)) ∙ ap (joined f) (sym (first_is c (first_choice (filter p cs))))))
  | inr f' ↦ rw f' (best_is p f cs)
]

none_joined : (o : Option Choice) → joined None o ≡ o
none_joined None = refl
none_joined (Some c) = refl

pub search_is : (votes : List Choice) (o : OfficeCount) → best_of (differs_at votes o) None (named votes o) ≡ difference votes o
unfolding difference
search_is votes o = best_is (differs_at votes o) None (named votes o) ∙ none_joined (first_choice (filter (differs_at votes o) (named votes o)))

-- ---- steps of the code's search

pub best_on : {X : Type 0} (p : Choice → Bool) (choose : X → Choice) (f g : Option Choice) (xs : List X) (i : ℕ) (d : X) → i < length xs → g ≡ better p f (choose (get_or xs i d))
    → best_of p f (map choose (drop i xs)) ≡ best_of p g (map choose (drop (i + 1) xs))
unfolding best_of
best_on {X = X} p choose f g xs i d h e =
    ap (λ (l : List X). best_of p f (map choose l)) (drop-cons xs i d h)
    ∙ ap (λ (k : Option Choice). best_of p k (map choose (drop (suc i) xs))) (sym e)
    ∙ ap (λ (n : ℕ). best_of p g (map choose (drop n xs))) (sym (add-one i))

-- the same of votes
pub vote_on : (p : Choice → Bool) (f g : Option Choice) (votes : List Choice) (i : ℕ) (d : Choice) → i < length votes → g ≡ better p f (get_or votes i d)
    → best_of p f (drop i votes) ≡ best_of p g (drop (i + 1) votes)
unfolding best_of
vote_on p f g votes i d h e =
    ap (best_of p f) (drop-cons votes i d h)
    ∙ ap (λ (k : Option Choice). best_of p k (drop (suc i) votes)) (sym e)
    ∙ ap (λ (n : ℕ). best_of p g (drop n votes)) (sym (add-one i))

-- two choices, one after the other
pub last_two : (p : Choice → Bool) (f : Option Choice) (c d : Choice) → best_of p f (c ∷ d ∷ []) ≡ better p (better p f c) d
unfolding best_of
last_two p f c d = refl

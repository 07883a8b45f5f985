-- The last screen that a word shows
use Rattle.std.proofs.Common.{◌≡◌, ◌<◌, ◌⊎◌, inl, inr, Bool, true, false, ℕ, cond, List, [], ◌∷◌, ◌++◌, Option, refl, sym, ap, subst, ◌∙◌, append_assoc}
use Rattle.std.specs.Prelude.{nat_eq}
use Rattle.std.proofs.lemmas.Bool.{and_parts}
use Rattle.std.proofs.lemmas.List.{append-nil}
use borrow.Author.Tests.{eqb-true}
use Rattle.key_script.specs.declared.keys.Key.{Key}
use Rattle.key_script.specs.declared.keys.Key.TheVariants as key
use Rattle.vote_kinds.specs.declared.choice.Choice.{Choice}
use Rattle.vote_kinds.specs.declared.choice.Field.{Field}
use Rattle.vote_kinds.specs.declared.choice.Field.TheVariants as field
use Rattle.vote_kinds.specs.Ballot.{BallotLine, is_confirmable, choice_of}
use Rattle.voter_term.specs.declared.panel.Shown.TheVariants as shown
use Rattle.voter_term.specs.Field.{field_after, same_field, screen_in, screens_behind, shown_by}
use Rattle.voter_term.proofs.Words.{field_after-more}

-- fields that pass the test are one
pub same_field_is : (f g : Field) → same_field f g ≡ true → f ≡ g
same_field_is field.Empty field.Empty e = refl
same_field_is field.Blank field.Blank e = refl
same_field_is (field.Digits count value) (field.Digits other_count other_value) e =
    let both = and_parts (nat_eq count other_count) (nat_eq value other_value) e in
    ap (λ (n : ℕ). field.Digits n value) (eqb-true count other_count both.0) ∙ ap (λ (n : ℕ). field.Digits other_count n) (eqb-true value other_value both.1)
same_field_is field.Empty field.Blank e = absurd (cc)
same_field_is field.Empty (field.Digits count value) e = absurd (cc)
same_field_is field.Blank field.Empty e = absurd (cc)
same_field_is field.Blank (field.Digits count value) e = absurd (cc)
same_field_is (field.Digits count value) field.Empty e = absurd (cc)
same_field_is (field.Digits count value) field.Blank e = absurd (cc)

-- a key shows the new field, or nothing, and then the field is the old one
abbrev ShowsChange : List Field → Field → Field → Type 0
ShowsChange screen new old = (screen ≡ new ∷ []) ⊎ ((screen ≡ []) × (new ≡ old))

typed : (b : Bool) (new old : Field) → same_field new old ≡ b → ShowsChange (screen_in (cond b shown.Nothing shown.Screen) new) new old
typed true new old e = inr (refl, same_field_is new old e)
typed false new old e = inl refl

confirmed : (b : Bool) (choice : Choice) (new old : Field) → new ≡ old → ShowsChange (screen_in (cond b (shown.Voted choice) shown.Nothing) new) new old
confirmed true choice new old e = inr (refl, e)
confirmed false choice new old e = inr (refl, e)

module _ (line : BallotLine) (earlier : Option Choice) (some : 0 < line.digits) where
  abbrev after : List Key → Field
  after w = field_after line.digits w

  by_key : (w : List Key) (k : Key) → ShowsChange (screen_in (shown_by line earlier w k) (after (w ++ k ∷ []))) (after (w ++ k ∷ [])) (after w)
  by_key w (key.Digit d) = typed (same_field (after (w ++ key.Digit d ∷ [])) (after w)) (after (w ++ key.Digit d ∷ [])) (after w) refl
  by_key w key.Blank = typed (same_field (after (w ++ key.Blank ∷ [])) (after w)) (after (w ++ key.Blank ∷ [])) (after w) refl
  by_key w key.Correct = typed (same_field (after (w ++ key.Correct ∷ [])) (after w)) (after (w ++ key.Correct ∷ [])) (after w) refl
  by_key w key.Confirm =
      confirmed (is_confirmable line (after w)) (choice_of line earlier (after w)) (after (w ++ key.Confirm ∷ [])) (after w) (field_after-more line.digits w key.Confirm some)

  -- the last screen behind a word has the field after all keys, or there is none and the field stayed
  abbrev EndsIn : List Field → Field → Field → Type 0
  EndsIn screens new old = ((before : List Field) × (screens ≡ before ++ new ∷ [])) ⊎ ((screens ≡ []) × (new ≡ old))

  join : (first rest : List Field) (last mid old : Field) → ShowsChange first mid old → EndsIn rest last mid → EndsIn (first ++ rest) last old
  join first rest last mid old change (inl (before, is)) = inl (first ++ before, ap (λ (l : List Field). first ++ l) is ∙ sym (append_assoc first before (last ∷ [])))
  join first rest last mid old (inl shows) (inr (none, same)) =
      inl ([], ap (λ (l : List Field). first ++ l) none ∙ append-nil first ∙ shows ∙ ap (λ (f : Field). f ∷ []) (sym same))
  join first rest last mid old (inr (quiet, stays)) (inr (none, same)) =
      inr (ap (λ (l : List Field). first ++ l) none ∙ append-nil first ∙ quiet, same ∙ stays)

  behind : (w keys : List Key) → EndsIn (screens_behind line earlier w keys) (after (w ++ keys)) (after w)
  behind w [] = inr (refl, ap after (append-nil w))
  behind w (k ∷ keys) =
      let rest = screens_behind line earlier (w ++ k ∷ []) keys in
      let later : EndsIn rest (after (w ++ k ∷ keys)) (after (w ++ k ∷ [])) =
      subst (λ (l : List Key). EndsIn rest (after l) (after (w ++ k ∷ []))) (append_assoc w (k ∷ []) keys) (behind (w ++ k ∷ []) keys) in
      join (screen_in (shown_by line earlier w k) (after (w ++ k ∷ []))) rest (after (w ++ k ∷ keys)) (after (w ++ k ∷ [])) (after w) (by_key w k) later

  pub last_screen : (w : List Key) → is_confirmable line (after w) ≡ true → (before : List Field) × (screens_behind line earlier [] w ≡ before ++ after w ∷ [])
  last_screen w may = go (behind [] w)
    where
      go : EndsIn (screens_behind line earlier [] w) (after w) field.Empty → (before : List Field) × (screens_behind line earlier [] w ≡ before ++ after w ∷ [])
      go (inl found) = found
      go (inr (none, same)) =
          let never : is_confirmable line field.Empty ≡ true = ap (is_confirmable line) (sym same) ∙ may in
          absurd (cc)

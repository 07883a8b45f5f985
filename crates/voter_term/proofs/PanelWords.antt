-- Words without a panel word at their front, key by key
use Rattle.std.proofs.Common.{◌≡◌, Bool, true, false, cond, List, [], ◌∷◌, ◌++◌, Option, ◌⊎◌, inl, inr, refl, sym, ap, ◌∙◌}
use Rattle.key_script.specs.declared.keys.Key.{Key}
use Rattle.key_script.specs.declared.keys.Key.TheVariants as key
use Rattle.vote_kinds.specs.declared.choice.Choice.{Choice}
use Rattle.voter_term.specs.declared.panel.Shown.TheVariants as shown
use Rattle.vote_kinds.specs.Ballot.{BallotLine, is_confirmable, choice_of}
use Rattle.key_script.specs.Event.{is_confirm}
use Rattle.voter_term.specs.Field.{field_after, IsUnconfirmed, IsPanelWord, shown_by, Reads}

-- An element in a list with one more at its end is the last, or stands before it.
pub split_last : {A : Type 0} (w x y : List A) (k c : A) → w ++ k ∷ [] ≡ x ++ c ∷ y → ((x ≡ w) × (c ≡ k)) ⊎ ((z : List A) × (w ≡ x ++ c ∷ z))
split_last {A} [] [] y k c e = inl (refl, cc)
split_last {A} [] (a ∷ []) y k c e = absurd (cc)
split_last {A} [] (a ∷ (b ∷ x)) y k c e = absurd (cc)
split_last {A} (b ∷ w) [] y k c e = let h : b ≡ c = cc in inr (w, ap (λ (a : A). a ∷ w) h)
split_last {A} (b ∷ w) (a ∷ x) y k c e =
    let t : w ++ k ∷ [] ≡ x ++ c ∷ y = cc in
    let h : b ≡ a = cc in
    elim (split_last w x y k c t) [
      | inl p ↦ inl (ap (λ (l : List A). a ∷ l) p.0 ∙ ap (λ (d : A). d ∷ w) (sym h), p.1)
      | inr p ↦ inr (p.0, ap (λ (d : A). d ∷ w) h ∙ ap (λ (l : List A). a ∷ l) p.1)
    ]

pub unconfirmed_nil : (line : BallotLine) → IsUnconfirmed line []
unconfirmed_nil line [] y e = absurd (cc)
unconfirmed_nil line (a ∷ x) y e = absurd (cc)

-- one more key
pub unconfirmed_more : (line : BallotLine) (w : List Key) (k : Key) → IsUnconfirmed line w → (key.Confirm ≡ k → is_confirmable line (field_after line.digits w) ≡ false) → IsUnconfirmed line (w ++ k ∷ [])
unconfirmed_more line w k h last = λ x y e.
    elim (split_last w x y k key.Confirm e) [
      | inl p ↦ ap (λ (u : List Key). is_confirmable line (field_after line.digits u)) p.0 ∙ last p.1
      | inr p ↦ h x p.0 p.1
    ]

pub unconfirmed_key : (line : BallotLine) (w : List Key) (k : Key) → IsUnconfirmed line w → is_confirm k ≡ false → IsUnconfirmed line (w ++ k ∷ [])
unconfirmed_key line w (key.Digit d) h t = unconfirmed_more line w (key.Digit d) h (λ e. absurd (cc))
unconfirmed_key line w key.Blank h t = unconfirmed_more line w key.Blank h (λ e. absurd (cc))
unconfirmed_key line w key.Correct h t = unconfirmed_more line w key.Correct h (λ e. absurd (cc))
unconfirmed_key line w key.Confirm h t = absurd (cc)

pub unconfirmed_confirm : (line : BallotLine) (w : List Key) → IsUnconfirmed line w → is_confirmable line (field_after line.digits w) ≡ false → IsUnconfirmed line (w ++ key.Confirm ∷ [])
unconfirmed_confirm line w h t = unconfirmed_more line w key.Confirm h (λ e. t)

pub word_ends : (line : BallotLine) (earlier : Option Choice) (w : List Key) → IsUnconfirmed line w → is_confirmable line (field_after line.digits w) ≡ true → IsPanelWord line earlier (w ++ key.Confirm ∷ []) (choice_of line earlier (field_after line.digits w))
word_ends line earlier w h t = (w, refl, record { confirmable = t; shortest = h; chosen = refl })

-- A panel word ends at its key; any other key leaves no panel word at the front.
reads_confirm : (line : BallotLine) (earlier : Option Choice) (w : List Key) (b : Bool) → IsUnconfirmed line w → is_confirmable line (field_after line.digits w) ≡ b → Reads line earlier (w ++ key.Confirm ∷ []) (shown_by line earlier w key.Confirm)
reads_confirm line earlier w true h e = rw e (word_ends line earlier w h e)
reads_confirm line earlier w false h e = rw e (unconfirmed_confirm line w h e)

reads_test : (line : BallotLine) (earlier : Option Choice) (w : List Key) (b : Bool) → IsUnconfirmed line w → Reads line earlier w (cond b shown.Nothing shown.Screen)
reads_test line earlier w true h = h
reads_test line earlier w false h = h

pub reads_key : (line : BallotLine) (earlier : Option Choice) (w : List Key) (k : Key) → IsUnconfirmed line w → Reads line earlier (w ++ k ∷ []) (shown_by line earlier w k)
reads_key line earlier w key.Confirm h = reads_confirm line earlier w _ h refl
reads_key line earlier w key.Blank h = reads_test line earlier (w ++ key.Blank ∷ []) _ (unconfirmed_key line w key.Blank h refl)
reads_key line earlier w key.Correct h = reads_test line earlier (w ++ key.Correct ∷ []) _ (unconfirmed_key line w key.Correct h refl)
reads_key line earlier w (key.Digit d) h = reads_test line earlier (w ++ key.Digit d ∷ []) _ (unconfirmed_key line w (key.Digit d) h refl)

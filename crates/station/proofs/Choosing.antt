-- What a voter chose, line by line, is a ballot
use Rattle.std.proofs.Common.{◌≡◌, ◌≤◌, ◌+◌, ◌-◌, ℕ, suc, Bool, true, false, cond, List, [], ◌∷◌, ◌++◌, Option, Some, None, length, replicate, slice_get, refl, sym, ap, subst, arith}
use Rattle.key_script.specs.declared.keys.Event.{Event}
use Rattle.key_script.specs.Event.{keys_of}
use Rattle.key_script.specs.declared.keys.Key.{Key}
use Rattle.key_script.specs.declared.keys.Key.TheVariants as key
use Rattle.vote_kinds.specs.declared.choice.Choice.{Choice}
use Rattle.vote_kinds.specs.declared.choice.Choice.TheVariants as choice
use Rattle.vote_kinds.specs.declared.choice.Field.{Field}
use Rattle.vote_kinds.specs.Ballot.{BallotLine, is_choice, is_confirmable, choice_of}
use Rattle.vote_kinds.proofs.Choices.{choice_is, chosen_is}
use Rattle.voter_term.specs.Field.{field_after, same_field}
use Rattle.voter_term.specs.Panel.{next_field, next_shown}
use Rattle.voter_term.specs.declared.panel.Shown.TheVariants as shown
use Rattle.image_codec.specs.State.{State, AreFirst, IsBallot, filled_up}
use Rattle.station.specs.Setting.{Setting}
use Rattle.station.specs.Output.{Output, earlier_for}
use Rattle.station.specs.Run.{Votes, start, voted, IsOpen, open_at}

pub first_more : (lines : List BallotLine) (choices : List Choice) (l : BallotLine) (c : Choice) → AreFirst lines choices → slice_get lines (length choices) ≡ Some l
    → is_choice l c ≡ true → AreFirst lines (choices ++ c ∷ [])
first_more [] [] l c h at is = absurd (cc)
first_more [] (d ∷ choices) l c h at is = absurd h
first_more (k ∷ lines) [] l c h at is = let e : k ≡ l = cc in (subst (λ (m : BallotLine). is_choice m c ≡ true) (sym e) is, tt)
first_more (k ∷ lines) (d ∷ choices) l c h at is = (h.0, first_more lines choices l c h.1 at is)

pub first_all : (lines : List BallotLine) (choices : List Choice) → AreFirst lines choices → slice_get lines (length choices) ≡ None → IsBallot lines choices
first_all [] [] h at = (tt, refl)
first_all [] (d ∷ choices) h at = absurd h
first_all (k ∷ lines) [] h at = absurd (cc)
first_all (k ∷ lines) (d ∷ choices) h at = let more = first_all lines choices h.1 at in ((h.0, more.0), ap suc more.1)

nulls : (lines : List BallotLine) → IsBallot lines (replicate (length lines) choice.Null)
nulls [] = (tt, refl)
nulls (l ∷ lines) = let more = nulls lines in ((refl, more.0), ap suc more.1)

first_then_nulls : (lines : List BallotLine) (choices : List Choice) (n : ℕ) → AreFirst lines choices → n + length choices ≡ length lines → IsBallot lines (choices ++ replicate n choice.Null)
first_then_nulls lines [] n h e = subst (λ (m : ℕ). IsBallot lines (replicate m choice.Null)) (omega arith) (nulls lines)
first_then_nulls [] (d ∷ choices) n h e = absurd h
first_then_nulls (k ∷ lines) (d ∷ choices) n h e = let more = first_then_nulls lines choices n h.1 (omega arith) in ((h.0, more.0), ap suc more.1)

pub first_within : (lines : List BallotLine) (choices : List Choice) → AreFirst lines choices → length choices ≤ length lines
first_within lines [] h = omega arith
first_within [] (d ∷ choices) h = absurd h
first_within (k ∷ lines) (d ∷ choices) h = let more = first_within lines choices h.1 in omega arith

pub first_filled : (lines : List BallotLine) (choices : List Choice) → AreFirst lines choices → IsBallot lines (filled_up lines choices)
first_filled lines choices h =
    let within = first_within lines choices h in
    first_then_nulls lines choices (length lines - length choices) h (omega arith)

-- Visits

pub votes_first : {v : Setting} {s : State} {place : ℕ} {es : List Event} {choices : List Choice} {text : List Output} → Votes v s place es choices text → AreFirst v.lines choices
votes_first start = tt
votes_first {v} (voted {choices} {c} l on votes at visit confirms) =
    first_more v.lines choices l c (votes_first votes) at
    (chosen_is l (earlier_for v choices l) (field_after l.digits (keys_of on)) c confirms.chosen)

pub open_first : {v : Setting} {s : State} {place : ℕ} {es : List Event} {choices : List Choice} {text : List Output} → IsOpen v s place es choices text → AreFirst v.lines choices
open_first (open_at l on votes at visit unconfirmed) = votes_first votes

-- The choice with which a key ends a line

no_vote : (c : Choice) (b : Bool) → cond b shown.Nothing shown.Screen ≡ shown.Voted c → ⊥
no_vote c true e = absurd (cc)
no_vote c false e = absurd (cc)

voted_from : (l : BallotLine) (d c : Choice) (b : Bool) → is_choice l d ≡ true → cond b (shown.Voted d) shown.Nothing ≡ shown.Voted c → is_choice l c ≡ true
voted_from l d c true h e = let same : d ≡ c = cc in subst (λ (x : Choice). is_choice l x ≡ true) same h
voted_from l d c false h e = absurd (cc)

pub voted_is : (l : BallotLine) (earlier : Option Choice) (f : Field) (k : Key) (c : Choice) → next_shown l earlier f k ≡ shown.Voted c → is_choice l c ≡ true
voted_is l earlier f key.Confirm c e = voted_from l (choice_of l earlier f) c (is_confirmable l f) (choice_is l earlier f) e
voted_is l earlier f key.Blank c e = absurd (no_vote c (same_field (next_field l.digits f key.Blank) f) e)
voted_is l earlier f key.Correct c e = absurd (no_vote c (same_field (next_field l.digits f key.Correct) f) e)
voted_is l earlier f (key.Digit d) c e = absurd (no_vote c (same_field (next_field l.digits f (key.Digit d)) f) e)

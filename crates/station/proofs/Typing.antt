-- A key of the voter, where one line of the ballot stands
use Rattle.std.proofs.Common.{◌≡◌, ℕ, Bool, true, false, cond, List, [], ◌∷◌, ◌++◌, length, nat_eq, Option, Some, refl, ap, ◌∙◌}
use Rattle.key_script.specs.declared.keys.Key.{Key}
use Rattle.key_script.specs.declared.keys.Key.TheVariants as key
use Rattle.vote_kinds.specs.declared.choice.Choice.{Choice}
use Rattle.vote_kinds.specs.declared.choice.Field.{Field}
use Rattle.vote_kinds.specs.Ballot.{BallotLine}
use Rattle.voter_term.specs.declared.panel.Shown.{Shown}
use Rattle.voter_term.specs.declared.panel.Shown.TheVariants as shown
use Rattle.voter_term.specs.Field.{same_field}
use Rattle.voter_term.specs.Panel.{next_field, next_shown}
use Rattle.voter_term.proofs.Screens.{same_field_is}
use Rattle.clerk_term.specs.declared.replies.Mode.TheVariants as mode
use Rattle.image_codec.specs.State.{State, with_ballot, filled_up}
use Rattle.station.specs.Setting.{Setting}
use Rattle.station.specs.Output.{line_at, earlier_for, screen}
use Rattle.station.specs.Run.{after_suspension}
use Rattle.station.specs.Press.{typed, on_line, after_key, calls_next, voting_at}

typed_is : (v : Setting) (s : State) (place : ℕ) (choices : List Choice) (f : Field) (k : Key) (l : BallotLine) (r : Shown)
    → line_at v choices ≡ Some l → next_shown l (earlier_for v choices l) f k ≡ r
    → typed v s (mode.Voting place) choices f k ≡ after_key v s place choices f l k r
typed_is v s place choices f k l r at shows = ap (on_line v s place choices f k) at ∙ ap (after_key v s place choices f l k) shows

-- the key that isn't taken changes nothing
pub typed_nothing : (v : Setting) (s : State) (place : ℕ) (choices : List Choice) (f : Field) (k : Key) (l : BallotLine)
    → line_at v choices ≡ Some l → next_shown l (earlier_for v choices l) f k ≡ shown.Nothing
    → typed v s (mode.Voting place) choices f k ≡ record { standing = voting_at s place choices f; out = [] }
typed_nothing v s place choices f k l at shows = typed_is v s place choices f k l shown.Nothing at shows

unchanged : (f g : Field) (same : Bool) → same_field g f ≡ same → cond same shown.Nothing shown.Screen ≡ shown.Nothing → g ≡ f
unchanged f g true e h = same_field_is g f e
unchanged f g false e h = absurd (cc)

pub nothing_stays : (l : BallotLine) (earlier : Option Choice) (f : Field) (k : Key) → next_shown l earlier f k ≡ shown.Nothing → next_field l.digits f k ≡ f
nothing_stays l earlier f key.Confirm h = refl
nothing_stays l earlier f key.Blank h = unchanged f (next_field l.digits f key.Blank) _ refl h
nothing_stays l earlier f key.Correct h = unchanged f (next_field l.digits f key.Correct) _ refl h
nothing_stays l earlier f (key.Digit d) h = unchanged f (next_field l.digits f (key.Digit d)) _ refl h

-- the key that changes the field shows the screen
pub typed_screen : (v : Setting) (s : State) (place : ℕ) (choices : List Choice) (f : Field) (k : Key) (l : BallotLine)
    → line_at v choices ≡ Some l → next_shown l (earlier_for v choices l) f k ≡ shown.Screen
    → typed v s (mode.Voting place) choices f k ≡ record { standing = voting_at s place choices (next_field l.digits f k); out = screen l (earlier_for v choices l) (next_field l.digits f k) ∷ [] }
typed_screen v s place choices f k l at shows =
    typed_is v s place choices f k l shown.Screen at shows

-- the key that ends the line goes on to the next
pub typed_voted : (v : Setting) (s : State) (place : ℕ) (choices : List Choice) (f : Field) (k : Key) (l : BallotLine) (c : Choice)
    → line_at v choices ≡ Some l → next_shown l (earlier_for v choices l) f k ≡ shown.Voted c
    → typed v s (mode.Voting place) choices f k ≡ calls_next v s place (choices ++ c ∷ [])
typed_voted v s place choices f k l c at shows = typed_is v s place choices f k l (shown.Voted c) at shows

-- a voter who is suspended after a choice came
pub came_suspended : (v : Setting) (s : State) (place : ℕ) (choices : List Choice) → nat_eq (length choices) 0 ≡ false
    → after_suspension v s place choices ≡ with_ballot v.lines s place (filled_up v.lines choices)
came_suspended v s place [] some = absurd (cc)
came_suspended v s place (c ∷ choices) some = refl

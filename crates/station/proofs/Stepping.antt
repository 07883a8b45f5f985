-- What stands at a station after one event
use Rattle.std.proofs.Common.{◌≡◌, ℕ, true, List, [], ◌∷◌, ◌++◌, Option, Some, None, length, refl, subst, ◌∙◌}
use Rattle.std.proofs.Math.ListN.{length-set}
use Rattle.key_script.specs.declared.keys.Key.{Key}
use Rattle.key_script.specs.declared.keys.Event.{Event}
use Rattle.key_script.specs.declared.keys.Event.TheVariants.{Clerk, Voter}
use Rattle.key_script.specs.declared.keys.ClerkKey.{ClerkKey}
use Rattle.key_script.specs.Event.{IsKey, IsEvent}
use Rattle.vote_kinds.specs.declared.choice.Choice.{Choice}
use Rattle.vote_kinds.specs.declared.choice.Field.{Field}
use Rattle.vote_kinds.specs.declared.choice.Field.TheVariants as field
use Rattle.vote_kinds.specs.Ballot.{BallotLine, IsField}
use Rattle.voter_term.specs.declared.panel.Shown.{Shown}
use Rattle.voter_term.specs.declared.panel.Shown.TheVariants as shown
use Rattle.voter_term.specs.Panel.{next_field, next_shown}
use Rattle.voter_term.proofs.FieldFits.{next_field-fits}
use Rattle.clerk_term.specs.declared.replies.Mode.{Mode}
use Rattle.clerk_term.specs.declared.replies.Mode.TheVariants as mode
use Rattle.clerk_term.specs.declared.replies.ClerkAnswer.{ClerkAnswer}
use Rattle.clerk_term.specs.declared.replies.ClerkAnswer.TheVariants as answer
use Rattle.image_codec.specs.State.{State, with_ballot, opened_at, sealed_at, filled_up, MayVote, AreFirst}
use Rattle.station.specs.Setting.{Setting, IsSetting, reply_at}
use Rattle.station.specs.Output.{line_at, earlier_for}
use Rattle.station.specs.Run.{after_suspension}
use Rattle.station.specs.Press.{Standing, press, typed, on_line, after_key, call, answered, idle_at, identified_at, voting_at}
use Rattle.station.specs.Valid.{IsStanding, IsPlaced, IsAnswer}
use Rattle.station.proofs.Choosing.{first_more, voted_is}
use Rattle.station.proofs.Replies.{answer_of}

-- the state fits the setting
pub record Fits (v : Setting) (s : State) : Type 0 where
  pub roll : length s.came ≡ length v.roll
  pub places : s.places ≡ v.places

pub ballot_fits : (v : Setting) (s : State) (place : ℕ) (choices : List Choice) → Fits v s → Fits v (with_ballot v.lines s place choices)
ballot_fits v s place choices fits =
    record { roll = length-set s.came place true ∙ fits.roll; places = fits.places }

pub idle_stands : (v : Setting) (s : State) → Fits v s → IsStanding v (idle_at s)
idle_stands v s fits = record { roll = fits.roll; places = fits.places; placed = (refl, refl) }

identified_stands : (v : Setting) (s : State) (place : ℕ) → Fits v s → MayVote s place → IsStanding v (identified_at s place)
identified_stands v s place fits may = record { roll = fits.roll; places = fits.places; placed = (may, refl, refl) }

voting_stands : (v : Setting) (s : State) (place : ℕ) (choices : List Choice) (l : BallotLine) (f : Field) → Fits v s → MayVote s place → AreFirst v.lines choices
    → line_at v choices ≡ Some l → IsField l.digits f → IsStanding v (voting_at s place choices f)
voting_stands v s place choices l f fits may first at is =
    record { roll = fits.roll; places = fits.places; placed = (may, first, (l, at, is)) }

call_stands : (v : Setting) (s : State) (place : ℕ) (choices : List Choice) (o : Option BallotLine) → line_at v choices ≡ o → Fits v s → MayVote s place → AreFirst v.lines choices
    → IsStanding v (call v s place choices o).standing
call_stands v s place choices (Some l) at fits may first = voting_stands v s place choices l field.Empty fits may first at tt
call_stands v s place choices None at fits may first = idle_stands v (with_ballot v.lines s place choices) (ballot_fits v s place choices fits)

-- The voter

after_key_stands : (v : Setting) (s : State) (place : ℕ) (choices : List Choice) (f : Field) (l : BallotLine) (k : Key) (r : Shown) → IsSetting v → IsKey k
    → line_at v choices ≡ Some l → Fits v s → MayVote s place → AreFirst v.lines choices → IsField l.digits f → next_shown l (earlier_for v choices l) f k ≡ r
    → IsStanding v (after_key v s place choices f l k r).standing
after_key_stands v s place choices f l k shown.Nothing setting valid at fits may first is e = voting_stands v s place choices l f fits may first at is
after_key_stands v s place choices f l k shown.Screen setting valid at fits may first is e =
    voting_stands v s place choices l (next_field l.digits f k) fits may first at (next_field-fits l.digits f k (setting (length choices) l at) valid is)
after_key_stands v s place choices f l k (shown.Voted c) setting valid at fits may first is e =
    call_stands v s place (choices ++ c ∷ []) (line_at v (choices ++ c ∷ [])) refl fits may (first_more v.lines choices l c first at (voted_is l (earlier_for v choices l) f k c e))

on_line_stands : (v : Setting) (s : State) (place : ℕ) (choices : List Choice) (f : Field) (k : Key) (l : BallotLine) (o : Option BallotLine) → IsSetting v → IsKey k
    → o ≡ Some l → line_at v choices ≡ Some l → Fits v s → MayVote s place → AreFirst v.lines choices → IsField l.digits f
    → IsStanding v (on_line v s place choices f k o).standing
on_line_stands v s place choices f k l None setting valid e at fits may first is = absurd (cc)
on_line_stands v s place choices f k l (Some m) setting valid e at fits may first is =
    let same : l ≡ m = cc in
    subst (λ (n : BallotLine). IsStanding v (after_key v s place choices f n k (next_shown n (earlier_for v choices n) f k)).standing) same
    (after_key_stands v s place choices f l k (next_shown l (earlier_for v choices l) f k) setting valid at fits may first is refl)

typed_stands : (v : Setting) (s : State) (m : Mode) (choices : List Choice) (f : Field) (k : Key) → IsSetting v → IsKey k
    → Fits v s → IsPlaced v (record { state = s; mode = m; choices = choices; field = f }) m → IsStanding v (typed v s m choices f k).standing
typed_stands v s mode.Idle choices f k setting valid fits placed = record { roll = fits.roll; places = fits.places; placed = placed }
typed_stands v s (mode.Identified place) choices f k setting valid fits placed = record { roll = fits.roll; places = fits.places; placed = placed }
typed_stands v s (mode.Voting place) choices f k setting valid fits placed =
    on_line_stands v s place choices f k placed.2.0 (line_at v choices) setting valid placed.2.1 placed.2.1 fits placed.0 placed.1 placed.2.2

-- The clerk

suspended_stands : (v : Setting) (s : State) (place : ℕ) (choices : List Choice) → Fits v s → IsStanding v (idle_at (after_suspension v s place choices))
suspended_stands v s place [] fits = idle_stands v s fits
suspended_stands v s place (c ∷ choices) fits = idle_stands v (after_suspension v s place (c ∷ choices)) (ballot_fits v s place (filled_up v.lines (c ∷ choices)) fits)

answered_stands : (v : Setting) (x : Standing) (k : ClerkKey) (a : ClerkAnswer) → IsStanding v x → IsAnswer v x.state x.choices k a → IsStanding v (answered v x k a).standing
answered_stands v x k (answer.Refused n) h may = h
answered_stands v x k (answer.Opens m) h may = idle_stands v (opened_at x.state m) (record { roll = h.roll; places = h.places })
answered_stands v x k (answer.Identifies place) h may = identified_stands v x.state place (record { roll = h.roll; places = h.places }) may
answered_stands v x k (answer.Releases place) h may = call_stands v x.state place [] (line_at v []) refl (record { roll = h.roll; places = h.places }) may tt
answered_stands v x k (answer.Cancels place) h may = idle_stands v x.state (record { roll = h.roll; places = h.places })
answered_stands v x k (answer.Suspends place) h may = suspended_stands v x.state place x.choices (record { roll = h.roll; places = h.places })
answered_stands v x k (answer.Seals m) h may = idle_stands v (sealed_at x.state m) (record { roll = h.roll; places = h.places })

-- One event leaves what may stand at a station.
pub press_stands : (v : Setting) (x : Standing) (e : Event) → IsSetting v → IsEvent e → IsStanding v x → IsStanding v (press v x e).standing
press_stands v x (Voter k) setting valid h = typed_stands v x.state x.mode x.choices x.field k setting valid (record { roll = h.roll; places = h.places }) h.placed
press_stands v x (Clerk k) setting valid h = answered_stands v x k (reply_at v x.state x.mode k) h (answer_of v x k h.roll h.placed)

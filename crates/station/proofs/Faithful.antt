-- What a press puts out commits the state that it leaves, and nothing else
use Rattle.std.proofs.Common.{◌≡◌, ◌≤◌, length, arith, ℕ, List, [], ◌∷◌, ◌++◌, Option, Some, None, refl, map}
use Rattle.key_script.specs.declared.keys.Key.{Key}
use Rattle.vote_kinds.specs.declared.choice.Choice.{Choice}
use Rattle.vote_kinds.specs.declared.choice.Field.{Field}
use Rattle.voter_term.specs.declared.panel.Shown.{Shown}
use Rattle.voter_term.specs.declared.panel.Shown.TheVariants as shown
use Rattle.vote_kinds.specs.Ballot.{BallotLine}
use Rattle.voter_term.specs.Panel.{next_shown}
use Rattle.image_codec.specs.State.{State}
use Rattle.station.specs.Setting.{Setting, reply_at}
use Rattle.station.specs.Output.{Says, commits_of, line_at, earlier_for}
use Rattle.station.specs.Press.{Standing, Pressed, press, typed, on_line, after_key, call, answered}
use Rattle.key_script.specs.declared.keys.Event.{Event}
use Rattle.key_script.specs.declared.keys.Event.TheVariants.{Clerk, Voter}
use Rattle.key_script.specs.declared.keys.ClerkKey.{ClerkKey}
use Rattle.clerk_term.specs.declared.replies.Mode.{Mode}
use Rattle.clerk_term.specs.declared.replies.Mode.TheVariants as mode
use Rattle.clerk_term.specs.declared.replies.ClerkAnswer.{ClerkAnswer}
use Rattle.clerk_term.specs.declared.replies.ClerkAnswer.TheVariants as answer
use Rattle.station.specs.declared.line.Line.TheVariants as line
use Rattle.station.specs.Acts.{act_of, outputs_of, last_state}

pub record Faithful (s : State) (r : Pressed) : Type 0 where
  pub last : last_state s r.out ≡ r.standing.state
  pub acts : outputs_of r.standing.state (map act_of r.out) ≡ r.out
  pub one : length (commits_of r.out) ≤ 1

call_faithful : (v : Setting) (s : State) (place : ℕ) (choices : List Choice) (o : Option BallotLine) → Faithful s (call v s place choices o)
call_faithful v s place choices (Some l) = record { last = refl; acts = refl; one = omega arith }
call_faithful v s place choices None = record { last = refl; acts = refl; one = omega arith }

key_faithful : (v : Setting) (s : State) (place : ℕ) (choices : List Choice) (f : Field) (l : BallotLine) (k : Key) (x : Shown) → Faithful s (after_key v s place choices f l k x)
key_faithful v s place choices f l k shown.Nothing = record { last = refl; acts = refl; one = omega arith }
key_faithful v s place choices f l k shown.Screen = record { last = refl; acts = refl; one = omega arith }
key_faithful v s place choices f l k (shown.Voted c) = call_faithful v s place (choices ++ c ∷ []) (line_at v (choices ++ c ∷ []))

line_faithful : (v : Setting) (s : State) (place : ℕ) (choices : List Choice) (f : Field) (k : Key) (o : Option BallotLine) → Faithful s (on_line v s place choices f k o)
line_faithful v s place choices f k None = record { last = refl; acts = refl; one = omega arith }
line_faithful v s place choices f k (Some l) = key_faithful v s place choices f l k (next_shown l (earlier_for v choices l) f k)

typed_faithful : (v : Setting) (s : State) (m : Mode) (choices : List Choice) (f : Field) (k : Key) → Faithful s (typed v s m choices f k)
typed_faithful v s mode.Idle choices f k = record { last = refl; acts = refl; one = omega arith }
typed_faithful v s (mode.Identified place) choices f k = record { last = refl; acts = refl; one = omega arith }
typed_faithful v s (mode.Voting place) choices f k = line_faithful v s place choices f k (line_at v choices)

suspended_faithful : (v : Setting) (s : State) (m : Mode) (f : Field) (c : ClerkKey) (place : ℕ) (choices : List Choice) → Faithful s (answered v (record { state = s; mode = m; choices = choices; field = f }) c (answer.Suspends place))
suspended_faithful v s m f c place [] = record { last = refl; acts = refl; one = omega arith }
suspended_faithful v s m f c place (x ∷ choices) = record { last = refl; acts = refl; one = omega arith }

released : (v : Setting) (x : Standing) (place : ℕ) (o : Option BallotLine) → Faithful x.state (record { standing = (call v x.state place [] o).standing; out = Says line.Released ∷ (call v x.state place [] o).out })
released v x place (Some l) = record { last = refl; acts = refl; one = omega arith }
released v x place None = record { last = refl; acts = refl; one = omega arith }

answered_faithful : (v : Setting) (x : Standing) (c : ClerkKey) (a : ClerkAnswer) → Faithful x.state (answered v x c a)
answered_faithful v x c (answer.Refused n) = record { last = refl; acts = refl; one = omega arith }
answered_faithful v x c (answer.Opens m) = record { last = refl; acts = refl; one = omega arith }
answered_faithful v x c (answer.Identifies place) = record { last = refl; acts = refl; one = omega arith }
answered_faithful v x c (answer.Releases place) = released v x place (line_at v [])
answered_faithful v x c (answer.Cancels place) = record { last = refl; acts = refl; one = omega arith }
answered_faithful v x c (answer.Suspends place) = suspended_faithful v x.state x.mode x.field c place x.choices
answered_faithful v x c (answer.Seals m) = record { last = refl; acts = refl; one = omega arith }

pub press_faithful : (v : Setting) (x : Standing) (e : Event) → Faithful x.state (press v x e)
press_faithful v x (Voter k) = typed_faithful v x.state x.mode x.choices x.field k
press_faithful v x (Clerk c) = answered_faithful v x c (reply_at v x.state x.mode c)

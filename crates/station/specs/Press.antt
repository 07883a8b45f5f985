-- One event at a station, and events one by one: the terminals' tables as a plain program, which computes. The code is proved
-- against it; the laws of runs tie it to whole visits.
use Rattle.std.specs.Prelude.{◌≡◌, ℕ, List, [], ◌∷◌, ◌++◌, Option, Some, None}
use Rattle.key_script.specs.declared.keys.Key.{Key}
use Rattle.key_script.specs.declared.keys.Event.{Event}
use Rattle.key_script.specs.declared.keys.Event.TheVariants.{Clerk, Voter}
use Rattle.key_script.specs.declared.keys.ClerkKey.{ClerkKey}
use Rattle.key_script.specs.declared.keys.ClerkKey.TheVariants as clerk
use Rattle.vote_kinds.specs.declared.choice.Choice.{Choice}
use Rattle.vote_kinds.specs.declared.choice.Field.{Field}
use Rattle.vote_kinds.specs.declared.choice.Field.TheVariants as field
use Rattle.vote_kinds.specs.Ballot.{BallotLine}
use Rattle.voter_term.specs.declared.panel.Shown.{Shown}
use Rattle.voter_term.specs.declared.panel.Shown.TheVariants as shown
use Rattle.voter_term.specs.Panel.{next_field, next_shown}
use Rattle.turnout.specs.Turnout.{number_came}
use Rattle.clerk_term.specs.declared.replies.Mode.{Mode}
use Rattle.clerk_term.specs.declared.replies.Mode.TheVariants as mode
use Rattle.clerk_term.specs.declared.replies.ClerkAnswer.{ClerkAnswer}
use Rattle.clerk_term.specs.declared.replies.ClerkAnswer.TheVariants as answer
use Rattle.image_codec.specs.State.{State, opened_at, sealed_at, with_ballot}
use Rattle.station.specs.Setting.{Setting, reply_at}
use Rattle.station.specs.Output.{Output, Says, Commits, Reports, line_at, earlier_for, call_of, screen}
use Rattle.station.specs.Run.{after_suspension, suspension}
use Rattle.station.specs.declared.line.Line.TheVariants as line
use Rattle.station.specs.declared.line.Title.TheVariants as title

-- a state, who is at the station, the choices of the visit so far, and the field
pub record Standing : Type 0 where
  pub state : State
  pub mode : Mode
  pub choices : List Choice
  pub field : Field

pub record Pressed : Type 0 where
  pub standing : Standing
  pub out : List Output

abbrev pub idle_at : State → Standing
idle_at s = record { state = s; mode = mode.Idle; choices = []; field = field.Empty }

abbrev pub identified_at : State → ℕ → Standing
identified_at s place = record { state = s; mode = mode.Identified place; choices = []; field = field.Empty }

abbrev pub voting_at : State → ℕ → List Choice → Field → Standing
voting_at s place choices f = record { state = s; mode = mode.Voting place; choices = choices; field = f }

-- the next line of the ballot is called, or the visit ends
abbrev pub call : Setting → State → ℕ → List Choice → Option BallotLine → Pressed
call v s place choices (Some l) = record { standing = voting_at s place choices field.Empty; out = call_of choices l ∷ [] }
call v s place choices None =
    record { standing = idle_at (with_ballot v.lines s place choices); out = Commits (with_ballot v.lines s place choices) line.Ended ∷ [] }

abbrev pub calls_next : Setting → State → ℕ → List Choice → Pressed
calls_next v s place choices = call v s place choices (line_at v choices)

abbrev pub after_key : Setting → State → ℕ → List Choice → Field → BallotLine → Key → Shown → Pressed
after_key v s place choices f l k shown.Nothing = record { standing = voting_at s place choices f; out = [] }
after_key v s place choices f l k shown.Screen =
    record { standing = voting_at s place choices (next_field l.digits f k); out = screen l (earlier_for v choices l) (next_field l.digits f k) ∷ [] }
after_key v s place choices f l k (shown.Voted c) = calls_next v s place (choices ++ c ∷ [])

abbrev pub on_line : Setting → State → ℕ → List Choice → Field → Key → Option BallotLine → Pressed
on_line v s place choices f k None = record { standing = voting_at s place choices f; out = [] }
on_line v s place choices f k (Some l) = after_key v s place choices f l k (next_shown l (earlier_for v choices l) f k)

-- a key of the voter
abbrev pub typed : Setting → State → Mode → List Choice → Field → Key → Pressed
typed v s mode.Idle choices f k = record { standing = record { state = s; mode = mode.Idle; choices = choices; field = f }; out = [] }
typed v s (mode.Identified place) choices f k =
    record { standing = record { state = s; mode = mode.Identified place; choices = choices; field = f }; out = [] }
typed v s (mode.Voting place) choices f k = on_line v s place choices f k (line_at v choices)

-- the title of a key that has one
abbrev pub title_of : ClerkKey → ℕ
title_of (clerk.Abre m) = 0
title_of (clerk.Titulo t) = t
title_of clerk.Libera = 0
title_of clerk.Cancela = 0
title_of clerk.Suspende = 0
title_of (clerk.Encerra m) = 0

-- a key of the clerk, with its answer
abbrev pub answered : Setting → Standing → ClerkKey → ClerkAnswer → Pressed
answered v x c (answer.Refused n) = record { standing = x; out = Says (line.Refused n) ∷ [] }
answered v x c (answer.Opens m) =
    record {
      standing = idle_at (opened_at x.state m);
      out = Reports title.Zeresima (opened_at x.state m) ∷ Commits (opened_at x.state m) (line.Opened m) ∷ [];
    }
answered v x c (answer.Identifies place) = record { standing = identified_at x.state place; out = Says (line.Voter (title_of c)) ∷ [] }
answered v x c (answer.Releases place) =
    record { standing = (calls_next v x.state place []).standing; out = Says line.Released ∷ (calls_next v x.state place []).out }
answered v x c (answer.Cancels place) = record { standing = idle_at x.state; out = Says line.Canceled ∷ [] }
answered v x c (answer.Suspends place) =
    record { standing = idle_at (after_suspension v x.state place x.choices); out = suspension v x.state place x.choices ∷ [] }
answered v x c (answer.Seals m) =
    record {
      standing = idle_at (sealed_at x.state m);
      out = Commits (sealed_at x.state m) (line.Sealed m (number_came x.state.came)) ∷ Reports title.Boletim (sealed_at x.state m) ∷ [];
    }

-- one event
abbrev pub press : Setting → Standing → Event → Pressed
press v x (Voter k) = typed v x.state x.mode x.choices x.field k
press v x (Clerk c) = answered v x c (reply_at v x.state x.mode c)

-- an event changes nothing and puts nothing out
abbrev pub ChangesNothing : Setting → Standing → Event → Type 0
ChangesNothing v x e = press v x e ≡ record { standing = x; out = [] }

-- events one by one: where the station stands in the end, and what they put out
abbrev pub after : Setting → Standing → List Event → Standing
after v x [] = x
after v x (e ∷ es) = after v (press v x e).standing es

abbrev pub outputs : Setting → Standing → List Event → List Output
outputs v x [] = []
outputs v x (e ∷ es) = (press v x e).out ++ outputs v (press v x e).standing es

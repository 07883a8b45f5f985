-- What a station stands for: a state, and the events since it was last idle
use Rattle.std.specs.Prelude.{◌≡◌, ℕ, List, [], ◌∷◌, ◌++◌, Some}
use Rattle.std.specs.List.{AllByRecursion}
use Rattle.key_script.specs.declared.keys.Event.{Event}
use Rattle.key_script.specs.declared.keys.Event.TheVariants.{Clerk}
use Rattle.key_script.specs.declared.keys.ClerkKey.TheVariants as clerk
use Rattle.key_script.specs.Event.{keys_of}
use Rattle.vote_kinds.specs.declared.choice.Choice.{Choice}
use Rattle.vote_kinds.specs.Ballot.{BallotLine}
use Rattle.voter_term.specs.Field.{field_after, IsUnconfirmed}
use Rattle.clerk_term.specs.declared.replies.Mode.{Mode}
use Rattle.clerk_term.specs.declared.replies.Mode.TheVariants as mode
use Rattle.clerk_term.specs.declared.replies.ClerkAnswer.TheVariants as answer
use Rattle.image_codec.specs.State.{State}
use Rattle.station.specs.Setting.{Setting, reply_at}
use Rattle.station.specs.Output.{Output, Says, line_at, earlier_for, call_of}
use Rattle.station.specs.Run.{IsWaiting, IsVisiting, wait_outputs, line_outputs, Votes, IsRun}
use Rattle.station.specs.Press.{Standing, idle_at, identified_at, voting_at}
use Rattle.station.specs.declared.line.Line.TheVariants as line

-- A station stands for a state and the events since it was last idle, which put this out.
pub data StandsFor (v : Setting) (s : State) : Standing → List Event → List Output → Type 0 where
  idle : StandsFor v s (idle_at s) [] []
  identified : {number place : ℕ} (before : List Event)
      → reply_at v s mode.Idle (clerk.Titulo number) ≡ answer.Identifies place → AllByRecursion IsWaiting before
      → StandsFor v s (identified_at s place) (Clerk (clerk.Titulo number) ∷ before) (Says (line.Voter number) ∷ wait_outputs v s place before)
  voting : {number place : ℕ} {es : List Event} {choices : List Choice} {text : List Output} (before : List Event) (l : BallotLine) (more : List Event)
      → reply_at v s mode.Idle (clerk.Titulo number) ≡ answer.Identifies place → AllByRecursion IsWaiting before
      → Votes v s place es choices text → line_at v choices ≡ Some l
      → AllByRecursion IsVisiting more → IsUnconfirmed l (keys_of more)
      → StandsFor v s (voting_at s place choices (field_after l.digits (keys_of more)))
      (Clerk (clerk.Titulo number) ∷ (before ++ Clerk clerk.Libera ∷ (es ++ more)))
      (Says (line.Voter number) ∷ (wait_outputs v s place before
      ++ Says line.Released ∷ (text ++ call_of choices l ∷ line_outputs v s place l (earlier_for v choices l) [] more)))

-- After the events, which put this out, the station stands for s and the events where somebody is identified or voting. Where
-- it is idle, the events were a run to its state, and it stands for that and no events.
abbrev pub StandsOn : Setting → State → Mode → Standing → List Event → List Output → Type 0
StandsOn v s mode.Idle x es out = IsRun v s es x.state out × StandsFor v x.state x [] []
StandsOn v s (mode.Identified place) x es out = StandsFor v s x es out
StandsOn v s (mode.Voting place) x es out = StandsFor v s x es out

-- The events, from s with nobody identified, lead to this standing and put this out: a run of those until the station was last
-- idle, and those since, for which it stands.
pub record IsReached (v : Setting) (s : State) (es : List Event) (out : List Output) (x : Standing) : Type 0 where
  pub state : State
  pub before : List Event
  pub since : List Event
  pub put_before : List Output
  pub put_since : List Output
  pub events : es ≡ before ++ since
  pub texts : out ≡ put_before ++ put_since
  pub run : IsRun v s before state put_before
  pub stands : StandsFor v state x since put_since

-- What may stand at a station, so that a ballot may be added
use Rattle.std.specs.Prelude.{◌≡◌, ◌≤◌, ℕ, List, [], Some, length}
use Rattle.vote_kinds.specs.declared.choice.Choice.{Choice}
use Rattle.vote_kinds.specs.declared.choice.Field.TheVariants as field
use Rattle.vote_kinds.specs.Ballot.{BallotLine, IsField}
use Rattle.key_script.specs.declared.keys.ClerkKey.{ClerkKey}
use Rattle.key_script.specs.declared.keys.ClerkKey.TheVariants as clerk
use Rattle.turnout.specs.declared.phase.Phase.TheVariants as phase
use Rattle.clerk_term.specs.declared.replies.ClerkAnswer.{ClerkAnswer}
use Rattle.clerk_term.specs.declared.replies.ClerkAnswer.TheVariants as answer
use Rattle.clerk_term.specs.declared.replies.Mode.{Mode}
use Rattle.clerk_term.specs.declared.replies.Mode.TheVariants as mode
use Rattle.image_codec.specs.State.{State, MayVote, AreFirst}
use Rattle.station.specs.Setting.{Setting}
use Rattle.station.specs.Output.{line_at}
use Rattle.station.specs.Press.{Standing}

-- Who is identified or votes may vote. Nothing is chosen or typed but by who votes, whose choices so far are choices of the
-- first lines of the ballot, with one line more, whose field has no more digits than it.
abbrev pub IsPlaced : Setting → Standing → Mode → Type 0
IsPlaced v x mode.Idle = (x.choices ≡ []) × (x.field ≡ field.Empty)
IsPlaced v x (mode.Identified place) = MayVote x.state place × (x.choices ≡ []) × (x.field ≡ field.Empty)
IsPlaced v x (mode.Voting place) =
    MayVote x.state place × AreFirst v.lines x.choices × ((l : BallotLine) × (line_at v x.choices ≡ Some l) × IsField l.digits x.field)

pub record IsStanding (v : Setting) (x : Standing) : Type 0 where
  pub roll : length x.state.came ≡ length v.roll
  pub places : x.state.places ≡ v.places
  pub placed : IsPlaced v x x.mode

-- the answer to a key may be acted on
abbrev pub IsAnswer : Setting → State → List Choice → ClerkKey → ClerkAnswer → Type 0
IsAnswer v s choices k (answer.Refused n) = Unit {0}
IsAnswer v s choices k (answer.Opens m) = (s.phase ≡ phase.Ready) × (k ≡ clerk.Abre m)
IsAnswer v s choices k (answer.Identifies place) = MayVote s place
IsAnswer v s choices k (answer.Releases place) = MayVote s place
IsAnswer v s choices k (answer.Cancels place) = Unit {0}
IsAnswer v s choices k (answer.Suspends place) = MayVote s place × AreFirst v.lines choices
IsAnswer v s choices k (answer.Seals m) = (k ≡ clerk.Encerra m) × ((opened : ℕ) × (s.phase ≡ phase.Polling opened) × (opened ≤ m))

-- The states of a run, one after another
use Rattle.std.specs.Prelude.{◌≡◌, ◌≤◌, ℕ, List, [], ◌∷◌}
use Rattle.vote_kinds.specs.declared.choice.Choice.{Choice}
use Rattle.turnout.specs.declared.phase.Phase.TheVariants as phase
use Rattle.image_codec.specs.State.{State, opened_at, sealed_at, with_ballot, MayVote, IsBallot}
use Rattle.station.specs.Setting.{Setting}

-- One opening, one voter or one seal.
pub data IsNext (v : Setting) (s : State) : State → Type 0 where
  opening : (m : ℕ) → s.phase ≡ phase.Ready → IsNext v s (opened_at s m)
  voter : (place : ℕ) (choices : List Choice) → MayVote s place → IsBallot v.lines choices → IsNext v s (with_ballot v.lines s place choices)
  seal : {opened : ℕ} (m : ℕ) → s.phase ≡ phase.Polling opened → opened ≤ m → IsNext v s (sealed_at s m)

-- from s through these states to t, which is the last of them, or s where there is none
pub data IsHistory (v : Setting) : State → List State → State → Type 0 where
  same : {s : State} → IsHistory v s [] s
  then : {s u t : State} {states : List State} → IsNext v s u → IsHistory v u states t → IsHistory v s (u ∷ states) t

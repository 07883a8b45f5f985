-- What the run of the rehearsal's events comes to.
use Rattle.std.specs.Prelude.{◌≡◌, ℕ, Bool, ◌&&◌, List, nat_lt, is_some}
use Rattle.image_codec.specs.State.{State}
use Rattle.image_codec.specs.Valid.{ready_state}
use Rattle.turnout.specs.Turnout.{has_come}
use Rattle.turnout.specs.declared.phase.Phase.TheVariants as phase
use Rattle.station.specs.Output.{Output}
use Rattle.station.specs.Run.{IsRun}
use Rattle.station.specs.Setting.{setting_of}
use Rattle.rehearsal.specs.Roll.{titles}
use Rattle.rehearsal.specs.Script.{opening_moment, closing_moment, generated_events}
use Rattle.rehearsal.specs.Tables.{generated_tables}
use Rattle.rehearsal.specs.Typing.{typed_at}

-- From the state before the poll, the events for so many voters lead to this state and put this out.
abbrev pub IsRehearsal : ℕ → List ℕ → State → List Output → Type 0
IsRehearsal voters digest last out =
    IsRun (setting_of (generated_tables voters digest) (titles voters)) (ready_state (generated_tables voters digest) voters) (generated_events voters) last out

-- its last state is sealed, at the moments of the script
abbrev pub RunSeals : Type 0
RunSeals =
    (voters : ℕ) (digest : List ℕ) (last : State) (out : List Output) → IsRehearsal voters digest last out
    → last.phase ≡ phase.Sealed opening_moment closing_moment

-- the voter at a place is one of so many, and comes
abbrev pub comes : ℕ → ℕ → Bool
comes voters place = nat_lt place voters && is_some (typed_at place)

-- in its last state each voter has voted who comes, and nobody else
abbrev pub WhoeverComesVotes : Type 0
WhoeverComesVotes =
    (voters : ℕ) (digest : List ℕ) (last : State) (out : List Output) → IsRehearsal voters digest last out
    → (place : ℕ) → has_come last.came place ≡ comes voters place

-- How a station starts
use Rattle.std.specs.Prelude.{◌≡◌, ◌++◌, ℕ, List, [], ◌∷◌, length}
use Rattle.std.specs.Option.{ForSome}
use Rattle.urna_outside.specs.Faults.{IsFaultless}
use Rattle.urna_outside.specs.Flash.{Op}
use Rattle.urna_outside.specs.Told.{Told, Runs, port_of}
use Rattle.urna_outside.specs.declared.device.Port.TheVariants.{Internal, External, Display}
use Rattle.urna_outside.specs.declared.device.Dev.TheVariants as dev
use Rattle.election_tables.specs.Roll.{RollData}
use Rattle.election_tables.specs.TablesData.{TablesData}
use Rattle.turnout.specs.Turnout.{number_came}
use Rattle.image_codec.specs.State.{State}
use Rattle.flash_store.specs.Syncs.{both_synced}
use Rattle.state_store.specs.Calls.{FailsToRecover, IsRecovery, Recovers}
use Rattle.state_store.specs.Load.{load_of}
use Rattle.state_store.specs.Played.{HasPut, HasStopped, IsSafe}
use Rattle.state_store.specs.Rest.{AreAtRest}
use Rattle.flash_store.specs.Pieces.{quiet}
use Rattle.state_store.specs.Pieces.{Piece}
use Rattle.state_store.specs.declared.load.Load.{Load}
use Rattle.state_store.specs.declared.store.StoreError.{StoreError}
use Rattle.state_store.specs.declared.store.StoreError.TheVariants as store
use Rattle.station.specs.Press.{idle_at}
use Rattle.station.specs.Station.{StationData}
use Rattle.station.specs.Text.{line_text}
use Rattle.station.specs.declared.line.Line.TheVariants.{Poll}
use Rattle.station.specs.declared.station.StartError.{StartError}
use Rattle.station.specs.declared.station.StartError.TheVariants as start

-- the line that tells where the poll stands
abbrev pub opening_line : TablesData → State → List ℕ
opening_line t s = line_text t (Poll s.phase (number_came s.came))

-- the opening line as a piece, which tells no new state
abbrev pub opening : TablesData → State → List Piece
opening t s = quiet (opening_line t s ∷ [])

-- The flashes were synced and recovered: the slots that weren't open with the held body were brought to it and no other was touched,
-- and then all were brought to the encoding that is written today, where that body is another one. They are left at rest with a state of this
-- load, which is that of the tables and the roll.
pub record IsRecovered (t : TablesData) (r : RollData) (load : Load) (s : State) (old new : Told) : Type 0 where
  pub same : load ≡ load_of t r load.section
  pub ran : Runs (λ ops. (rest : List Op) × (ops ≡ both_synced ++ rest) × Recovers t r load.section s old rest) old new
  pub exact : ForSome old.flashes (λ start. Runs (IsRecovery t (length r.titles) s start) old new)
  pub rest : ForSome new.flashes (AreAtRest t load s)
  pub fine : IsFaultless old new

-- The flashes were recovered, and then the opening line was shown.
pub record Opens (t : TablesData) (r : RollData) (load : Load) (s : State) (old new : Told) : Type 0 where
  pub between : Told
  pub recovered : IsRecovered t r load s old between
  pub shown : HasPut t load s (opening t s) between new

-- the station stands at the recovered state with nobody there
pub record IsStarted (t : TablesData) (r : RollData) (station : StationData) (old new : Told) : Type 0 where
  pub state : State
  pub idle : station.standing ≡ idle_at state
  pub opens : Opens t r station.store.load state old new

-- a recovery that failed, as the start of a station tells it
abbrev pub start_error : StoreError → StartError
start_error store.Memory = start.Memory
start_error (store.Flash d) = start.Port (port_of d)
start_error (store.Foreign d) = start.Foreign d
start_error store.NoImage = start.NoImage

-- The display failed in the opening line, behind a recovery. What a power cut leaves is what it would leave of a session, whatever
-- pieces were to come.
pub record IsCutAtOpening (t : TablesData) (r : RollData) (old new : Told) : Type 0 where
  pub load : Load
  pub state : State
  pub between : Told
  pub recovered : IsRecovered t r load state old between
  pub stopped : HasStopped t load state (opening t state) Display between new
  pub survives : (pieces : List Piece) → IsSafe t load state (opening t state ++ pieces) old new

-- what there is where a station doesn't start
abbrev pub FailsToStart : TablesData → RollData → Told → Told → StartError → Type 0
FailsToStart t r old new start.Memory = FailsToRecover t r old new store.Memory
FailsToStart t r old new (start.Port Internal) = FailsToRecover t r old new (store.Flash dev.Internal)
FailsToStart t r old new (start.Port External) = FailsToRecover t r old new (store.Flash dev.External)
FailsToStart t r old new (start.Port Display) = IsCutAtOpening t r old new
FailsToStart t r old new (start.Foreign d) = FailsToRecover t r old new (store.Foreign d)
FailsToStart t r old new start.NoImage = FailsToRecover t r old new store.NoImage

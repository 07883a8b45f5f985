-- Putting out what a session says over the flashes of a poll: each state is committed, and then its line is shown
use Rattle.std.specs.Prelude.{ℕ, List, Option, Result}
use Rattle.urna_outside.specs.Flash.{Flashes, Op}
use Rattle.urna_outside.specs.Stop.{Left}
use Rattle.urna_outside.specs.Told.{Told}
use Rattle.urna_outside.specs.declared.device.Port.{Port}
use Rattle.election_tables.specs.TablesData.{TablesData}
use Rattle.image_codec.specs.State.{State}
use Rattle.flash_store.specs.Played.{Keeping, Follows as FollowsOf, HasPut as HasPutOf, HasStopped as HasStoppedOf, IsSafe as IsSafeOf, Plays as PlaysOf, Puts as PutsOf, Survives as SurvivesOf}
use Rattle.state_store.specs.Cost.{commit_bytes}
use Rattle.state_store.specs.Held.{poll}
use Rattle.state_store.specs.Order.{IsCommit}
use Rattle.state_store.specs.Pieces.{Piece}
use Rattle.state_store.specs.Rest.{AreAtRest}
use Rattle.state_store.specs.declared.load.Load.{Load}

-- how the states of a poll are kept on flashes with this load
abbrev pub kept_poll : TablesData → Load → Keeping State
kept_poll t load =
    record { codec = poll t load.section.voters; AreAtRest = AreAtRest t load; IsCommit = IsCommit t; commit_bytes = commit_bytes t }

-- what a power cut leaves while the pieces are put out
abbrev pub Follows : TablesData → ℕ → State → List Piece → Left → Type 0
Follows t voters s pieces left = FollowsOf (poll t voters) s pieces left

-- what holds of the operations while the pieces are put out, whole or up to a fault
abbrev pub Plays : TablesData → Load → State → List Piece → Option Flashes → List Op → Type 0
Plays t load s pieces start ops = PlaysOf (poll t load.section.voters) s pieces start ops

-- all pieces were put out in order, and no call failed
abbrev pub HasPut : TablesData → Load → State → List Piece → Told → Told → Type 0
HasPut t load s pieces old new = HasPutOf (kept_poll t load) s pieces old new

-- a port failed while they were put out
abbrev pub HasStopped : TablesData → Load → State → List Piece → Port → Told → Told → Type 0
HasStopped t load s pieces at old new = HasStoppedOf (kept_poll t load) s pieces at old new

-- all pieces were put out where it is Ok, and up to a fault of the port that it answers where it isn't
abbrev pub Puts : {T E : Type 0} → (E → Port) → Result T E → TablesData → Load → State → List Piece → Told → Told → Type 0
Puts port_in result t load s pieces old new = PutsOf (kept_poll t load) port_in result s pieces old new

-- what a power cut leaves of a call that puts the pieces out from the state that it found
abbrev pub Survives : TablesData → Load → State → List Piece → Flashes → Left → Type 0
Survives t load s pieces start left = SurvivesOf (poll t load.section.voters) s pieces start left

-- a call synced both flashes, and at each stop behind that it leaves so much
abbrev pub IsSafe : TablesData → Load → State → List Piece → Told → Told → Type 0
IsSafe t load s pieces old new = IsSafeOf (poll t load.section.voters) s pieces old new

-- What flashes hold: the frame of a load, and a state of a poll
use Rattle.std.specs.Prelude.{ℕ, List}
use Rattle.urna_outside.specs.Flash.{Flashes}
use Rattle.urna_outside.specs.Stop.{Left}
use Rattle.urna_outside.specs.declared.device.Dev.{Dev}
use Rattle.urna_outside.specs.declared.device.Dev.TheVariants.{Internal, External}
use Rattle.election_tables.specs.Roll.{RollData}
use Rattle.election_tables.specs.TablesData.{TablesData}
use Rattle.election_tables.specs.declared.tables.sections.Section.{Section}
use Rattle.twin_image.specs.Frame.{HasFrame}
use Rattle.flash_store.specs.Held.{Codec, HeldAlone as HeldAloneOf, HeldByBoth as HeldByBothOf, HeldByNone as HeldByNoneOf, KeepFrames as KeepFramesOf}
use Rattle.image_codec.specs.Encoding.{IsEncoding}
use Rattle.image_codec.specs.State.{State, rank_of}
use Rattle.image_codec.specs.Layout.{body_size}
use Rattle.state_store.specs.Load.{IsSectionOf, header, load_of}

-- the device has the frame of this section's load: its header, and zeros behind both gates
abbrev pub HasFrameOf : TablesData → RollData → Section → Dev → List ℕ → Type 0
HasFrameOf t r section d content = HasFrame body_size (header (load_of t r section) d) content

-- both devices have the frame of a section of the tables that has as many voters as the roll
pub record AreLoaded (t : TablesData) (r : RollData) (section : Section) (internal external : List ℕ) : Type 0 where
  pub section_fits : IsSectionOf t r section
  pub internal_frame : HasFrameOf t r section Internal internal
  pub external_frame : HasFrameOf t r section External external

-- the device has the frame of no such section
abbrev pub HasNoFrame : TablesData → RollData → Dev → List ℕ → Type 0
HasNoFrame t r d content = (section : Section) → IsSectionOf t r section → ¬ HasFrameOf t r section d content

-- The internal frame is that of no such section; or it is that of one, and the external frame isn't that of the same.
abbrev pub IsForeign : TablesData → RollData → Dev → List ℕ → List ℕ → Type 0
IsForeign t r Internal internal external = HasNoFrame t r Internal internal
IsForeign t r External internal external =
    (section : Section) × IsSectionOf t r section × HasFrameOf t r section Internal internal × (¬ HasFrameOf t r section External external)

-- ---- the held state

-- how the states of a poll of these tables with so many voters are written: in either version
abbrev pub poll : TablesData → ℕ → Codec State
poll t voters = record { size = body_size; IsEncoding = IsEncoding t voters; rank = rank_of }

-- both images together hold this state of a poll of these tables with so many voters
abbrev pub HeldByBoth : TablesData → ℕ → List ℕ → List ℕ → State → Type 0
HeldByBoth t voters internal external s = HeldByBothOf (poll t voters) internal external s

-- no state stands in their slots
abbrev pub HeldByNone : TablesData → ℕ → List ℕ → List ℕ → Type 0
HeldByNone t voters internal external = HeldByNoneOf (poll t voters) internal external

-- one image alone holds this state
abbrev pub HeldAlone : TablesData → ℕ → List ℕ → State → Type 0
HeldAlone t voters image s = HeldAloneOf (poll t voters) image s

-- each image has its device's frame
abbrev pub KeepFrames : Flashes → Left → Type 0
KeepFrames start left = KeepFramesOf body_size start left

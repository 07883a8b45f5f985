-- A flash that broke and was replaced: which device counts as one, and what a power cut leaves while it is brought to the other one's poll
use Rattle.std.specs.Prelude.{◌⊎◌, ℕ, List, length}
use Rattle.urna_outside.specs.Flash.{Flashes, flash_of}
use Rattle.urna_outside.specs.Started.{clean_flashes}
use Rattle.urna_outside.specs.Stop.{Left, left_on}
use Rattle.urna_outside.specs.declared.device.Dev.{Dev}
use Rattle.election_tables.specs.Roll.{RollData}
use Rattle.election_tables.specs.TablesData.{TablesData}
use Rattle.election_tables.specs.declared.tables.sections.Section.{Section}
use Rattle.image_codec.specs.State.{State}
use Rattle.twin_image.specs.Slots.{beside}
use Rattle.state_store.specs.Calls.{AreFound}
use Rattle.state_store.specs.Held.{HasFrameOf, HeldAlone}
use Rattle.state_store.specs.Laws.{AreWhole}
use Rattle.state_store.specs.Load.{IsSectionOf}
use Rattle.state_store.specs.Rest.{IsInUse}

-- The device stands for a state: it has the frame of this section's load, and it alone holds the state.
pub record IsStanding (t : TablesData) (r : RollData) (section : Section) (s : State) (d : Dev) (image : List ℕ) : Type 0 where
  pub section_fits : IsSectionOf t r section
  pub frame : HasFrameOf t r section d image
  pub held : HeldAlone t (length r.titles) image s

-- The device is a replaced one: it isn't in use, and the one beside it stands for the state.
pub record IsReplaced (t : TablesData) (r : RollData) (section : Section) (s : State) (replaced : Dev) (flashes : Flashes) : Type 0 where
  pub standing : IsStanding t r section s (beside replaced) (flash_of (beside replaced) flashes).content
  pub unused : ¬ IsInUse (flash_of replaced flashes).content

-- What a power cut leaves while the replaced device is loaded: devices of their size; the one beside it stands for the state; and the
-- replaced one isn't in use, or both frames are right and both together hold the state.
pub record LeavesStanding (t : TablesData) (r : RollData) (section : Section) (s : State) (replaced : Dev) (left : Left) : Type 0 where
  pub whole : AreWhole (clean_flashes left.internal left.external)
  pub standing : IsStanding t r section s (beside replaced) (left_on (beside replaced) left)
  pub other : (¬ IsInUse (left_on replaced left)) ⊎ AreFound t r section s (clean_flashes left.internal left.external)

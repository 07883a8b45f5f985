-- Laws of replaced devices, and of what a power cut leaves to the next call
use Rattle.std.specs.Prelude.{◌≡◌, ◌⊎◌, ℕ, List, [], ◌∷◌}
use Rattle.urna_outside.specs.Started.{clean_flashes}
use Rattle.urna_outside.specs.Stop.{Left}
use Rattle.urna_outside.specs.declared.device.Dev.{Dev}
use Rattle.urna_outside.specs.Flash.{Flashes, flash_of}
use Rattle.election_tables.specs.Roll.{RollData}
use Rattle.election_tables.specs.TablesData.{IsTables, TablesData}
use Rattle.election_tables.specs.declared.tables.sections.Section.{Section}
use Rattle.image_codec.specs.State.{State}
use Rattle.state_store.specs.Calls.{AreFound}
use Rattle.state_store.specs.Held.{HasFrameOf, HasNoFrame}
use Rattle.state_store.specs.Laws.{AreWhole, IsPollOf}
use Rattle.contingency.specs.Calls.{IsBare}
use Rattle.contingency.specs.Replaced.{IsReplaced, IsStanding, LeavesStanding}

-- A device stands for one section and one state at most: no frame is that of two sections, and no slots hold two states.
abbrev pub StandsOnce : Type 0
StandsOnce =
    (t : TablesData) (r : RollData) (section other : Section) (s u : State) (d : Dev) (image : List ℕ) → IsTables t
    → IsStanding t r section s d image → IsStanding t r other u d image → (section ≡ other) × (s ≡ u)

-- The causes of the answers exclude one another: a device that stands for a state has a frame, and one of its slots stands; and one of
-- which no slot stands has a frame. (Whether the other one is in use tells the two answers that are left.)
abbrev pub OneCause : Type 0
OneCause =
    (t : TablesData) (r : RollData) (section other : Section) (s : State) (d : Dev) (image : List ℕ)
    → (IsStanding t r section s d image → (¬ HasNoFrame t r d image) × (¬ IsBare t r other d image))
    × (IsBare t r section d image → ¬ HasNoFrame t r d image)

-- What a power cut leaves of a replacement is a replaced device again, which may be replaced once more, or a poll that the next call
-- finds; and the state is the same. The devices have their size.
abbrev pub ReplacementGoesOn : Type 0
ReplacementGoesOn =
    (t : TablesData) (r : RollData) (section : Section) (s : State) (replaced : Dev) (left : Left) → LeavesStanding t r section s replaced left
    → AreWhole (clean_flashes left.internal left.external)
    × (IsReplaced t r section s replaced (clean_flashes left.internal left.external) ⊎ IsPollOf t r section (s ∷ []) left)

-- Where the replaced device has the frame of the section's load too, as a spare has that was loaded and never opened, both flashes are a
-- poll in that state.
abbrev pub SpareIsFound : Type 0
SpareIsFound =
    (t : TablesData) (r : RollData) (section : Section) (s : State) (replaced : Dev) (flashes : Flashes) → IsTables t
    → IsReplaced t r section s replaced flashes → HasFrameOf t r section replaced (flash_of replaced flashes).content → AreFound t r section s flashes

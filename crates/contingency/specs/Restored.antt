-- What a replacement writes: the device beside the replaced one is brought up to the encoding that is written today, and the replaced
-- one is loaded
use Rattle.std.specs.Prelude.{◌≡◌, ◌≢◌, ◌⊎◌, ℕ, ◌<◌, List, [], ◌++◌, length}
use Rattle.urna_outside.specs.Flash.{Op, Flashes, flash_of}
use Rattle.urna_outside.specs.Stage.{Course, Stage}
use Rattle.urna_outside.specs.Stop.{Left, left_on}
use Rattle.urna_outside.specs.Told.{Told}
use Rattle.urna_outside.specs.declared.device.Dev.{Dev}
use Rattle.urna_outside.specs.declared.device.Dev.TheVariants.{Internal, External}
use Rattle.election_tables.specs.TablesData.{TablesData}
use Rattle.image_codec.specs.Encoding.{encode}
use Rattle.image_codec.specs.Layout.{body_size}
use Rattle.image_codec.specs.State.{State}
use Rattle.twin_image.specs.Frame.{HasFrame}
use Rattle.twin_image.specs.Heal.{AreMends}
use Rattle.twin_image.specs.Lay.{lay_ops}
use Rattle.twin_image.specs.Order.{IsRenewal}
use Rattle.twin_image.specs.Slots.{KeepsFrame, beside}
use Rattle.twin_image.specs.Twin.{IsOfTwin}
use Rattle.state_store.specs.Held.{HeldAlone, HeldByBoth}
use Rattle.state_store.specs.Rest.{IsInUse, device_size}

-- a place that may be written where this device is replaced: each one of it, and the gates and bodies of the device beside it
abbrev pub MayBeWritten : Dev → Dev → ℕ → Type 0
MayBeWritten Internal Internal k = k < device_size
MayBeWritten Internal External k = IsOfTwin body_size k
MayBeWritten External Internal k = IsOfTwin body_size k
MayBeWritten External External k = k < device_size

-- What a power cut leaves: the standing device alone holds the state under its old frame; and the replaced one is in use only if it
-- was, or it has the new frame and both together hold the state.
pub record LeavesHeld (t : TablesData) (s : State) (replaced : Dev) (header : List ℕ) (start : Flashes) (left : Left) : Type 0 where
  pub held : HeldAlone t (length s.came) (left_on (beside replaced) left) s
  pub frame : KeepsFrame body_size (flash_of (beside replaced) start).content (left_on (beside replaced) left)
  pub same_length : length (left_on replaced left) ≡ length (flash_of replaced start).content
  pub other : (IsInUse (left_on replaced left) → IsInUse (flash_of replaced start).content)
      ⊎ (HasFrame body_size header (left_on replaced left) × HeldByBoth t (length s.came) left.internal left.external s)

-- what is done, as far as it comes
abbrev pub Restores : TablesData → State → Dev → List ℕ → Told → List Op → Type 0
Restores t s replaced header told = Course told (MayBeWritten replaced) 19 (LeavesHeld t s replaced header)

-- what is done where the slots of a device are brought up, as far as it comes: at each stop it alone holds the state
abbrev pub Brings : TablesData → State → Dev → Told → List Op → Type 0
Brings t s d told = Stage told d (IsOfTwin body_size) 12 (λ start left. HeldAlone t (length s.came) (left_on d left) s)

-- nothing is done where this body is the encoding of the state that is written today; else slot 0 of the device has its turn to that
-- encoding, and then slot 1
abbrev pub IsChange : TablesData → State → Dev → List ℕ → List Op → Type 0
IsChange t s d body ops =
    ((body ≡ encode t s) × (ops ≡ [])) ⊎ ((body ≢ encode t s) × IsRenewal body_size d body (encode t s) ops)

-- The slots of a device that holds this body are brought up: each slot that isn't open with the body is brought to it, and then the body
-- is changed.
pub record AreBroughtUp (t : TablesData) (s : State) (d : Dev) (body content : List ℕ) (ops : List Op) : Type 0 where
  pub heal : List Op
  pub heals : AreMends body_size d body content heal
  pub change : List Op
  pub changes : IsChange t s d body change
  pub in_row : ops ≡ heal ++ change

-- All that is done: the slots of the standing device are brought up, and the replaced one is loaded.
pub record IsRestored (t : TablesData) (s : State) (replaced : Dev) (header body : List ℕ) (start : Flashes) (ops : List Op) : Type 0 where
  pub front : List Op
  pub brings_up : AreBroughtUp t s (beside replaced) body (flash_of (beside replaced) start).content front
  pub in_row : ops ≡ front ++ lay_ops body_size replaced header (encode t s) (flash_of replaced start).content

-- Flashes at rest, and flashes in use
use Rattle.std.specs.Prelude.{◌≡◌, ◌⊎◌, ℕ, List, slice_index}
use Rattle.urna_outside.specs.Flash.{Flashes}
use Rattle.urna_outside.specs.declared.device.Dev.{Dev}
use Rattle.election_tables.specs.TablesData.{TablesData}
use Rattle.gate_slot.specs.Slot.{room}
use Rattle.twin_image.specs.Frame.{device_image}
use Rattle.flash_store.specs.InUse.{AreFree as AreFreeOf, IsBusy as IsBusyOf, IsInUse as IsInUseOf, IsUsed as IsUsedOf}
use Rattle.flash_store.specs.Rest.{AreLaidWith}
use Rattle.image_codec.specs.Layout.{body_size, phase_offset}
use Rattle.image_codec.specs.State.{State}
use Rattle.image_codec.specs.Encoding.{encode}
use Rattle.state_store.specs.Load.{header, magic}
use Rattle.state_store.specs.declared.load.Load.{Load}

-- how many bytes a device has: those of its header and of two slots
abbrev pub device_size : ℕ
device_size = room body_size

-- a device at rest with a state: the header of its load, and in both slots, whose gates are open, the encoding of the state that is
-- written today
abbrev pub rest : TablesData → Load → Dev → State → List ℕ
rest t load d s = device_image body_size (header load d) (encode t s)

-- both flashes are at rest with a state, and nothing is dirty
abbrev pub AreAtRest : TablesData → Load → State → Flashes → Type 0
AreAtRest t load s flashes = AreLaidWith body_size (header load) (encode t s) flashes

-- the phase byte of the body is that of a poll that was opened or sealed
abbrev pub IsBegun : List ℕ → Type 0
IsBegun body = (slice_index body phase_offset ≡ 1) ⊎ (slice_index body phase_offset ≡ 2)

-- the slot is open over such a body
abbrev pub IsUsed : ℕ → List ℕ → Type 0
IsUsed index content = IsUsedOf magic body_size IsBegun index content

-- a device in use: it begins with the magic, and one of its slots is used
abbrev pub IsInUse : List ℕ → Type 0
IsInUse content = IsInUseOf magic body_size IsBegun content

-- the device is in use, and it is the first that is
abbrev pub IsBusy : Dev → Flashes → Type 0
IsBusy d flashes = IsBusyOf magic body_size IsBegun d flashes

-- no device is in use
abbrev pub AreFree : Flashes → Type 0
AreFree flashes = AreFreeOf magic body_size IsBegun flashes

-- Where a slot's gate and body stand, what is known of them in every image, and the steps that change them.
use Rattle.std.specs.Prelude.{◌≡◌, ◌≢◌, ℕ, ◌+◌, ◌*◌, ◌≤◌, List, [], ◌∷◌, length, slice_index}
use Rattle.urna_outside.specs.Flash.{Op, Put, Sync, Flash, Stably, part}
use Rattle.urna_outside.specs.Confined.{AreWithin, IsInRange, count_puts, count_syncs}
use Rattle.urna_outside.specs.declared.device.Dev.{Dev}

-- the value of an open gate; every other value counts as shut
abbrev pub open_gate : ℕ
open_gate = 0xA5

-- the value that an open gate is shut with
abbrev pub shut_gate : ℕ
shut_gate = 0x5A

-- how many bytes a header has
abbrev pub header_size : ℕ
header_size = 512

-- how many bytes of padding stand behind a gate
abbrev pub padding_size : ℕ
padding_size = 511

-- how many bytes of a slot stand before its body: its gate, which is one byte, and its padding
abbrev pub front_size : ℕ
front_size = 1 + padding_size

-- A device is a header and two slots; a slot is a gate, its padding and a body of `size` bytes.
abbrev pub gate_offset : ℕ → ℕ → ℕ
gate_offset size index = header_size + index * (front_size + size)

-- where the padding of a slot begins
abbrev pub padding_offset : ℕ → ℕ → ℕ
padding_offset size index = gate_offset size index + 1

-- where the body of a slot begins
abbrev pub body_offset : ℕ → ℕ → ℕ
body_offset size index = gate_offset size index + front_size

-- how many bytes the header and two slots take
abbrev pub room : ℕ → ℕ
room size = header_size + 2 * (front_size + size)

-- the place of the slot's gate
abbrev pub IsGate : ℕ → ℕ → ℕ → Type 0
IsGate size index k = IsInRange (gate_offset size index) 1 k

-- a place of the slot's body
abbrev pub IsBody : ℕ → ℕ → ℕ → Type 0
IsBody size index k = IsInRange (body_offset size index) size k

-- the gate of a slot in some content
abbrev pub gate_in : ℕ → ℕ → List ℕ → ℕ
gate_in size index content = slice_index content (gate_offset size index)

-- the body of a slot in some content
abbrev pub body_in : ℕ → ℕ → List ℕ → List ℕ
body_in size index content = part content (body_offset size index) size

-- the gate isn't open, in every image
abbrev pub IsGateShut : ℕ → ℕ → Flash → Type 0
IsGateShut size index flash = (gate : ℕ) × (gate ≢ open_gate) × Stably flash (gate_offset size index) (gate ∷ [])

-- the gate is open, in every image
abbrev pub IsGateOpen : ℕ → ℕ → Flash → Type 0
IsGateOpen size index flash = Stably flash (gate_offset size index) (open_gate ∷ [])

-- these bytes are the slot's body, in every image
abbrev pub HasBody : ℕ → ℕ → List ℕ → Flash → Type 0
HasBody size index body flash = Stably flash (body_offset size index) body

-- the slot is shut over a whole body, in every image
pub record IsFilled (size index : ℕ) (flash : Flash) : Type 0 where
  pub shut : IsGateShut size index flash
  pub body : List ℕ
  pub long : length body ≡ size
  pub stands : HasBody size index body flash

-- at most one write, of these places alone, and one sync of that device
pub record IsOneWrite (d : Dev) (In : ℕ → Type 0) (ops : List Op) : Type 0 where
  pub within : AreWithin d In ops
  pub puts : count_puts ops ≤ 1
  pub syncs : count_syncs ops ≤ 1

-- an open gate is shut, and synced
abbrev pub shut_ops : ℕ → Dev → ℕ → List Op
shut_ops size d index = Put d (gate_offset size index) (shut_gate ∷ []) ∷ Sync d ∷ []

-- a body is written, and synced
abbrev pub fill_ops : ℕ → Dev → ℕ → List ℕ → List Op
fill_ops size d index body = Put d (body_offset size index) body ∷ Sync d ∷ []

-- a gate is opened, and synced
abbrev pub publish_ops : ℕ → Dev → ℕ → List Op
publish_ops size d index = Put d (gate_offset size index) (open_gate ∷ []) ∷ Sync d ∷ []

-- The frame of a device, which is its header and the padding behind each gate, and a whole device.
use Rattle.std.specs.Prelude.{◌≡◌, ℕ, ◌<◌, ◌⊎◌, List, ◌∷◌, ◌++◌, replicate}
use Rattle.urna_outside.specs.Flash.{Flash, Stably, part}
use Rattle.urna_outside.specs.Confined.{IsInRange}
use Rattle.gate_slot.specs.Slot.{open_gate, header_size, padding_size, padding_offset}

-- the zeros behind a gate
unfoldable pub padding : List ℕ
padding = replicate padding_size 0

-- a header, and twice an open gate, its padding and the body
abbrev pub device_image : ℕ → List ℕ → List ℕ → List ℕ
device_image size header body = header ++ open_gate ∷ padding ++ body ++ open_gate ∷ padding ++ body

-- a place of the header or of a padding
abbrev pub IsOfFrame : ℕ → ℕ → Type 0
IsOfFrame size k = (k < header_size) ⊎ IsInRange (padding_offset size 0) padding_size k ⊎ IsInRange (padding_offset size 1) padding_size k

-- the content begins with this header, and zeros stand behind each gate
pub record HasFrame (size : ℕ) (header content : List ℕ) : Type 0 where
  pub at_front : part content 0 header_size ≡ header
  pub first : part content (padding_offset size 0) padding_size ≡ padding
  pub second : part content (padding_offset size 1) padding_size ≡ padding

-- they do so in every image
pub record FrameStands (size : ℕ) (header : List ℕ) (flash : Flash) : Type 0 where
  pub at_front : Stably flash 0 header
  pub first : Stably flash (padding_offset size 0) padding
  pub second : Stably flash (padding_offset size 1) padding

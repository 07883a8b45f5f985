-- What two flash devices hold, what an operation does to them, and what a power cut may leave.
use Rattle.std.specs.Prelude.{◌≡◌, ℕ, ◌+◌, ◌<◌, ◌≤◌, List, [], ◌∷◌, ◌++◌, Bool, true, false, length, take, drop, replicate, slice_index, slice_index_or, slice_range}
use Rattle.urna_outside.specs.declared.device.Dev.{Dev}
use Rattle.urna_outside.specs.declared.device.Dev.TheVariants.{Internal, External}

-- one operation of a machine: bytes put from a place on, a whole sync, or bytes shown
pub data Op : Type 0 where
  Put : (d : Dev) (at : ℕ) (bytes : List ℕ) → Op
  Sync : (d : Dev) → Op
  Show : (bytes : List ℕ) → Op

-- what reads of a device give, and for each byte whether it was put since the last whole sync
pub record Flash : Type 0 where
  pub content : List ℕ
  pub dirty : List Bool

-- the two flashes of a machine
pub record Flashes : Type 0 where
  pub internal : Flash
  pub external : Flash

-- the flash of one device
abbrev pub flash_of : Dev → Flashes → Flash
flash_of Internal flashes = flashes.internal
flash_of External flashes = flashes.external

-- the flashes with this one in the place of that device's
abbrev pub with_flash : Dev → Flash → Flashes → Flashes
with_flash Internal flash flashes = record { internal = flash; external = flashes.external }
with_flash External flash flashes = record { internal = flashes.internal; external = flash }

-- old with new in the place of what stood from `at` on
abbrev pub overwrite : {A : Type 0} → List A → ℕ → List A → List A
overwrite old at new = take at old ++ new ++ drop (at + length new) old

-- a flash of this content, nothing dirty
abbrev pub clean_flash : List ℕ → Flash
clean_flash content = record { content = content; dirty = replicate (length content) false }

-- after a write: its range has the bytes, and is dirty
abbrev pub put : ℕ → List ℕ → Flash → Flash
put at bytes flash =
    record {
      content = overwrite flash.content at bytes;
      dirty = overwrite flash.dirty at (replicate (length bytes) true);
    }

-- after a whole sync: nothing is dirty
abbrev pub synced : Flash → Flash
synced flash = record { content = flash.content; dirty = replicate (length flash.dirty) false }

-- the flashes after one operation; a show changes no device
abbrev pub after_one : Op → Flashes → Flashes
after_one (Put d at bytes) flashes = with_flash d (put at bytes (flash_of d flashes)) flashes
after_one (Sync d) flashes = with_flash d (synced (flash_of d flashes)) flashes
after_one (Show bytes) flashes = flashes

-- the flashes after these operations, the first of them first
abbrev pub after : List Op → Flashes → Flashes
after [] flashes = flashes
after (op ∷ ops) flashes = after ops (after_one op flashes)

-- the bytes that these operations showed, in order
abbrev pub shown_by : List Op → List ℕ
shown_by [] = []
shown_by (Put d at bytes ∷ ops) = shown_by ops
shown_by (Sync d ∷ ops) = shown_by ops
shown_by (Show bytes ∷ ops) = bytes ++ shown_by ops

-- what a power cut may leave of a flash: any bytes where it is dirty, and what a read gave elsewhere
pub record IsImage (flash : Flash) (image : List ℕ) : Type 0 where
  pub same_length : length image ≡ length flash.content
  pub clean : (k : ℕ) → slice_index_or flash.dirty k false ≡ false → slice_index image k ≡ slice_index flash.content k

-- no byte is dirty
abbrev pub IsClean : Flash → Type 0
IsClean flash = (k : ℕ) → slice_index_or flash.dirty k false ≡ false

-- the bytes of a range, by its first place and its length
abbrev pub part : List ℕ → ℕ → ℕ → List ℕ
part bytes at len = slice_range bytes at (at + len)

-- these bytes stand there, and in every image too
pub record Stably (flash : Flash) (at : ℕ) (bytes : List ℕ) : Type 0 where
  pub within : at + length bytes ≤ length flash.content
  pub content : part flash.content at (length bytes) ≡ bytes
  pub clean : (k : ℕ) → at ≤ k → k < at + length bytes → slice_index_or flash.dirty k false ≡ false

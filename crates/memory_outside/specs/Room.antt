-- How many operations and bytes a recorder has room for, and what a write or a show that fails still does.
use Rattle.std.specs.Prelude.{ℕ, ◌+◌, ◌-◌, ◌/◌, ◌<◌, ◌≤◌, min, List, [], ◌∷◌, if◌then◌else◌, nat_eq, length, take}
use Rattle.urna_outside.specs.Flash.{Op, Put, Sync, Show}
use Rattle.urna_outside.specs.declared.device.Dev.{Dev}

-- so many operations, with so many bytes together
pub record Room : Type 0 where
  pub ops : ℕ
  pub bytes : ℕ

-- the bytes that these operations put and showed
abbrev pub count_bytes : List Op → ℕ
count_bytes [] = 0
count_bytes (Put d at bytes ∷ ops) = length bytes + count_bytes ops
count_bytes (Sync d ∷ ops) = count_bytes ops
count_bytes (Show bytes ∷ ops) = length bytes + count_bytes ops

-- one more operation with so many bytes fits
abbrev pub HasRoom : Room → ℕ → Type 0
HasRoom room n = (0 < room.ops) × (n ≤ room.bytes)

-- the room that is left after these operations
abbrev pub room_after : List Op → Room → Room
room_after ops room = record { ops = room.ops - length ops; bytes = room.bytes - count_bytes ops }

-- the room that is left after one operation with so many bytes
abbrev pub room_after_one : ℕ → Room → Room
room_after_one n room = record { ops = room.ops - 1; bytes = room.bytes - n }

-- the put of these bytes, and no operation where there are none
abbrev pub put_of : Dev → ℕ → List ℕ → List Op
put_of dev at [] = []
put_of dev at (byte ∷ bytes) = Put dev at (byte ∷ bytes) ∷ []

-- the show of a text, and no operation where the text is empty
abbrev pub show_of : List ℕ → List Op
show_of [] = []
show_of (byte ∷ text) = Show (byte ∷ text) ∷ []

-- how many of n bytes a write or a show that fails still puts or shows: half of them, as far as there is room
abbrev pub torn_length : Room → ℕ → ℕ
torn_length room n = if nat_eq room.ops 0 then 0 else min (n / 2) room.bytes

-- these bytes of all
abbrev pub torn_part : Room → List ℕ → List ℕ
torn_part room bytes = take (torn_length room (length bytes)) bytes

-- The items of a shelf as files, and where in the row of puts they stand.
use Rattle.std.specs.Prelude.{◌≡◌, ◌<◌, ◌+◌, ℕ, Bool, true, false, List, length, map, slice_index_or, slice_range, string_bytes}
use Rattle.std.specs.Str.{bytes_eq}
use Rattle.urna_outside.specs.Cabinet.{Entry, Files}
use Rattle.memory_outside.specs.declared.item.Item.{Item}
use Rattle.memory_outside.specs.declared.item.Item.TheVariants.{Placed, Put}

-- The name and the bytes of an item that was put stand in the row, from `start` on.
abbrev pub entry_of : List ℕ → Item → Entry
entry_of row (Placed name bytes) = record { name = string_bytes name; bytes = bytes.items }
entry_of row (Put start name bytes) =
    record { name = slice_range row start (start + name); bytes = slice_range row (start + name) (start + name + bytes) }

-- the place in the row behind an item that was put
abbrev pub end_in_row : Item → ℕ
end_in_row (Placed name bytes) = 0
end_in_row (Put start name bytes) = start + name + bytes

-- items as a map of files
abbrev pub files_of : List ℕ → List Item → Files
files_of row items = map (entry_of row) items

-- the item has this name
abbrev pub is_named : List ℕ → List ℕ → Item → Bool
is_named row name item = bytes_eq (entry_of row item).name name

-- the item at that place has the name, and none before it
pub record IsFirstNamed (row name : List ℕ) (items : List Item) (at : ℕ) : Type 0 where
  pub within : at < length items
  pub named : (d : Item) → is_named row name (slice_index_or items at d) ≡ true
  pub before : (k : ℕ) (d : Item) → k < at → is_named row name (slice_index_or items k d) ≡ false

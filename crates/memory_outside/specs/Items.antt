-- The files of a shelf, and the room for more puts.
use Rattle.urna_outside.specs.Cabinet.{Files}
use Rattle.memory_outside.specs.Item.{files_of}
use Rattle.memory_outside.specs.Room.{Room}
use Rattle.memory_outside.specs.declared.items.Items.{Items}

-- the files
abbrev pub files_in : Items → Files
files_in items = files_of items.row.items items.items.items

-- the room for more puts, and for their names and bytes
abbrev pub room_in : Items → Room
room_in items = record { ops = items.puts_left; bytes = items.bytes_left }

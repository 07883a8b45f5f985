-- What a tape holds.
use Rattle.std.specs.Prelude.{ℕ, List, length}
use Rattle.urna_outside.specs.Flash.{Op, Flashes}
use Rattle.memory_outside.specs.Kept.{kept_ops}
use Rattle.memory_outside.specs.Room.{Room}
use Rattle.urna_outside.specs.Started.{clean_flashes}
use Rattle.memory_outside.specs.declared.tape.Tape.{Tape}

-- what the devices held at the start
abbrev pub start_on : Tape → Flashes
start_on tape = clean_flashes tape.internal.items tape.external.items

-- how many bytes each of them has
abbrev pub size_on : Tape → ℕ
size_on tape = length tape.internal.items

-- the operations in order
abbrev pub taped_ops : Tape → List Op
taped_ops tape = kept_ops tape.trail.items tape.puts.items tape.shown.items

-- the room that is left
abbrev pub room_on : Tape → Room
room_on tape = record { ops = tape.ops_left; bytes = tape.bytes_left }

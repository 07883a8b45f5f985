-- What a recorder tells, where it started, the room that is left in it, and the numbers of the calls that are to fail.
use Rattle.std.specs.Prelude.{ℕ, List, Some, take, Contains}
use Rattle.urna_outside.specs.Flash.{Op, Flash, Flashes, flash_of, after}
use Rattle.urna_outside.specs.Told.{Told}
use Rattle.memory_outside.specs.Chips.{flashes_in, sizes_in}
use Rattle.urna_outside.specs.FaultCounts.{faults_in}
use Rattle.memory_outside.specs.CallCounts.{calls_in}
use Rattle.memory_outside.specs.Room.{Room, HasRoom, put_of, show_of, torn_part}
use Rattle.memory_outside.specs.Tape.{taped_ops, room_on, start_on}
use Rattle.urna_outside.specs.declared.device.Dev.{Dev}
use Rattle.memory_outside.specs.declared.recorder.Recorder.{Recorder}

-- the operations that were done
abbrev pub trail_of : Recorder → List Op
trail_of r = taped_ops r.tape

-- what the devices hold
abbrev pub flashes_of : Recorder → Flashes
flashes_of r = flashes_in r.chips

-- what they held at the start
abbrev pub started_from : Recorder → Flashes
started_from r = start_on r.tape

-- a device after the first so many operations
abbrev pub flash_after : Recorder → Dev → ℕ → Flash
flash_after r dev ops = flash_of dev (after (take ops (trail_of r)) (started_from r))

-- everything
abbrev pub recorder_told : Recorder → Told
recorder_told r =
    record {
      sizes = sizes_in r.chips;
      faults = faults_in r.faults;
      flashes = Some (flashes_of r);
      shown = Some (r.tape.shown.items);
      trail = Some (trail_of r);
      calls = Some (calls_in r.calls);
    }

-- the room for more operations and bytes
abbrev pub room_left : Recorder → Room
room_left r = room_on r.tape

-- the numbers of the calls that are to fail
abbrev pub failing_calls : Recorder → List ℕ
failing_calls r = r.failing.items

-- the next call is one of those that are to fail
abbrev pub IsNextFailing : Recorder → Type 0
IsNextFailing r = Contains (failing_calls r) (calls_in r.calls).made

-- the next call is not one of those that are to fail, and one more operation with so many bytes has room
abbrev pub CanKeep : Recorder → ℕ → Type 0
CanKeep r n = (¬ IsNextFailing r) × HasRoom (room_left r) n

-- the operations of a write of these bytes that fails, and of a show of them that fails
abbrev pub torn_put : Recorder → Dev → ℕ → List ℕ → List Op
torn_put r dev at bytes = put_of dev at (torn_part (room_left r) bytes)

abbrev pub torn_show : Recorder → List ℕ → List Op
torn_show r bytes = show_of (torn_part (room_left r) bytes)

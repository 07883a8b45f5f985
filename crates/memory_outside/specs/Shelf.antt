-- What a shelf tells, its room, and the numbers of the calls that are to fail.
use Rattle.std.specs.Prelude.{ℕ, List, [], Some, Contains}
use Rattle.urna_outside.specs.Cabinet.{CabinetTold, Files}
use Rattle.memory_outside.specs.Items.{files_in, room_in}
use Rattle.memory_outside.specs.Room.{Room, HasRoom}
use Rattle.urna_outside.specs.TakeCounts.{tally_of, no_tally}
use Rattle.memory_outside.specs.declared.shelf.Shelf.{Shelf}

-- the files, each under its name
abbrev pub files_on : Shelf → Files
files_on shelf = files_in shelf.items

-- everything
abbrev pub shelf_told : Shelf → CabinetTold
shelf_told shelf = record { tally = tally_of shelf.counts; files = Some (files_on shelf); calls = Some shelf.calls }

-- for how many more puts the shelf has room, and for how many bytes of their names and files together
abbrev pub shelf_room : Shelf → Room
shelf_room shelf = room_in shelf.items

-- for how many puts a new shelf has room
abbrev pub most_puts : ℕ
most_puts = 64

-- the numbers of the calls that are to fail
abbrev pub failing_on : Shelf → List ℕ
failing_on shelf = shelf.failing.items

-- what a shelf tells on which nothing was placed
abbrev pub empty_shelf : CabinetTold
empty_shelf = record { tally = no_tally; files = Some []; calls = Some 0 }

-- the next call is one of those that are to fail
abbrev pub IsFailingNext : Shelf → Type 0
IsFailingNext shelf = Contains (failing_on shelf) shelf.calls

-- the next call is not one of those that are to fail, and a put of so many bytes has room
abbrev pub CanPut : Shelf → ℕ → Type 0
CanPut shelf n = (¬ IsFailingNext shelf) × HasRoom (shelf_room shelf) n

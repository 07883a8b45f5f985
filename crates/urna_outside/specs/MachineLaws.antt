-- The laws of the machine of real files.
use Rattle.std.specs.Prelude.{◌≡◌, ◌<◌, ◌^◌, Some, None}
use Rattle.std.specs.declared.io.traits.Read.{Ghosts as Reads}
use Rattle.std.specs.declared.io.traits.Write.{Ghosts as Writes}
use Rattle.std.specs.declared.io.traits.Seek.{Ghosts as Seeks}
use Rattle.urna_outside.specs.Flash.{Flashes}
use Rattle.urna_outside.specs.Told.{Sizes, AreSized, size_of}
use Rattle.urna_outside.specs.FileMachine.{file_told}
use Rattle.urna_outside.specs.declared.files.file_machine.FileMachine.{FileMachine}
use Rattle.urna_outside.specs.declared.device.Dev.{Dev}
use Rattle.urna_outside.specs.declared.device.Dev.TheVariants.{Internal, External}

-- where no flashes are told there is nothing to be of the right length
pub none_sized : (sizes : Sizes) (flashes : Flashes) → None ≡ Some flashes → AreSized sizes flashes
none_sized sizes flashes same = absurd (cc)

-- devices that are files have fewer than 2^32 bytes
pub file_bounded : {R F D : Type 0} {r : Reads F} {w : Writes F} {s : Seeks F} {l : Reads D} (m : FileMachine R F D r w s l) (d : Dev) → size_of d (file_told m).sizes < 2 ^ 32
file_bounded m Internal = m.bounded
file_bounded m External = m.bounded

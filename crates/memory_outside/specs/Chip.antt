-- A device in memory as a flash.
use Rattle.urna_outside.specs.Flash.{Flash}
use Rattle.memory_outside.specs.declared.chip.Chip.{Chip}

-- its bytes, and its marks of dirty ones
abbrev pub flash : Chip → Flash
flash chip = record { content = chip.bytes.items; dirty = chip.dirty.items }

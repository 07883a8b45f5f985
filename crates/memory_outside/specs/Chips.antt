-- Two devices in memory.
use Rattle.std.specs.Prelude.{length}
use Rattle.urna_outside.specs.Flash.{Flashes}
use Rattle.urna_outside.specs.Told.{Sizes}
use Rattle.memory_outside.specs.Chip.{flash}
use Rattle.memory_outside.specs.declared.chips.Chips.{Chips}

-- as two flashes
abbrev pub flashes_in : Chips → Flashes
flashes_in chips = record { internal = flash chips.internal; external = flash chips.external }

-- how many bytes they have
abbrev pub sizes_in : Chips → Sizes
sizes_in chips =
    record { internal = length (flash chips.internal).content; external = length (flash chips.external).content }

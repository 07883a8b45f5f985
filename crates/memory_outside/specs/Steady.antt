-- What a machine tells that never fails.
use Rattle.std.specs.Prelude.{Some}
use Rattle.urna_outside.specs.Flash.{Flashes}
use Rattle.urna_outside.specs.Told.{Told, Sizes, silent_told}
use Rattle.memory_outside.specs.Chips.{flashes_in, sizes_in}
use Rattle.urna_outside.specs.FaultCounts.{no_faults}
use Rattle.memory_outside.specs.declared.steady.Steady.{Steady}

-- its sizes, counts that are 0, and its flashes
abbrev pub flashes_told : Sizes → Flashes → Told
flashes_told sizes flashes = record (silent_told sizes no_faults) { flashes = Some flashes }

abbrev pub steady_told : Steady → Told
steady_told m = flashes_told (sizes_in m.chips) (flashes_in m.chips)

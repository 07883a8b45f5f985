-- The slot that a token names, and that of a step that failed.
use Rattle.std.specs.Prelude.{◌≡◌, ℕ}
use Rattle.urna_outside.specs.Told.{port_of}
use Rattle.urna_outside.specs.declared.device.Port.{Port}
use Rattle.gate_slot.specs.declared.slot.Slot.{Slot}
use Rattle.gate_slot.specs.declared.slot.Step.{Step}
use Rattle.gate_slot.specs.declared.slot.Torn.{Torn}
use Rattle.gate_slot.specs.declared.slot.Shut.{Shut}
use Rattle.gate_slot.specs.declared.slot.Filled.{Filled}
use Rattle.gate_slot.specs.declared.slot.Live.{Live}

abbrev pub slot_of_shut : {SIZE : ℕ} → Shut SIZE → Slot SIZE
slot_of_shut shut = shut.slot

abbrev pub slot_of_filled : {SIZE : ℕ} → Filled SIZE → Slot SIZE
slot_of_filled filled = filled.slot

abbrev pub slot_of_live : {SIZE : ℕ} → Live SIZE → Slot SIZE
slot_of_live live = live.slot

-- the step of that slot failed
abbrev pub IsTornAt : {SIZE : ℕ} → Slot SIZE → Step → Torn SIZE → Type 0
IsTornAt slot step torn = (torn.slot ≡ slot) × (torn.step ≡ step)

-- the port of the device that failed
abbrev pub torn_port : {SIZE : ℕ} → Torn SIZE → Port
torn_port torn = port_of torn.slot.dev

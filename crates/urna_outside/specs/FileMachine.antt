-- What a machine over files tells: its sizes and its counts of faults.
use Rattle.std.specs.declared.io.traits.Read.{Ghosts as Reads}
use Rattle.std.specs.declared.io.traits.Write.{Ghosts as Writes}
use Rattle.std.specs.declared.io.traits.Seek.{Ghosts as Seeks}
use Rattle.urna_outside.specs.Told.{Told, silent_told}
use Rattle.urna_outside.specs.FaultCounts.{faults_in}
use Rattle.urna_outside.specs.declared.files.file_machine.FileMachine.{FileMachine}

-- both devices have the one size
abbrev pub file_told : {R F D : Type 0} {r : Reads F} {w : Writes F} {s : Seeks F} {d : Reads D} → FileMachine R F D r w s d → Told
file_told m = silent_told (record { internal = m.size; external = m.size }) (faults_in m.faults)

-- What a cabinet over a folder tells: its three counts.
use Rattle.std.specs.Prelude.{None}
use Rattle.urna_outside.specs.Cabinet.{CabinetTold}
use Rattle.urna_outside.specs.TakeCounts.{tally_of}
use Rattle.urna_outside.specs.declared.files.folder_cabinet.FolderCabinet.{FolderCabinet}

-- neither files nor calls
abbrev pub folder_told : {R : Type 0} → FolderCabinet R → CabinetTold
folder_told cabinet = record { tally = tally_of cabinet.counts; files = None; calls = None }

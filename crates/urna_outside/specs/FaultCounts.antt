-- The counts of a machine's faults.
use Rattle.urna_outside.specs.Told.{Faults}
use Rattle.urna_outside.specs.declared.fault_counts.FaultCounts.{FaultCounts}

-- the faults that were counted
abbrev pub faults_in : FaultCounts → Faults
faults_in counts =
    record { internal = counts.internal; external = counts.external; display = counts.display }

-- no port has failed
abbrev pub no_faults : Faults
no_faults = record { internal = 0; external = 0; display = 0 }

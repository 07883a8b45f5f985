-- Calls that end well, and calls that end at a fault of a port.
use Rattle.std.specs.Prelude.{◌≡◌, ◌≢◌, ◌≤◌, Result, Ok, Err}
use Rattle.urna_outside.specs.Told.{Told, Faults, Rose, WithoutFault, StopsAtFault, faults_of}
use Rattle.urna_outside.specs.declared.device.Port.{Port}

-- the count of this port alone rose
pub record FaultsAt (port : Port) (old new : Faults) : Type 0 where
  pub never_falls : faults_of port old ≤ faults_of port new
  pub others : (other : Port) → other ≢ port → faults_of other new ≡ faults_of other old
  pub rose : Rose (faults_of port old) (faults_of port new)

-- no call failed: every count of faults is as before
pub record IsFaultless (old new : Told) : Type 0 where
  pub faults : new.faults ≡ old.faults
  pub calls : WithoutFault old new

-- A call failed at this port, whose count of faults rose. As far as calls are told, none failed before it, and none was made after it.
pub record EndsAt (port : Port) (old new : Told) : Type 0 where
  pub faults : FaultsAt port old.faults new.faults
  pub calls : StopsAtFault old new

-- Ok, no call failed; an error tells of the port at which one failed, and that was the last.
abbrev pub FailsAt : {T E : Type 0} → (E → Port) → Result T E → Told → Told → Type 0
FailsAt port_in (Ok x) old new = IsFaultless old new
FailsAt port_in (Err e) old new = EndsAt (port_in e) old new

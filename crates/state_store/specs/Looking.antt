-- How looking at frames ends without a section
use Rattle.urna_outside.specs.Faults.{EndsAt, IsFaultless}
use Rattle.urna_outside.specs.Told.{Told, port_of}
use Rattle.state_store.specs.declared.frame.FrameError.{FrameError}
use Rattle.state_store.specs.declared.frame.FrameError.TheVariants.{Flash, Foreign}

-- a device failed, or none did
abbrev pub EndsLooking : FrameError → Told → Told → Type 0
EndsLooking (Flash d) old new = EndsAt (port_of d) old new
EndsLooking (Foreign d) old new = IsFaultless old new

-- Calls that end well or at a fault, one after another.
use Rattle.std.proofs.Common.{Result, Ok, Err, refl, subst, ◌∙◌}
use Rattle.urna_outside.specs.Told.{Told, Faults}
use Rattle.urna_outside.specs.Faults.{FaultsAt, IsFaultless, EndsAt, FailsAt}
use Rattle.urna_outside.specs.declared.device.Port.{Port}
use Rattle.urna_outside.proofs.Calling.{without_fault_none, without_fault_trans, stops_later}

-- no call
pub faultless_none : (a : Told) → IsFaultless a a
faultless_none a = record { faults = refl; calls = without_fault_none a a refl }

-- calls that ended well, one after another
pub faultless_trans : (a b c : Told) → IsFaultless a b → IsFaultless b c → IsFaultless a c
faultless_trans a b c first second =
    record {
      faults = second.faults ∙ first.faults;
      calls = without_fault_trans a b c first.calls second.calls;
    }

-- calls that ended well, and then a fault
pub ends_later : (port : Port) (a b c : Told) → IsFaultless a b → EndsAt port b c → EndsAt port a c
ends_later port a b c first stop =
    record {
      faults = subst (λ (f : Faults). FaultsAt port f c.faults) first.faults stop.faults;
      calls = stops_later a b c first.calls stop.calls;
    }

-- calls that ended well, and then one more
pub fails_later : {T E : Type 0} (port_in : E → Port) (r : Result T E) (a b c : Told) → IsFaultless a b → FailsAt port_in r b c → FailsAt port_in r a c
fails_later port_in (Ok x) a b c first later = faultless_trans a b c first later
fails_later port_in (Err e) a b c first later = ends_later (port_in e) a b c first later

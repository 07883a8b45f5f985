-- Calls in a row: without a fault, or up to the one that failed.
use Rattle.std.proofs.Common.{◌≡◌, Option, Some, None, Result, Bool, true, false, is_ok, refl, ap, ◌∙◌}
use Rattle.std.specs.Option.{option_map}
use Rattle.urna_outside.specs.Told.{Told, Calls, calls_after, failures_of, IsCalled, WithoutFault, StopsAtFault}

ok_keeps : (o : Option Calls) → option_map failures_of (option_map (calls_after true) o) ≡ option_map failures_of o
ok_keeps None = refl
ok_keeps (Some calls) = refl

-- no call is without a fault
pub without_fault_none : (a b : Told) → b.calls ≡ a.calls → WithoutFault a b
without_fault_none a b same = ap (option_map failures_of) same

-- one call that ended well
pub without_fault_one : {T E : Type 0} (r : Result T E) (a b : Told) → is_ok r ≡ true → IsCalled r a b → WithoutFault a b
without_fault_one r a b ok called =
    ap (option_map failures_of) called ∙ ap (λ (t : Bool). option_map failures_of (option_map (calls_after t) a.calls)) ok ∙ ok_keeps a.calls

-- more calls that ended well
pub without_fault_trans : (a b c : Told) → WithoutFault a b → WithoutFault b c → WithoutFault a c
without_fault_trans a b c first second = second ∙ first

-- one call that failed
pub stops_one : {T E : Type 0} (r : Result T E) (a b : Told) → is_ok r ≡ false → IsCalled r a b → StopsAtFault a b
stops_one r a b err called =
    record {
      before = a.calls;
      without_fault = refl;
      then_fault = called ∙ ap (λ (t : Bool). option_map (calls_after t) a.calls) err;
    }

-- calls that ended well, and then a stop at a fault
pub stops_later : (a b c : Told) → WithoutFault a b → StopsAtFault b c → StopsAtFault a c
stops_later a b c first stop =
    record {
      before = stop.before;
      without_fault = stop.without_fault ∙ first;
      then_fault = stop.then_fault;
    }

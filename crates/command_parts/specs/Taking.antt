-- What a command leaves of what the cabinet tells
use Rattle.std.specs.Prelude.{◌≡◌, ℕ, zero, suc, ◌≤◌, Option, Some, None, Result, Ok, Err}
use Rattle.std.specs.Option.{option_map}
use Rattle.urna_outside.specs.Told.{Rose, Told, faults_of, one_more}
use Rattle.urna_outside.specs.declared.device.Port.{Port}
use Rattle.urna_outside.specs.Cabinet.{CabinetTold, Tally, CountsFault, CountsMissing, CountsTooLong}
use Rattle.command_parts.specs.declared.error.CommandError.{CommandError}
use Rattle.command_parts.specs.declared.error.CommandError.TheVariants as error

-- the count that an error tells of rose, and no other; where there is no such error none did
abbrev pub CountsFor : Option CommandError → Tally → Tally → Type 0
CountsFor (Some error.Cabinet) old new = CountsFault old new
CountsFor (Some (error.Missing d)) old new = CountsMissing old new
CountsFor (Some (error.TooLong d)) old new = CountsTooLong old new
CountsFor e old new = new ≡ old

-- the count of calls after so many more
abbrev pub calls_made : ℕ → Option ℕ → Option ℕ
calls_made zero calls = calls
calls_made (suc more) calls = calls_made more (option_map one_more calls)

-- At most so many calls were made, and the count that this error tells of rose, if there is one. The files are as they were.
pub record HasTaken (most : ℕ) (e : Option CommandError) (old new : CabinetTold) : Type 0 where
  pub files : new.files ≡ old.files
  pub counts : CountsFor e old.tally new.tally
  pub made : ℕ
  pub few : made ≤ most
  pub calls : new.calls ≡ calls_made made old.calls

-- the error of a step, if it has one
abbrev pub error_in : {T : Type 0} → Result T CommandError → Option CommandError
error_in (Ok x) = None
error_in (Err e) = Some e

-- in a call no count of faults rose: neither the cabinet's nor a port's
pub record NothingFailed (c d : CabinetTold) (m n : Told) : Type 0 where
  pub cabinet : ¬ Rose c.tally.faults d.tally.faults
  pub ports : (p : Port) → ¬ Rose (faults_of p m.faults) (faults_of p n.faults)

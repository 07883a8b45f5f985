-- Calls of a cabinet, some after others
use Rattle.std.proofs.Common.{◌≡◌, ◌+◌, ◌≤◌, ℕ, zero, suc, Option, Some, None, refl, ap, subst, ◌∙◌, arith}
use Rattle.std.specs.Option.{option_map}
use Rattle.urna_outside.specs.Told.{Faults, Rose, Told, faults_of, one_more}
use Rattle.urna_outside.specs.Cabinet.{CabinetTold, Tally, CountsFault, CountsMissing, CountsTooLong}
use Rattle.urna_outside.specs.declared.device.Port.{Port}
use Rattle.urna_outside.specs.declared.cabinet.CabinetError.{CabinetError}
use Rattle.urna_outside.specs.declared.cabinet.CabinetError.TheVariants as take
use Rattle.election_tables.specs.declared.tables.TablesError.{TablesError}
use Rattle.election_tables.specs.declared.tables.TablesError.TheVariants as tables
use Rattle.election_tables.specs.declared.roll.RollError.{RollError}
use Rattle.election_tables.specs.declared.roll.RollError.TheVariants as roll
use Rattle.record_audit.specs.declared.fault.RecordError.{RecordError}
use Rattle.record_audit.specs.declared.fault.RecordError.TheVariants as unread
use Rattle.seat_certificate.specs.declared.read.CertTextError.{CertTextError}
use Rattle.seat_certificate.specs.declared.read.CertTextError.TheVariants as uncertain
use Rattle.command_parts.specs.Errors.{certificate_error, record_error, roll_error, tables_error, take_error}
use Rattle.command_parts.specs.Taking.{HasTaken, CountsFor, calls_made}
use Rattle.command_parts.specs.declared.error.CommandError.{CommandError}
use Rattle.command_parts.specs.declared.error.Doc.{Doc}

pub calls_more : (m n : ℕ) (calls : Option ℕ) → calls_made n (calls_made m calls) ≡ calls_made (m + n) calls
calls_more zero n calls = let none : n ≡ 0 + n = omega arith in ap (λ (k : ℕ). calls_made k calls) none
calls_more (suc m) n calls =
    let one : suc (m + n) ≡ suc m + n = omega arith in
    calls_more m n (option_map one_more calls) ∙ ap (λ (k : ℕ). calls_made k calls) one

-- one call
pub one_call : {e : Option CommandError} (old new : CabinetTold) → new.files ≡ old.files → CountsFor e old.tally new.tally → new.calls ≡ option_map one_more old.calls → HasTaken 1 e old new
one_call old new files counts calls = record { files = files; counts = counts; made = 1; few = omega arith; calls = calls }

-- calls without an error, and then more calls
pub taken_more : (a b : ℕ) {e : Option CommandError} (x y z : CabinetTold) → HasTaken a None x y → HasTaken b e y z → HasTaken (a + b) e x z
taken_more a b {e} x y z first second =
    record {
      files = second.files ∙ first.files;
      counts = subst (λ (t : Tally). CountsFor e t z.tally) first.counts second.counts;
      made = first.made + second.made;
      few = omega (arith, first.few, second.few);
      calls = second.calls ∙ (ap (calls_made second.made) first.calls ∙ calls_more first.made second.made x.calls);
    }

-- fewer calls are within more
pub taken_within : (a b : ℕ) {e : Option CommandError} (x y : CabinetTold) → a ≤ b → HasTaken a e x y → HasTaken b e x y
taken_within a b x y le h = record { files = h.files; counts = h.counts; made = h.made; few = omega (arith, h.few, le); calls = h.calls }

-- so many calls without an error, whatever came after
pub taken_as : (n : ℕ) {e : Option CommandError} (c d : CabinetTold) → (d.tally ≡ c.tally → CountsFor e c.tally d.tally) → HasTaken n None c d → HasTaken n e c d
taken_as n c d counts h = record { files = h.files; counts = counts h.counts; made = h.made; few = h.few; calls = h.calls }

-- no call
pub taken_none : {e : Option CommandError} (x : CabinetTold) → CountsFor e x.tally x.tally → HasTaken 0 e x x
taken_none x counts = record { files = refl; counts = counts; made = 0; few = omega arith; calls = refl }

-- what a call that took nothing did to the counts
pub counts_not_taken : (d : Doc) (e : CabinetError) (old new : Tally) → (e ≡ take.Memory → new ≡ old) → (e ≡ take.Failed → CountsFault old new)
    → (e ≡ take.Missing → CountsMissing old new) → (e ≡ take.TooLong → CountsTooLong old new) → CountsFor (Some (take_error d e)) old new
counts_not_taken d take.Memory old new memory failed missing long = memory refl
counts_not_taken d take.Failed old new memory failed missing long = failed refl
counts_not_taken d take.Missing old new memory failed missing long = missing refl
counts_not_taken d take.TooLong old new memory failed missing long = long refl

-- reading does nothing to the counts
pub counts_tables : (e : TablesError) (old new : Tally) → new ≡ old → CountsFor (Some (tables_error e)) old new
counts_tables tables.Memory old new same = same
counts_tables tables.NotToml old new same = same
counts_tables (tables.Rule k) old new same = same

pub counts_record : (e : RecordError) (old new : Tally) → new ≡ old → CountsFor (Some (record_error e)) old new
counts_record unread.Memory old new same = same
counts_record (unread.Line k) old new same = same

pub counts_certificate : (e : CertTextError) (old new : Tally) → new ≡ old → CountsFor (Some (certificate_error e)) old new
counts_certificate uncertain.Memory old new same = same
counts_certificate (uncertain.Line k) old new same = same

pub counts_roll : (e : RollError) (old new : Tally) → new ≡ old → CountsFor (Some (roll_error e)) old new
counts_roll roll.Memory old new same = same
counts_roll roll.Count old new same = same
counts_roll (roll.Line k) old new same = same

-- ---- counts of ports

-- a count that rose since a later moment rose since an earlier one where no call failed between
pub since : (p : Port) (m between b : Told) → between.faults ≡ m.faults → Rose (faults_of p between.faults) (faults_of p b.faults)
    → Rose (faults_of p m.faults) (faults_of p b.faults)
since p m between b same rose = subst (λ (f : Faults). Rose (faults_of p f) (faults_of p b.faults)) same rose

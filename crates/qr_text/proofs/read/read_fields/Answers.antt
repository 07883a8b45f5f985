use Rattle.std.proofs.Common.{◌≡◌, ◌≢◌, ℕ, List, refl, ap, subst}
use Rattle.std.specs.Prelude.{Result, Ok, Err}
use Rattle.poll_report.specs.declared.report.Report.{Report}
use Rattle.qr_text.proofs.Faults.{one_fault}
use Rattle.qr_text.proofs.Spellings.{never_both, one_spelled}
use Rattle.qr_text.proofs.read.read_fields.Goals as goal
use Rattle.qr_text.specs.Fault.{IsFieldFault}
use Rattle.qr_text.specs.Fronts.{MatchRead}
use Rattle.qr_text.specs.Spelling.{Spells}
use Rattle.qr_text.specs.declared.fault.FieldError.TheVariants.{Memory, Fault}
use Rattle.qr_text.specs.declared.fault.FieldError.{FieldError}
use Rattle.qr_text.specs.declared.fault.FieldFault.{FieldFault}

-- the answer is the one that there is
abbrev Answered : List ℕ → Result Report FieldError → Type 0
Answered bytes r = MatchRead r (λ q. Spells bytes q) (λ f. IsFieldFault bytes f)

fault : (bytes : List ℕ) (r : Result Report FieldError) → Answered bytes r → (f : FieldFault) → r ≡ Err (Fault f) → IsFieldFault bytes f
fault bytes (Ok q) h f e = absurd (cc)
fault bytes (Err Memory) h f e = absurd (cc)
fault bytes (Err (Fault g)) h f e = let same : g ≡ f = cc in subst (λ (x : FieldFault). IsFieldFault bytes x) same h

ok_there : (bytes : List ℕ) (r : Result Report FieldError) → Answered bytes r → r ≢ Err Memory → (q : Report) → Spells bytes q → r ≡ Ok q
ok_there bytes (Ok p) h other q s = ap (λ (x : Report). Ok x) (one_spelled bytes p q h s)
ok_there bytes (Err Memory) h other q s = absurd (other refl)
ok_there bytes (Err (Fault f)) h other q s = absurd (never_both bytes f q h s)

fault_there : (bytes : List ℕ) (r : Result Report FieldError) → Answered bytes r → r ≢ Err Memory → (f : FieldFault) → IsFieldFault bytes f → r ≡ Err (Fault f)
fault_there bytes (Ok p) h other f s = absurd (never_both bytes f p s h)
fault_there bytes (Err Memory) h other f s = absurd (other refl)
fault_there bytes (Err (Fault g)) h other f s = ap (λ (x : FieldFault). Err (Fault x)) (one_fault bytes g f h s)

pub returns-clause-fault : goal.returns-clause-fault
returns-clause-fault c = fault c.args.bytes.now c.read_report.result c.read_report.ensures

pub returns-clause-ok_there : goal.returns-clause-ok_there
returns-clause-ok_there c = ok_there c.args.bytes.now c.read_report.result c.read_report.ensures

pub returns-clause-fault_there : goal.returns-clause-fault_there
returns-clause-fault_there c = fault_there c.args.bytes.now c.read_report.result c.read_report.ensures

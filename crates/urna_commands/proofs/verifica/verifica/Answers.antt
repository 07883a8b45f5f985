use Rattle.std.proofs.Common.{◌≡◌, ◌+◌, ◌↔◌, ℕ, Option, Ok, Err, refl, sym, subst, arith}
use Rattle.std.specs.Prelude.{IsOk}
use Rattle.urna_outside.specs.Cabinet.{Files}
use Rattle.urna_outside.specs.Told.{Told}
use Rattle.seat_remainders.specs.declared.contest.Contest.{Contest}
use Rattle.seat_certificate.specs.Valid.{IsCertFault, IsValid}
use Rattle.seat_certificate.specs.declared.certificate.Certificate.{Certificate}
use Rattle.seat_certificate.specs.declared.check.CertFault.{CertFault}
use Rattle.command_parts.specs.Documents.{HasCertificate, IsFault as IsFaultOf}
use Rattle.command_parts.specs.declared.error.Doc.TheVariants as doc
use Rattle.urna_commands.specs.Answering.{Answers}
use Rattle.urna_commands.specs.Command.{Verifica}
use Rattle.urna_commands.specs.Documents.{IsFault}
use Rattle.urna_commands.specs.Taking.{HasTaken, status_in}
use Rattle.urna_commands.specs.Verifica.{Check, IsChecked, VerificaEnds, certificate_at_fault, checked_line, checked_status, of_file, of_other_office, verified, verify_no_cabinet, verify_no_contest, verify_no_memory}
use Rattle.urna_commands.specs.declared.status.Status.TheVariants as status
use Rattle.command_parts.proofs.Calls.{taken_as, taken_more, taken_within}
use Rattle.urna_commands.proofs.Endings.{counts_answer, counts_check, fault_ends, passed_on}
use Rattle.urna_commands.proofs.verifica.verifica.Goals as goal

-- what a check answers
is_checked : (contest : Contest) (x : Certificate) (r : Check) → (IsOk r ↔ IsValid contest x) → ((f : CertFault) → (r ≡ Err f) ↔ IsCertFault contest x f) → IsChecked contest x r
is_checked contest x (Ok valid) ok fault = ok.0 refl
is_checked contest x (Err f) ok fault = (fault f).0 refl

pub returns-in_err-contest : goal.returns-in_err-contest
returns-in_err-contest g c =
    let names : Verifica = record { tables = c.args.names.tables.now; list = c.args.names.list.now; code = c.args.names.code; certificate = c.args.names.certificate.now } in
    let x = g.C.Cabinet.told c.args.cabinet.now in
    let y = g.C.Cabinet.told c.contest_of_office.new.cabinet in
    let m = g.M.Machine.told c.args.machine.now in
    let n = g.M.Machine.told c.contest_of_office.new.machine in
    subst (VerificaEnds names x y m n) (sym (passed_on c.from_residual.result c.in_err-contest.field-0.0 c.from_residual.ensures.1 (λ e h. h)))
    (verify_no_contest c.in_err-contest.ensures.known)

pub returns-in_err-code : goal.returns-in_err-code
returns-in_err-code g c =
    let names : Verifica = record { tables = c.args.names.tables.now; list = c.args.names.list.now; code = c.args.names.code; certificate = c.args.names.certificate.now } in
    let x = g.C.Cabinet.told c.args.cabinet.now in
    let y = g.C.Cabinet.told c.contest_of_office.new.cabinet in
    let z = g.C.Cabinet.told c.take_document.new.cabinet in
    let m = g.M.Machine.told c.args.machine.now in
    let n = g.M.Machine.told c.contest_of_office.new.machine in
    let known = c.in_ok-contest.ensures.known in
    let (k, of, first) = known.taken in
    fault_ends (VerificaEnds names x z m n) (k + 3) x z (IsFaultOf y.files names.certificate doc.Certificate) c.from_residual-in_err-code.result c.in_err-code.field-0.0
    c.from_residual-in_err-code.ensures.1 (λ taken. verify_no_memory (k, of, taken) known.untouched) (λ taken. verify_no_cabinet (k, of, taken) known.untouched)
    (λ s why taken. certificate_at_fault known.has (of_file (subst (λ (o : Option Files). IsFault o names.certificate doc.Certificate s) first.files why)) (k, of, taken) known.untouched)
    c.in_err-code.ensures.fault (taken_within (k + 2 + 1) (k + 3) x z (omega arith) (taken_more (k + 2) 1 x y z first c.in_err-code.ensures.taken))

pub returns-then-code-names : goal.returns-then-code-names
returns-then-code-names g c =
    let names : Verifica = record { tables = c.args.names.tables.now; list = c.args.names.list.now; code = c.args.names.code; certificate = c.args.names.certificate.now } in
    let x = g.C.Cabinet.told c.args.cabinet.now in
    let y = g.C.Cabinet.told c.contest_of_office.new.cabinet in
    let z = g.C.Cabinet.told c.take_document.new.cabinet in
    let known = c.in_ok-contest.ensures.known in
    let (k, of, first) = known.taken in
    let both : HasTaken (k + 2 + 1) status.Done x z = taken_more (k + 2) 1 x y z first c.in_ok-code.ensures.taken in
    let read = subst (λ (o : Option Files). HasCertificate o names.certificate c.in_ok-code.code c.in_ok-code.certificate) first.files c.in_ok-code.ensures.read in
    certificate_at_fault known.has (of_other_office read c.if-code-names.true)
    (k, of, taken_as (k + 3) x z (λ same. same) (taken_within (k + 2 + 1) (k + 3) x z (omega arith) both)) known.untouched

pub returns : goal.returns
returns g c =
    let names : Verifica = record { tables = c.args.names.tables.now; list = c.args.names.list.now; code = c.args.names.code; certificate = c.args.names.certificate.now } in
    let x = g.C.Cabinet.told c.args.cabinet.now in
    let y = g.C.Cabinet.told c.contest_of_office.new.cabinet in
    let z = g.C.Cabinet.told c.take_document.new.cabinet in
    let m = g.M.Machine.told c.args.machine.now in
    let n = g.M.Machine.told c.contest_of_office.new.machine in
    let o = g.M.Machine.told c.tell_answer.new.machine in
    let known = c.in_ok-contest.ensures.known in
    let (k, of, first) = known.taken in
    let both : HasTaken (k + 2 + 1) status.Done x z = taken_more (k + 2) 1 x y z first c.in_ok-code.ensures.taken in
    let read : HasCertificate x.files names.certificate names.code c.in_ok-code.certificate =
    subst (λ (code : ℕ). HasCertificate x.files names.certificate code c.in_ok-code.certificate) c.if-code-names.false
    (subst (λ (files : Option Files). HasCertificate files names.certificate c.in_ok-code.code c.in_ok-code.certificate) first.files c.in_ok-code.ensures.read) in
    let checked = c.check_certificate-checked.result in
    let s = status_in c.tell_answer.result in
    let told : Answers (checked_line names.code checked) (checked_status checked) n o s = rw (c.checked_line.ensures, c.ended_by_check.ensures) at c.tell_answer.ensures in
    let tells = subst (λ (w : Told). Answers (checked_line names.code checked) (checked_status checked) w o s) known.untouched told in
    verified checked (record { contest_is = known.has; certificate_is = read })
    (is_checked c.in_ok-contest.contest c.in_ok-code.certificate checked c.check_certificate-checked.ensures.ok c.check_certificate-checked.ensures.fault) (
      k,
      of,
      taken_as (k + 3) x z (λ same. counts_answer (checked_line names.code checked) (checked_status checked) m o s x.tally z.tally tells (counts_check checked x.tally z.tally same) same)
          (taken_within (k + 2 + 1) (k + 3) x z (omega arith) both),
    ) tells

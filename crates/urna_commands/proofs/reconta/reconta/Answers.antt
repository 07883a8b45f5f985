use Rattle.std.proofs.Common.{◌≡◌, ℕ, List, Option, subst, arith}
use Rattle.urna_outside.specs.Cabinet.{CabinetTold, Files}
use Rattle.urna_outside.specs.Told.{Told}
use Rattle.hash_chain.specs.declared.fault.PartFault.{PartFault}
use Rattle.poll_report.specs.declared.report.Report.{Report}
use Rattle.qr_text.specs.declared.fault.FieldFault.{FieldFault}
use Rattle.record_audit.specs.Finding.{finding}
use Rattle.section_intake.specs.Reading.{IsRefused}
use Rattle.section_intake.specs.Verdict.{IsReportFile}
use Rattle.section_intake.specs.declared.verdict.Verdict.{Verdict}
use Rattle.section_intake.specs.declared.verdict.Verdict.TheVariants as verdict
use Rattle.urna_commands.specs.Answering.{Answers}
use Rattle.urna_commands.specs.Command.{Reconta}
use Rattle.command_parts.specs.Documents.{HasRecord, HasReport, IsFault as IsFaultOf, IsTaken}
use Rattle.urna_commands.specs.Documents.{IsFault}
use Rattle.urna_commands.specs.Findings.{finding_line, finding_status}
use Rattle.urna_commands.specs.Reconta.{HasNoReport, HasRecordAndReport, IsNoReport, RecontaEnds, fields_fault, no_recount, parts_fault, recount_no_cabinet, recount_no_memory, record_at_fault, recounted, report_at_fault}
use Rattle.urna_commands.specs.Taking.{HasTaken, status_in}
use Rattle.report_lines.specs.Verdicts.{verdict_line}
use Rattle.urna_commands.specs.Verdicts.{verdict_status}
use Rattle.command_parts.specs.declared.error.Doc.TheVariants as doc
use Rattle.urna_commands.specs.declared.status.Status.{Status}
use Rattle.urna_commands.specs.declared.status.Status.TheVariants as status
use Rattle.command_parts.proofs.Calls.{taken_as, taken_more, taken_within}
use Rattle.urna_commands.proofs.Endings.{counts_answer, counts_finding, counts_verdict, fault_ends, untouched}
use Rattle.urna_commands.proofs.reconta.reconta.Goals as goal

-- the bytes that were taken are those that were read
report_of_file : (files : Option Files) (name bytes read : List ℕ) (p : Report) → IsTaken files doc.Report name bytes → read ≡ bytes → IsReportFile read p
    → HasReport files name p
report_of_file files name bytes read p taken same is = record { bytes = bytes; taken = taken; read = subst (λ (b : List ℕ). IsReportFile b p) same is }

fault_of_file : (files : Option Files) (name bytes read : List ℕ) (v : Verdict) → IsTaken files doc.Report name bytes → read ≡ bytes → IsNoReport read v
    → HasNoReport files name v
fault_of_file files name bytes read v taken same is = record { bytes = bytes; taken = taken; refused = subst (λ (b : List ℕ). IsNoReport b v) same is }

-- the verdict on such a file is told
refused_ends : (names : Reconta) (x y : CabinetTold) (m n : Told) (v : Verdict) (s : Status) → HasNoReport x.files names.report v → HasTaken 1 status.Done x y
    → Answers (verdict_line v) (verdict_status v) m n s → RecontaEnds names x y m n s
refused_ends names x y m n v s has taken tells =
    no_recount has (taken_as 1 x y (λ same. counts_answer (verdict_line v) (verdict_status v) m n s x.tally y.tally tells (counts_verdict v x.tally y.tally same) same) taken) tells

pub returns-in_err-bytes : goal.returns-in_err-bytes
returns-in_err-bytes g c =
    let names : Reconta = record { report = c.args.names.report.now; rdv = c.args.names.rdv.now } in
    let x = g.C.Cabinet.told c.args.cabinet.now in
    let y = g.C.Cabinet.told c.take_document.new.cabinet in
    let m = g.M.Machine.told c.args.machine.now in
    fault_ends (RecontaEnds names x y m m) 1 x y (IsFaultOf x.files names.report doc.Report) c.from_residual.result c.in_err-bytes.field-0.0 c.from_residual.ensures.1 (λ taken. recount_no_memory (taken_within 1 2 x y (omega arith) taken) (untouched m))
    (λ taken. recount_no_cabinet (taken_within 1 2 x y (omega arith) taken) (untouched m))
    (λ s why taken. report_at_fault why taken (untouched m)) c.in_err-bytes.ensures.fault c.in_err-bytes.ensures.taken

pub returns-in-Err-Memory : goal.returns-in-Err-Memory
returns-in-Err-Memory g c =
    let x = g.C.Cabinet.told c.args.cabinet.now in
    let y = g.C.Cabinet.told c.take_document.new.cabinet in
    let taken : HasTaken 1 status.Done x y = c.in_ok-bytes.ensures.taken in
    recount_no_memory (taken_within 1 2 x y (omega arith) (taken_as 1 x y (λ same. same) taken)) (untouched (g.M.Machine.told c.args.machine.now))

pub returns-in-Err-Part : goal.returns-in-Err-Part
returns-in-Err-Part g c =
    let names : Reconta = record { report = c.args.names.report.now; rdv = c.args.names.rdv.now } in
    let x = g.C.Cabinet.told c.args.cabinet.now in
    let y = g.C.Cabinet.told c.take_document.new.cabinet in
    let m = g.M.Machine.told c.args.machine.now in
    let n = g.M.Machine.told c.tell_verdict.new.machine in
    let v : Verdict = verdict.Part c.in-Err-Part.fault in
    let fault = subst (IsRefused c.deref.result.now) c.in-Err-Part.field-0-is c.in-Err-Part.ensures.err in
    refused_ends names x y m n v (status_in c.tell_verdict.result)
    (fault_of_file x.files names.report c.in_ok-bytes.bytes.items c.deref.result.now v c.in_ok-bytes.ensures.read c.deref.ensures.value (parts_fault fault))
    c.in_ok-bytes.ensures.taken
    (subst (λ (f : PartFault). Answers (verdict_line (verdict.Part f)) (verdict_status (verdict.Part f)) m n (status_in c.tell_verdict.result)) c.in-Err-Part.fault-is
    c.tell_verdict.ensures)

pub returns-in-Err-Fields : goal.returns-in-Err-Fields
returns-in-Err-Fields g c =
    let names : Reconta = record { report = c.args.names.report.now; rdv = c.args.names.rdv.now } in
    let x = g.C.Cabinet.told c.args.cabinet.now in
    let y = g.C.Cabinet.told c.take_document.new.cabinet in
    let m = g.M.Machine.told c.args.machine.now in
    let n = g.M.Machine.told c.tell_verdict-in-Err-Fields.new.machine in
    let v : Verdict = verdict.Fields c.in-Err-Fields.fault in
    let fault = subst (IsRefused c.deref.result.now) c.in-Err-Fields.field-0-is c.in-Err-Fields.ensures.err in
    refused_ends names x y m n v (status_in c.tell_verdict-in-Err-Fields.result)
    (fault_of_file x.files names.report c.in_ok-bytes.bytes.items c.deref.result.now v c.in_ok-bytes.ensures.read c.deref.ensures.value (fields_fault fault.1 fault.2))
    c.in_ok-bytes.ensures.taken
    (subst (λ (f : FieldFault). Answers (verdict_line (verdict.Fields f)) (verdict_status (verdict.Fields f)) m n (status_in c.tell_verdict-in-Err-Fields.result))
    c.in-Err-Fields.fault-is c.tell_verdict-in-Err-Fields.ensures)

pub returns-in_err-text : goal.returns-in_err-text
returns-in_err-text g c =
    let names : Reconta = record { report = c.args.names.report.now; rdv = c.args.names.rdv.now } in
    let x = g.C.Cabinet.told c.args.cabinet.now in
    let y = g.C.Cabinet.told c.take_document.new.cabinet in
    let z = g.C.Cabinet.told c.take_document-2.new.cabinet in
    let m = g.M.Machine.told c.args.machine.now in
    let first : HasTaken 1 status.Done x y = c.in_ok-bytes.ensures.taken in
    let has =
    report_of_file x.files names.report c.in_ok-bytes.bytes.items c.deref.result.now c.in-Ok.report c.in_ok-bytes.ensures.read c.deref.ensures.value c.in-Ok.ensures.ok in
    fault_ends (RecontaEnds names x z m m) 2 x z (IsFaultOf y.files names.rdv doc.Record) c.from_residual-in_err-text.result c.in_err-text.field-0.0
    c.from_residual-in_err-text.ensures.1 (λ taken. recount_no_memory taken (untouched m)) (λ taken. recount_no_cabinet taken (untouched m))
    (λ s why taken. record_at_fault has (subst (λ (o : Option Files). IsFault o names.rdv doc.Record s) first.files why) taken (untouched m)) c.in_err-text.ensures.fault
    (taken_more 1 1 x y z first c.in_err-text.ensures.taken)

pub returns : goal.returns
returns g c =
    let names : Reconta = record { report = c.args.names.report.now; rdv = c.args.names.rdv.now } in
    let x = g.C.Cabinet.told c.args.cabinet.now in
    let y = g.C.Cabinet.told c.take_document.new.cabinet in
    let z = g.C.Cabinet.told c.take_document-2.new.cabinet in
    let m = g.M.Machine.told c.args.machine.now in
    let n = g.M.Machine.told c.tell_answer.new.machine in
    let r = c.in_ok-text.text in
    let p = c.in-Ok.report in
    let first : HasTaken 1 status.Done x y = c.in_ok-bytes.ensures.taken in
    let second : HasTaken 1 status.Done y z = c.in_ok-text.ensures.taken in
    let both : HasTaken 2 status.Done x z = taken_more 1 1 x y z first second in
    let given : HasRecordAndReport x.files names r p =
    record {
      report = report_of_file x.files names.report c.in_ok-bytes.bytes.items c.deref.result.now p c.in_ok-bytes.ensures.read c.deref.ensures.value c.in-Ok.ensures.ok;
      rdv = subst (λ (o : Option Files). HasRecord o names.rdv r) first.files c.in_ok-text.ensures.read;
    } in
    let s = status_in c.tell_answer.result in
    let tells : Answers (finding_line r p) (finding_status (finding r p)) m n s =
    rw (c.finding_line.ensures, c.ended_by_finding.ensures, c.audit-finding.ensures) at c.tell_answer.ensures in
    recounted given
    (taken_as 2 x z (λ same. counts_answer (finding_line r p) (finding_status (finding r p)) m n s x.tally z.tally tells (counts_finding (finding r p) x.tally z.tally same) same) both)
    tells

-- The command reconta: what it is given, and how it ends
use Rattle.std.specs.Prelude.{ℕ, List, Option}
use Rattle.urna_outside.specs.Cabinet.{CabinetTold, Files}
use Rattle.urna_outside.specs.Told.{Told}
use Rattle.hash_chain.specs.Fault.{ArePartsOf, IsPartFault}
use Rattle.hash_chain.specs.declared.fault.PartFault.{PartFault}
use Rattle.poll_report.specs.declared.report.Report.{Report}
use Rattle.qr_text.specs.Fault.{IsFieldFault}
use Rattle.qr_text.specs.declared.fault.FieldFault.{FieldFault}
use Rattle.section_intake.specs.declared.verdict.Verdict.{Verdict}
use Rattle.section_intake.specs.declared.verdict.Verdict.TheVariants as verdict
use Rattle.record_audit.specs.Finding.{finding}
use Rattle.record_audit.specs.declared.text.RecordText.{RecordText}
use Rattle.flash_store.specs.Syncs.{IsUntouched}
use Rattle.urna_commands.specs.Answering.{Answers}
use Rattle.urna_commands.specs.Command.{Reconta}
use Rattle.command_parts.specs.Documents.{HasRecord, HasReport, IsTaken}
use Rattle.urna_commands.specs.Documents.{IsFault}
use Rattle.urna_commands.specs.Findings.{finding_line, finding_status}
use Rattle.urna_commands.specs.Taking.{HasTaken}
use Rattle.report_lines.specs.Verdicts.{verdict_line}
use Rattle.urna_commands.specs.Verdicts.{verdict_status}
use Rattle.command_parts.specs.declared.error.Doc.TheVariants as doc
use Rattle.urna_commands.specs.declared.status.Status.{Status}
use Rattle.urna_commands.specs.declared.status.Status.TheVariants as status

-- ---- what the files hold

-- A file is that of no report: its parts are at fault, or the fields of their text are; the verdict says the first fault.
pub data IsNoReport (bytes : List ℕ) : Verdict → Type 0 where
  parts_fault : {f : PartFault} → IsPartFault bytes f → IsNoReport bytes (verdict.Part f)
  fields_fault : {text : List ℕ} {f : FieldFault} → ArePartsOf bytes text → IsFieldFault text f → IsNoReport bytes (verdict.Fields f)

-- a file of this name is taken, and is that of no report
pub record HasNoReport (files : Option Files) (name : List ℕ) (v : Verdict) : Type 0 where
  pub bytes : List ℕ
  pub taken : IsTaken files doc.Report name bytes
  pub refused : IsNoReport bytes v

-- the files of these names hold this record and this report
pub record HasRecordAndReport (files : Option Files) (names : Reconta) (r : RecordText) (p : Report) : Type 0 where
  pub report : HasReport files names.report p
  pub rdv : HasRecord files names.rdv r

-- A document of reconta is at fault, and this status says it: the report is tried first, and the record where there is a report.
pub data IsRecountFault (files : Option Files) (names : Reconta) : Status → Type 0 where
  first_report : {s : Status} → IsFault files names.report doc.Report s → IsRecountFault files names s
  then_record : {p : Report} {s : Status} → HasReport files names.report p → IsFault files names.rdv doc.Record s → IsRecountFault files names s

-- The status that the files give: a document is at fault, or the first one is that of no report, or it is what the recount finds.
pub data IsRecountStatus (files : Option Files) (names : Reconta) : Status → Type 0 where
  at_fault : {s : Status} → IsRecountFault files names s → IsRecountStatus files names s
  no_report : {v : Verdict} → HasNoReport files names.report v → IsRecountStatus files names (verdict_status v)
  both_read : {r : RecordText} {p : Report} → HasRecordAndReport files names r p → IsRecountStatus files names (finding_status (finding r p))

-- ---- the endings

-- How reconta ends, but for the line that tells a fault.
pub data RecontaEnds (names : Reconta) (c d : CabinetTold) (m n : Told) : Status → Type 0 where
  -- A document is at fault, memory was wanted, or the cabinet failed: nothing is shown. The record isn't taken before there is a report.
  report_at_fault : {s : Status} → IsFault c.files names.report doc.Report s → HasTaken 1 s c d → IsUntouched m n → RecontaEnds names c d m n s
  record_at_fault : {p : Report} {s : Status} → HasReport c.files names.report p → IsFault c.files names.rdv doc.Record s → HasTaken 2 s c d → IsUntouched m n
      → RecontaEnds names c d m n s
  recount_no_memory : HasTaken 2 status.Memory c d → IsUntouched m n → RecontaEnds names c d m n status.Memory
  recount_no_cabinet : HasTaken 2 status.Cabinet c d → IsUntouched m n → RecontaEnds names c d m n status.Cabinet
  -- The first file is that of no report, and its verdict is told.
  no_recount : {v : Verdict} {s : Status} → HasNoReport c.files names.report v → HasTaken 1 s c d → Answers (verdict_line v) (verdict_status v) m n s
      → RecontaEnds names c d m n s
  -- What the recount finds is told.
  recounted : {r : RecordText} {p : Report} {s : Status} → HasRecordAndReport c.files names r p → HasTaken 2 s c d
      → Answers (finding_line r p) (finding_status (finding r p)) m n s → RecontaEnds names c d m n s

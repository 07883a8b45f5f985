-- The verdict on one file.
use Rattle.std.specs.Prelude.{ℕ, List}
use Rattle.election_tables.specs.TablesData.{TablesData}
use Rattle.hash_chain.specs.Fault.{ArePartsOf, IsPartFault}
use Rattle.hash_chain.specs.declared.fault.PartFault.{PartFault}
use Rattle.poll_report.specs.declared.report.Report.{Report}
use Rattle.qr_text.specs.Fault.{IsFieldFault}
use Rattle.qr_text.specs.Spelling.{Spells}
use Rattle.qr_text.specs.declared.fault.FieldFault.{FieldFault}
use Rattle.section_intake.specs.Fits.{Fits}
use Rattle.section_intake.specs.declared.verdict.Verdict.{Verdict}
use Rattle.section_intake.specs.declared.verdict.Verdict.TheVariants as verdict

-- how many bytes the file of a report may have
abbrev pub most_report_bytes : ℕ
most_report_bytes = 1048576

-- a file is the parts of a text that spells this report
pub record IsReportFile (bytes : List ℕ) (r : Report) : Type 0 where
  pub text : List ℕ
  pub parts : ArePartsOf bytes text
  pub spells : Spells text r

-- The verdict on a file by itself: the fault of its parts, or else that of its fields, or else whether its report fits the tables.
pub data IsVerdict (t : TablesData) (bytes : List ℕ) : Verdict → Type 0 where
  parts : {f : PartFault} → IsPartFault bytes f → IsVerdict t bytes (verdict.Part f)
  fields : {text : List ℕ} {f : FieldFault} → ArePartsOf bytes text → IsFieldFault text f → IsVerdict t bytes (verdict.Fields f)
  strange : {r : Report} → IsReportFile bytes r → ¬ Fits t r → IsVerdict t bytes verdict.Strange
  accepted : {r : Report} → IsReportFile bytes r → Fits t r → IsVerdict t bytes (verdict.Accepted r.zone r.section)

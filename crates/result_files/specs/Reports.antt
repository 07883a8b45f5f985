-- The report of a sealed poll, and its file
use Rattle.std.specs.Prelude.{◌≡◌, ℕ, ◌≤◌, List, length}
use Rattle.std.specs.List.{Contains}
use Rattle.election_tables.specs.TablesData.{TablesData, IsTables}
use Rattle.election_tables.specs.declared.tables.sections.Section.{Section}
use Rattle.turnout.specs.declared.phase.Phase.TheVariants as phase
use Rattle.image_codec.specs.Encoding.{IsStateOf}
use Rattle.image_codec.specs.State.{State}
use Rattle.vote_record.specs.RdvData.{RdvData}
use Rattle.poll_report.specs.Counted.{HasReport, report_of}
use Rattle.qr_text.specs.Spelling.{Spells, report_text}
use Rattle.hash_chain.specs.Chain.{parts_text}
use Rattle.section_intake.specs.Verdict.{IsReportFile, IsVerdict, most_report_bytes}
use Rattle.section_intake.specs.declared.verdict.Verdict.TheVariants as verdict

-- the record of a state
abbrev pub record_of : State → RdvData
record_of s = record { bags = s.bags; voters = length s.came; places = s.places }

-- a sealed poll of a section of the tables has a report
abbrev pub SealedHasReport : Type 0
SealedHasReport = (t : TablesData) (section : Section) (s : State) (opened closed : ℕ) → IsTables t → Contains t.sections section
    → IsStateOf t section.voters s → s.phase ≡ phase.Sealed opened closed → HasReport t section (record_of s) s.came opened closed

-- and that report has a text, which spells it
abbrev pub SealedHasText : Type 0
SealedHasText = (t : TablesData) (section : Section) (s : State) (opened closed : ℕ) → IsTables t → Contains t.sections section
    → IsStateOf t section.voters s → s.phase ≡ phase.Sealed opened closed
    → Spells (report_text (report_of t section s.bags s.came opened closed)) (report_of t section s.bags s.came opened closed)

-- the file of that report
abbrev pub report_file : TablesData → Section → State → ℕ → ℕ → List ℕ
report_file t section s opened closed = parts_text (report_text (report_of t section s.bags s.came opened closed))

-- is the file of that report,
abbrev pub SealedHasFile : Type 0
SealedHasFile = (t : TablesData) (section : Section) (s : State) (opened closed : ℕ) → IsTables t → Contains t.sections section
    → IsStateOf t section.voters s → s.phase ≡ phase.Sealed opened closed
    → IsReportFile (report_file t section s opened closed) (report_of t section s.bags s.came opened closed)

-- is no longer than a report may be, and is accepted by the tables
abbrev pub SealedIsAccepted : Type 0
SealedIsAccepted = (t : TablesData) (section : Section) (s : State) (opened closed : ℕ) → IsTables t → Contains t.sections section
    → IsStateOf t section.voters s → s.phase ≡ phase.Sealed opened closed
    → (length (report_file t section s opened closed) ≤ most_report_bytes)
    × IsVerdict t (report_file t section s opened closed) (verdict.Accepted section.zone section.number)

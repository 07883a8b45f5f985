-- The two files of a sealed poll, and what reconta tells of them
use Rattle.std.specs.Prelude.{◌≡◌, ◌⊎◌, ℕ, List, [], ◌∷◌, ◌++◌, codes, Some}
use Rattle.std.specs.List.{Contains}
use Rattle.urna_outside.specs.Cabinet.{CabinetTold, Files}
use Rattle.urna_outside.specs.ShownLines.{HasShown}
use Rattle.urna_outside.specs.Told.{Told}
use Rattle.election_tables.specs.Roll.{RollData}
use Rattle.election_tables.specs.TablesData.{IsTables, TablesData}
use Rattle.election_tables.specs.declared.tables.sections.Section.{Section}
use Rattle.key_script.specs.declared.keys.Event.{Event}
use Rattle.turnout.specs.declared.phase.Phase.TheVariants as phase
use Rattle.vote_record.specs.RecordText.{record_text}
use Rattle.poll_report.specs.Counted.{report_of}
use Rattle.section_intake.specs.Verdict.{IsReportFile}
use Rattle.record_audit.specs.Finding.{finding}
use Rattle.record_audit.specs.Record.{section_record}
use Rattle.record_audit.specs.Spelling.{Spells}
use Rattle.record_audit.specs.declared.finding.Finding.TheVariants.{Agree}
use Rattle.image_codec.specs.Encoding.{IsStateOf}
use Rattle.image_codec.specs.State.{State}
use Rattle.result_files.specs.Reports.{report_file}
use Rattle.station.specs.Output.{Output}
use Rattle.station.specs.Run.{IsRun}
use Rattle.station.specs.Setting.{setting_of}
use Rattle.call_laws.specs.AtRest.{VotaOver}
use Rattle.urna_commands.specs.Command.{Emite, Vota}
use Rattle.urna_commands.specs.Emite.{EmiteEnds}
use Rattle.urna_commands.specs.Putting.{record_name, report_name}
use Rattle.urna_commands.specs.Reconta.{RecontaEnds}
use Rattle.urna_commands.specs.declared.status.Status.{Status}
use Rattle.urna_commands.specs.declared.status.Status.TheVariants as status

-- The record of each sealed poll of a section of the tables is read as that section's, the file of its report as its report, and a recount of
-- both finds that they agree.
abbrev pub SealedAgree : Type 0
SealedAgree =
    (t : TablesData) (section : Section) (s : State) (opened closed : ℕ) → IsTables t → Contains t.sections section → IsStateOf t section.voters s
    → s.phase ≡ phase.Sealed opened closed
    → Spells (record_text t section s.bags) (section_record t section s.bags)
    × IsReportFile (report_file t section s opened closed) (report_of t section s.bags s.came opened closed)
    × (finding (section_record t section s.bags) (report_of t section s.bags s.came opened closed) ≡ Agree)

-- Whoever calls reconta with the report and the record of this word over the files that a cabinet tells is shown that they agree, and the status
-- is Done; or memory was wanted, or the cabinet or the display failed.
abbrev pub AgreeThere : List ℕ → CabinetTold → Type 0
AgreeThere out told =
    (c d : CabinetTold) (m n : Told) (answer : Status) → RecontaEnds (record { report = report_name out; rdv = record_name out }) c d m n answer → c.files ≡ told.files
    → ((answer ≡ status.Done) × HasShown ((codes "CONFERE" ++ 10 ∷ []) ∷ []) m n)
    ⊎ (answer ≡ status.Memory) ⊎ (answer ≡ status.Cabinet) ⊎ (answer ≡ status.Display)

-- Where vota is Done and its run leaves the poll sealed, the two files that lie there then agree;
abbrev pub VotedAgree : Type 0
VotedAgree =
    (names : Vota) (c d : CabinetTold) (m n : Told) (t : TablesData) (r : RollData) (es : List Event) (section : Section) (s : State) (files : Files)
    → VotaOver names c d m n status.Done t r es section s files
    → (last : State) (out : List Output) → IsRun (setting_of t r.titles) s es last out → (opened closed : ℕ) → last.phase ≡ phase.Sealed opened closed
    → AgreeThere names.out d

-- and so do those that emite put where it is Done.
abbrev pub EmittedAgree : Type 0
EmittedAgree = (names : Emite) (c d : CabinetTold) (m n : Told) → EmiteEnds names c d m n status.Done → (files : Files) → c.files ≡ Some files → AgreeThere names.out d

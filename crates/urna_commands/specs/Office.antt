-- The contest of a proportional office over the accepted reports of a list
use Rattle.std.specs.Prelude.{◌≡◌, ℕ, ◌<◌, List, [], ◌∷◌, length, Option}
use Rattle.urna_outside.specs.Cabinet.{CabinetTold, Files}
use Rattle.urna_outside.specs.Told.{Told}
use Rattle.election_tables.specs.TablesData.{TablesData}
use Rattle.election_tables.specs.declared.office.Kind.TheVariants as kind
use Rattle.flash_store.specs.Syncs.{IsUntouched}
use Rattle.poll_report.specs.declared.report.Report.{Report}
use Rattle.section_intake.specs.Accepted.{File}
use Rattle.section_intake.specs.Sums.{AreReportsOf}
use Rattle.section_intake.specs.declared.verdict.Verdict.{Verdict}
use Rattle.seat_remainders.specs.declared.contest.Contest.{Contest}
use Rattle.totals.specs.Contest.{contest_in}
use Rattle.vote_kinds.specs.Ballot.{panel_at}
use Rattle.command_parts.specs.Documents.{AreTaken, HasTables, IsListed}
use Rattle.urna_commands.specs.Documents.{IsFault}
use Rattle.urna_commands.specs.Offered.{HasOffered, HasTakenReports}
use Rattle.command_parts.specs.declared.error.Doc.TheVariants as doc
use Rattle.urna_commands.specs.declared.status.Status.{Status}
use Rattle.urna_commands.specs.declared.status.Status.TheVariants as status

-- the panel of this number has the proportional office of a code
pub record IsOfficeAt (t : TablesData) (code panel : ℕ) : Type 0 where
  pub panel_is : panel < length t.panels
  pub has_code : (panel_at t panel).office.code ≡ code
  pub proportional : (panel_at t panel).office.kind ≡ kind.Proportional

-- no panel has
abbrev pub HasNoOffice : TablesData → ℕ → Type 0
HasNoOffice t code = (panel : ℕ) → ¬ IsOfficeAt t code panel

-- The files of these names are tables with the proportional office of a code, and a list. This is the office's contest over the reports of those
-- files that are accepted of the ones that the list names, as totaliza accepts them.
pub record HasContest (files : Option Files) (tables list : List ℕ) (code : ℕ) (contest : Contest) : Type 0 where
  pub t : TablesData
  pub listed : List (List ℕ)
  pub given : IsListed files tables list t listed
  pub panel : ℕ
  pub office : IsOfficeAt t code panel
  pub verdicts : List Verdict
  pub accepted : List File
  pub offered : HasOffered files t listed [] verdicts accepted
  pub reports : List Report
  pub read : AreReportsOf accepted reports
  pub is : contest ≡ contest_in t reports panel

-- The files of these names are tables with the proportional office of a code, and a list, and each listed report is there and no longer than a
-- report may be. This is all that the contest needs.
pub record HasOfficeAndReports (files : Option Files) (tables list : List ℕ) (code : ℕ) : Type 0 where
  pub t : TablesData
  pub listed : List (List ℕ)
  pub given : IsListed files tables list t listed
  pub panel : ℕ
  pub office : IsOfficeAt t code panel
  pub reports : List File
  pub taken : AreTaken files listed reports

-- Why the files of these names give no such contest, and the status that says so: the tables are at fault, or have no such office; the list is at
-- fault; or the first of the listed reports whose file is at fault.
pub data IsContestFault (files : Option Files) (tables list : List ℕ) (code : ℕ) : Status → Type 0 where
  of_tables : {s : Status} → IsFault files tables doc.Tables s → IsContestFault files tables list code s
  of_office : {t : TablesData} → HasTables files tables t → HasNoOffice t code → IsContestFault files tables list code status.NoOffice
  of_list : {t : TablesData} {panel : ℕ} {s : Status} → HasTables files tables t → IsOfficeAt t code panel → IsFault files list doc.List s
      → IsContestFault files tables list code s
  of_report : {t : TablesData} {panel : ℕ} {listed left : List (List ℕ)} {name : List ℕ} {verdicts : List Verdict} {accepted : List File} {s : Status}
      → IsListed files tables list t listed → IsOfficeAt t code panel → HasOffered files t listed (name ∷ left) verdicts accepted → IsFault files name doc.Report s
      → IsContestFault files tables list code s

-- The contest is known, and nothing was done on the machine.
pub record IsContestKnown (tables list : List ℕ) (code : ℕ) (contest : Contest) (c d : CabinetTold) (m n : Told) : Type 0 where
  pub has : HasContest c.files tables list code contest
  pub taken : HasTakenReports tables list 2 status.Done c d
  pub untouched : IsUntouched m n

-- How a command ends that has no contest: the files give none, memory was wanted, or the cabinet failed. Nothing was done on the machine.
pub data ContestStops (tables list : List ℕ) (code : ℕ) (c d : CabinetTold) (m n : Told) : Status → Type 0 where
  contest_refused : {s : Status} → IsContestFault c.files tables list code s → HasTakenReports tables list 2 s c d → IsUntouched m n → ContestStops tables list code c d m n s
  contest_no_memory : HasTakenReports tables list 2 status.Memory c d → IsUntouched m n → ContestStops tables list code c d m n status.Memory
  contest_no_cabinet : HasTakenReports tables list 2 status.Cabinet c d → IsUntouched m n → ContestStops tables list code c d m n status.Cabinet

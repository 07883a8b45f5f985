-- Any calls one after the other, each of which the power may have stopped
use Rattle.std.specs.Prelude.{◌≡◌, ◌≢◌, ℕ, ◌+◌, List, [], ◌∷◌, ◌++◌, Some, length}
use Rattle.urna_outside.specs.Cabinet.{CabinetTold, Files}
use Rattle.urna_outside.specs.Flash.{Flashes, IsClean, Op, flash_of}
use Rattle.urna_outside.specs.Started.{clean_flashes}
use Rattle.urna_outside.specs.Stop.{IsLeft, Left}
use Rattle.urna_outside.specs.Told.{AreSized, Told}
use Rattle.urna_outside.specs.declared.device.Dev.{Dev}
use Rattle.election_tables.specs.TablesData.{IsTables, TablesData}
use Rattle.election_tables.specs.declared.tables.panels.Panel.{Panel}
use Rattle.poll_report.specs.declared.report.Report.{Report}
use Rattle.section_intake.specs.Accepted.{AreOffered, File}
use Rattle.section_intake.specs.Laws.{AreShort}
use Rattle.section_intake.specs.Sums.{AreReportsOf, nominal_sum}
use Rattle.section_intake.specs.declared.verdict.Verdict.{Verdict}
use Rattle.totals.specs.Contest.{contest_for, entries_in}
use Rattle.totals.specs.Lines.{section_line}
use Rattle.totals.specs.Totals.{AreTotals, TellResult}
use Rattle.flash_store.specs.Held.{KeepFrames}
use Rattle.flash_store.specs.Pieces.{Piece, text_in}
use Rattle.intake_ledger.specs.Kept.{AreDevices, AreFound}
use Rattle.intake_ledger.specs.Laws.{AreWhole, HasSumsOf}
use Rattle.intake_ledger.specs.Layout.{body_size}
use Rattle.intake_ledger.specs.Ledger.{LedgerData, accepted_in, empty_ledger}
use Rattle.command_parts.specs.Documents.{HasTables, IsListed}
use Rattle.command_parts.specs.Idle.{AreIdle}
use Rattle.command_parts.specs.Steps.{Call as CallOf, IsCall as IsCallOf, IsToldOrOneMore}
use Rattle.ledger_commands.specs.Command.{Command, Recebe, ToBegin, ToReceive, ToTotal, command_of}
use Rattle.ledger_commands.specs.Ending.{Ends}
use Rattle.ledger_commands.specs.Errors.{port_status}
use Rattle.call_laws.specs.LedgerHeadline.{IsAfterOffers, fault_told, verdicts_begun}
use Rattle.ledger_commands.specs.Lines.{panel_lines}
use Rattle.ledger_commands.specs.Opening.{opening}
use Rattle.ledger_commands.specs.Recebe.{AreTakenIn, refused_status}
use Rattle.ledger_commands.specs.declared.status.LedgerStatus.{LedgerStatus}
use Rattle.ledger_commands.specs.declared.status.LedgerStatus.TheVariants as status

-- ---- one call

-- a call of this program as one sees it
abbrev pub Call : Type 0
Call = CallOf LedgerStatus

-- it was made over these flashes, and ended or was stopped, and there is this for the next
abbrev pub IsCall : Flashes → Call → Flashes → Type 0
IsCall start x next = IsCallOf Ends start x next

-- the name of the tables that a command takes
abbrev pub tables_of : Command → List ℕ
tables_of (ToBegin tables) = tables
tables_of (ToReceive names) = names.tables
tables_of (ToTotal tables) = tables

-- All that is asked of a call that did these operations. While no report is accepted, abre has put nothing on a flash. And no call is given
-- other tables of the same SHA-256.
pub record MayBeCalled (t : TablesData) (start : Flashes) (x : Call) (done : List Op) : Type 0 where
  pub no_begin : (tables : List ℕ) → command_of x.words ≡ Some (ToBegin tables) → (l : LedgerData) → AreFound t l start → accepted_in l ≡ 0 → AreIdle done
  pub no_collision : (command : Command) → command_of x.words ≡ Some command → (u : TablesData) → HasTables (Some x.files) (tables_of command) u → u.digest ≡ t.digest → u ≡ t

-- ---- to which ledger calls lead

-- It is a call of recebe whose files hold these tables and this list.
pub record IsReceiptOf (t : TablesData) (x : Call) (listed : List (List ℕ)) : Type 0 where
  pub names : Recebe
  pub command : command_of x.words ≡ Some (ToReceive names)
  pub given : IsListed (Some x.files) names.tables names.list t listed

-- A recebe leads from the ledger l to the one behind the first of the listed reports: as many as verdicts the display had begun to show, or
-- where the call was interrupted one more; at Done and where some were refused all of them. What was shown is a front of the opening line, the
-- verdicts and the line of a fault.
pub record ReceivesOn (t : TablesData) (x : Call) (listed : List (List ℕ)) (l m : LedgerData) : Type 0 where
  pub unread : List (List ℕ)
  pub verdicts : List Verdict
  pub pieces : List (Piece LedgerData)
  pub last : LedgerData
  pub are : AreTakenIn (Some x.files) t l listed unread verdicts pieces last
  pub answer : LedgerStatus
  pub rest : List ℕ
  pub front : text_in (opening l ++ pieces) ++ fault_told answer ≡ x.shown ++ rest
  pub number : ℕ
  pub after : IsAfterOffers (Some x.files) t l listed number m
  pub told : IsToldOrOneMore port_status x.status (verdicts_begun l pieces (length x.shown)) number
  pub ended : (s : LedgerStatus) → x.status ≡ Some s → answer ≡ s
  pub all : (refused : ℕ) → x.status ≡ Some (refused_status refused) → number ≡ length listed

-- So each call leads on: a recebe that showed something does so; one that showed nothing, and any other call leaves the ledger as it is.
pub data LeadsTo (t : TablesData) (x : Call) : LedgerData → LedgerData → Type 0 where
  received : {listed : List (List ℕ)} {l m : LedgerData} → IsReceiptOf t x listed → x.shown ≢ [] → (on : ReceivesOn t x listed l m) → LeadsTo t x l m
  other : {l : LedgerData} → ((listed : List (List ℕ)) → ¬ IsReceiptOf t x listed) → LeadsTo t x l l
  silent : {l : LedgerData} → x.shown ≡ [] → LeadsTo t x l l

-- the reports that it took in
abbrev pub reports_in : {t : TablesData} {x : Call} {l m : LedgerData} → LeadsTo t x l m → List File
reports_in (received is some on) = on.after.are.reports
reports_in (other none) = []
reports_in (silent unshown) = []

-- And so many calls do, of which the last stands first: each from the ledger to which those before it led.
pub data LeadTo (t : TablesData) (l : LedgerData) : List Call → LedgerData → Type 0 where
  stays : LeadTo t l [] l
  leads : {before : List Call} {x : Call} {m k : LedgerData} → LeadTo t l before m → (one : LeadsTo t x m k) → LeadTo t l (x ∷ before) k

-- the reports that they took in, in order
abbrev pub reports_led : {t : TablesData} {l m : LedgerData} {calls : List Call} → LeadTo t l calls m → List File
reports_led stays = []
reports_led (leads before one) = reports_led before ++ reports_in one

-- ---- calls, one after the other

-- Such calls from these flashes on, of which the last stands first, each over what the one before it left.
pub data AreDone (t : TablesData) (start : Flashes) : List Call → Flashes → Type 0 where
  done_nothing : AreDone t start [] start
  done_call : {before : List Call} {now next : Flashes} {x : Call} → AreDone t start before now → (is : IsCall now x next) → MayBeCalled t now x is.done
      → AreDone t start (x ∷ before) next

-- What both flashes are when the calls begin: of their size, with nothing dirty, with the frames of these tables and the ledger l.
pub record AreReady (t : TablesData) (l : LedgerData) (start : Flashes) : Type 0 where
  pub tables : IsTables t
  pub whole : AreWhole start
  pub clean : (d : Dev) → IsClean (flash_of d start)
  pub found : AreFound t l start

-- What is left behind the calls holds the ledger to which they lead from l, with the same frames.
pub record HasKept (t : TablesData) (l : LedgerData) (start : Flashes) (calls : List Call) (left : Left) : Type 0 where
  pub ledger : LedgerData
  pub found : AreFound t ledger (clean_flashes left.internal left.external)
  pub whole : AreWhole (clean_flashes left.internal left.external)
  pub led : LeadTo t l calls ledger
  pub frames : KeepFrames body_size start left

-- Whatever is called, and wherever the power stops it: what a power cut leaves behind the calls keeps their offers.
abbrev pub CallsKeepOffers : Type 0
CallsKeepOffers =
    (t : TablesData) (l : LedgerData) (start last : Flashes) (calls : List Call) → AreReady t l start → AreDone t start calls last
    → (left : Left) → IsLeft last [] left → HasKept t l start calls left

-- The next call finds that ledger.
abbrev pub NextIsFound : Type 0
NextIsFound =
    (t : TablesData) (l : LedgerData) (start last : Flashes) (calls : List Call) → AreReady t l start → AreDone t start calls last
    → (m : LedgerData) × LeadTo t l calls m × AreFound t m last

-- Where abre answered Done over flashes of their size, both are ready for such calls, with the ledger before the first report.
abbrev pub BeginMakesReady : Type 0
BeginMakesReady =
    (words : List (List ℕ)) (name : List ℕ) (c d : CabinetTold) (m n : Told) (files : Files) (t : TablesData) (start : Flashes) → Ends words c d m n status.Done
    → command_of words ≡ Some (ToBegin name) → c.files ≡ Some files → HasTables (Some files) name t
    → n.flashes ≡ Some start → AreDevices n.sizes → AreSized n.sizes start → AreReady t (empty_ledger t) start

-- ---- the sums

-- The ledger to which calls lead from the one before the first report has the sums over the reports that they took in, of each section the
-- first.
abbrev pub LedHasSums : Type 0
LedHasSums =
    (t : TablesData) (calls : List Call) (l : LedgerData) → IsTables t → (led : LeadTo t (empty_ledger t) calls l)
    → AreShort (reports_led led)
    × ((verdicts : List Verdict) (accepted : List File) → AreOffered t (reports_led led) verdicts accepted → HasSumsOf t accepted l)

-- These lines tell of these panels, the first of which has this number: the lines of the ledger, and behind those of each panel what comes of
-- it by law, of these reports.
abbrev pub TellAlso : TablesData → List Report → LedgerData → ℕ → List Panel → List (List ℕ) → Type 0
TellAlso t reports l first [] lines = lines ≡ []
TellAlso t reports l first (p ∷ panels) lines =
    (result : List (List ℕ)) × (others : List (List ℕ))
    × TellResult p.office.kind t (contest_for t reports first p) (entries_in reports first p) (λ number. nominal_sum first number reports) result
    × TellAlso t reports l (first + 1) panels others × (lines ≡ (panel_lines t l first p ++ result) ++ others)

-- The lines that tell the totals over the reports of these accepted files are those that tell the ledger, and behind those of each office what
-- comes of it by law.
abbrev pub TotalsTellLedger : Type 0
TotalsTellLedger =
    (t : TablesData) (calls : List Call) (l : LedgerData) (verdicts : List Verdict) (accepted : List File) (reports : List Report) (lines : List (List ℕ)) → IsTables t
    → (led : LeadTo t (empty_ledger t) calls l) → AreOffered t (reports_led led) verdicts accepted → AreReportsOf accepted reports → AreTotals t reports lines
    → (panels : List (List ℕ)) × TellAlso t reports l 0 t.panels panels × (lines ≡ section_line (accepted_in l) (length t.sections) ∷ panels)

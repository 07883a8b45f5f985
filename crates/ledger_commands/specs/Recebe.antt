-- The command recebe: what is taken in, and how it ends
use Rattle.std.specs.Prelude.{◌≡◌, ℕ, zero, suc, ◌+◌, List, ◌++◌, [], ◌∷◌, length, Option}
use Rattle.std.specs.Option.{ForSome}
use Rattle.urna_outside.specs.Cabinet.{CabinetTold, Files}
use Rattle.urna_outside.specs.Told.{Told}
use Rattle.urna_outside.specs.declared.device.Port.{Port}
use Rattle.election_tables.specs.TablesData.{TablesData}
use Rattle.section_intake.specs.Accepted.{File}
use Rattle.section_intake.specs.declared.verdict.Verdict.{Verdict}
use Rattle.flash_store.specs.Pieces.{Piece}
use Rattle.flash_store.specs.Played.{HasPut, HasStopped, IsSafe}
use Rattle.flash_store.specs.Syncs.{IsUntouched}
use Rattle.report_lines.specs.Verdicts.{refused_count}
use Rattle.intake_ledger.specs.Calls.{FailsToOpen}
use Rattle.intake_ledger.specs.Kept.{AreAtRest, kept_ledger, ledgers}
use Rattle.intake_ledger.specs.Ledger.{LedgerData}
use Rattle.intake_ledger.specs.Offers.{AreOfferedTo}
use Rattle.intake_ledger.specs.declared.ledger.LedgerError.{LedgerError}
use Rattle.command_parts.specs.Documents.{AreTaken, IsListed}
use Rattle.command_parts.specs.declared.error.Doc.TheVariants as doc
use Rattle.ledger_commands.specs.Command.{Recebe}
use Rattle.ledger_commands.specs.Documents.{HasTaken, IsFault, IsFirstFault}
use Rattle.ledger_commands.specs.Errors.{ledger_status, port_status}
use Rattle.ledger_commands.specs.Opening.{IsOpened, opening}
use Rattle.ledger_commands.specs.declared.status.LedgerStatus.{LedgerStatus}
use Rattle.ledger_commands.specs.declared.status.LedgerStatus.TheVariants as status

-- ---- what is taken in

-- Of the listed reports the first ones were taken, and offered to a ledger one behind the other: their verdicts, and what is put out. Others are
-- left.
pub record AreTakenIn (files : Option Files) (t : TablesData) (first : LedgerData) (listed left : List (List ℕ)) (verdicts : List Verdict)
    (pieces : List (Piece LedgerData)) (last : LedgerData) : Type 0 where
  pub names : List (List ℕ)
  pub all : listed ≡ names ++ left
  pub reports : List File
  pub taken : AreTaken files names reports
  pub offered : AreOfferedTo t first reports verdicts pieces last

-- The ledger that the flashes hold was opened and told, and the first of the listed reports were offered to it: each accepted one was committed
-- before its line. What the power leaves at the stops of all that, behind the two opening syncs, is said by IsSafe. Both are at rest with the
-- ledger that the offers leave.
pub record HasReceived (files : Option Files) (t : TablesData) (listed left : List (List ℕ)) (verdicts : List Verdict) (old new : Told) : Type 0 where
  pub first : LedgerData
  pub last : LedgerData
  pub pieces : List (Piece LedgerData)
  pub between : Told
  pub opened : IsOpened t first old between
  pub are : AreTakenIn files t first listed left verdicts pieces last
  pub put : HasPut (kept_ledger t) first (opening first ++ pieces) between new
  pub rest : ForSome new.flashes (AreAtRest t last)
  pub survives : IsSafe (ledgers t) first (opening first ++ pieces) old new

-- The same up to a fault of a port, in the opening line or in one of these offers.
pub record HasReceivedTo (files : Option Files) (t : TablesData) (listed left : List (List ℕ)) (verdicts : List Verdict) (port : Port) (old new : Told)
    : Type 0 where
  pub first : LedgerData
  pub last : LedgerData
  pub pieces : List (Piece LedgerData)
  pub between : Told
  pub opened : IsOpened t first old between
  pub are : AreTakenIn files t first listed left verdicts pieces last
  pub stopped : HasStopped (kept_ledger t) first (opening first ++ pieces) port between new
  pub survives : IsSafe (ledgers t) first (opening first ++ pieces) old new

-- ---- the endings

-- some reports were refused, if any were
abbrev pub refused_status : ℕ → LedgerStatus
refused_status zero = status.Done
refused_status (suc n) = status.SomeRefused (suc n)

-- How recebe ends, but for the line that tells a fault.
pub data RecebeEnds (names : Recebe) (c d : CabinetTold) (m n : Told) : LedgerStatus → Type 0 where
  -- The tables or the list are at fault, memory was wanted, or the cabinet failed: nothing is done on the machine.
  list_refused : {s : LedgerStatus} → IsFirstFault c.files names.tables doc.List names.list s → HasTaken 2 s c d → IsUntouched m n → RecebeEnds names c d m n s
  list_no_memory : HasTaken 2 status.Memory c d → IsUntouched m n → RecebeEnds names c d m n status.Memory
  list_no_cabinet : HasTaken 2 status.Cabinet c d → IsUntouched m n → RecebeEnds names c d m n status.Cabinet
  -- No ledger was opened.
  not_opened : {t : TablesData} {listed : List (List ℕ)} (e : LedgerError) → IsListed c.files names.tables names.list t listed
      → HasTaken 2 (ledger_status e) c d → FailsToOpen t m n e → RecebeEnds names c d m n (ledger_status e)
  -- A port failed in the opening line, or in an offer.
  cut : {t : TablesData} {listed left : List (List ℕ)} {verdicts : List Verdict} (p : Port) → IsListed c.files names.tables names.list t listed
      → HasTaken (length listed + 2) (port_status p) c d → HasReceivedTo c.files t listed left verdicts p m n → RecebeEnds names c d m n (port_status p)
  -- A listed report is at fault, the cabinet failed there, or memory was wanted for it: those before it were taken in.
  report_refused : {t : TablesData} {listed left : List (List ℕ)} {name : List ℕ} {verdicts : List Verdict} {s : LedgerStatus}
      → IsListed c.files names.tables names.list t listed → HasReceived c.files t listed (name ∷ left) verdicts m n → IsFault c.files name doc.Report s
      → HasTaken (length listed + 2) s c d → RecebeEnds names c d m n s
  report_no_cabinet : {t : TablesData} {listed left : List (List ℕ)} {name : List ℕ} {verdicts : List Verdict}
      → IsListed c.files names.tables names.list t listed → HasReceived c.files t listed (name ∷ left) verdicts m n
      → HasTaken (length listed + 2) status.Cabinet c d → RecebeEnds names c d m n status.Cabinet
  report_no_memory : {t : TablesData} {listed left : List (List ℕ)} {name : List ℕ} {verdicts : List Verdict}
      → IsListed c.files names.tables names.list t listed → HasReceived c.files t listed (name ∷ left) verdicts m n
      → HasTaken (length listed + 2) status.Memory c d → RecebeEnds names c d m n status.Memory
  -- All were taken in; how many were refused gives the status.
  received : {t : TablesData} {listed : List (List ℕ)} {verdicts : List Verdict} → IsListed c.files names.tables names.list t listed
      → HasReceived c.files t listed [] verdicts m n → HasTaken (length listed + 2) (refused_status (refused_count verdicts)) c d
      → RecebeEnds names c d m n (refused_status (refused_count verdicts))

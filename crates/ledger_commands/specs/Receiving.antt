-- One report of a list is taken and offered, and its verdict told: how that ends. What the functions of recebe say of each other.
use Rattle.std.specs.Prelude.{◌≡◌, ℕ, ◌≤◌, List, ◌∷◌, length, drop, Result, Ok, Err}
use Rattle.urna_outside.specs.Cabinet.{CabinetTold}
use Rattle.urna_outside.specs.Told.{Told}
use Rattle.urna_outside.specs.declared.device.Port.{Port}
use Rattle.election_tables.specs.TablesData.{TablesData}
use Rattle.section_intake.specs.Accepted.{File}
use Rattle.section_intake.specs.declared.verdict.Verdict.{Verdict}
use Rattle.flash_store.specs.Pieces.{Piece}
use Rattle.flash_store.specs.Played.{HasPut, HasStopped}
use Rattle.report_lines.specs.Verdicts.{refused_count}
use Rattle.intake_ledger.specs.Calls.{HasOffered, HasOfferedTo, Keeps}
use Rattle.intake_ledger.specs.Kept.{kept_ledger}
use Rattle.intake_ledger.specs.Ledger.{LedgerData}
use Rattle.intake_ledger.specs.Totals.{TotalsData}
use Rattle.command_parts.specs.Documents.{IsTaken}
use Rattle.command_parts.specs.declared.error.Doc.TheVariants as doc
use Rattle.ledger_commands.specs.Documents.{HasTaken, IsFault}
use Rattle.ledger_commands.specs.Errors.{port_status}
use Rattle.ledger_commands.specs.Recebe.{AreTakenIn}
use Rattle.ledger_commands.specs.declared.status.LedgerStatus.{LedgerStatus}
use Rattle.ledger_commands.specs.declared.status.LedgerStatus.TheVariants as status

-- How the report of a name and number is offered to a ledger.
pub data OfferEnds (t : TablesData) (l : LedgerData) (name : List ℕ) (k : ℕ) (c d : CabinetTold) (m n : Told) : Result (TotalsData × Verdict) LedgerStatus → Type 0 where
  offered : {bytes : File} {kept : TotalsData} {v : Verdict} → IsTaken c.files doc.Report name bytes → HasTaken 1 status.Done c d
      → HasOffered t l bytes k v kept m n → OfferEnds t l name k c d m n (Ok (kept, v))
  offer_cut : {bytes : File} {p : Port} → IsTaken c.files doc.Report name bytes → HasTaken 1 (port_status p) c d
      → HasOfferedTo t l bytes k p m n → OfferEnds t l name k c d m n (Err (port_status p))
  offer_no_memory : HasTaken 1 status.Memory c d → n ≡ m → OfferEnds t l name k c d m n (Err status.Memory)
  offer_no_cabinet : HasTaken 1 status.Cabinet c d → n ≡ m → OfferEnds t l name k c d m n (Err status.Cabinet)
  offer_at_fault : {s : LedgerStatus} → IsFault c.files name doc.Report s → HasTaken 1 s c d → n ≡ m → OfferEnds t l name k c d m n (Err s)

-- The first k of the listed reports were taken and offered to a ledger, and their verdicts told.
pub record AreSoFar (t : TablesData) (l : LedgerData) (listed : List (List ℕ)) (k : ℕ) (kept : TotalsData) (refused : ℕ) (c d : CabinetTold) (m n : Told) : Type 0 where
  pub last : LedgerData
  pub verdicts : List Verdict
  pub pieces : List (Piece LedgerData)
  pub count : length verdicts ≡ k
  pub are : AreTakenIn c.files t l listed (drop k listed) verdicts pieces last
  pub keeps : Keeps t n kept last
  pub refused_are : refused ≡ refused_count verdicts
  pub few : refused ≤ k
  pub taken : HasTaken k status.Done c d
  pub put : HasPut (kept_ledger t) l pieces m n

-- How the offers of a list end: all of them were taken, or one of them ended the command.
pub data OffersEnd (t : TablesData) (l : LedgerData) (listed : List (List ℕ)) (c d : CabinetTold) (m n : Told) : Result ℕ LedgerStatus → Type 0 where
  all_offered : {kept : TotalsData} {refused : ℕ} → AreSoFar t l listed (length listed) kept refused c d m n → OffersEnd t l listed c d m n (Ok refused)
  one_cut : {left : List (List ℕ)} {verdicts : List Verdict} {pieces : List (Piece LedgerData)} {last : LedgerData} {p : Port}
      → AreTakenIn c.files t l listed left verdicts pieces last → HasTaken (length listed) (port_status p) c d → HasStopped (kept_ledger t) l pieces p m n
      → OffersEnd t l listed c d m n (Err (port_status p))
  one_no_memory : {left : List (List ℕ)} {name : List ℕ} {verdicts : List Verdict} {pieces : List (Piece LedgerData)} {last : LedgerData}
      → AreTakenIn c.files t l listed (name ∷ left) verdicts pieces last → HasTaken (length listed) status.Memory c d → HasPut (kept_ledger t) l pieces m n
      → OffersEnd t l listed c d m n (Err status.Memory)
  one_no_cabinet : {left : List (List ℕ)} {name : List ℕ} {verdicts : List Verdict} {pieces : List (Piece LedgerData)} {last : LedgerData}
      → AreTakenIn c.files t l listed (name ∷ left) verdicts pieces last → HasTaken (length listed) status.Cabinet c d → HasPut (kept_ledger t) l pieces m n
      → OffersEnd t l listed c d m n (Err status.Cabinet)
  one_at_fault : {left : List (List ℕ)} {name : List ℕ} {verdicts : List Verdict} {pieces : List (Piece LedgerData)} {last : LedgerData} {s : LedgerStatus}
      → AreTakenIn c.files t l listed (name ∷ left) verdicts pieces last → IsFault c.files name doc.Report s → HasTaken (length listed) s c d
      → HasPut (kept_ledger t) l pieces m n → OffersEnd t l listed c d m n (Err s)

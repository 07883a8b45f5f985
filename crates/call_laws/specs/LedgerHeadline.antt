-- The headline: whatever moment the power goes in a call, the ledger is behind each report whose line began to be shown, and behind at most one more
use Rattle.std.specs.Prelude.{◌≡◌, ◌≢◌, ◌⊎◌, ℕ, ◌+◌, ◌-◌, ◌≤◌, List, [], ◌++◌, Option, Some, length, option_map}
use Rattle.std.specs.List.{concat}
use Rattle.std.specs.Option.{option_to_list}
use Rattle.urna_outside.specs.Cabinet.{CabinetTold, Files}
use Rattle.urna_outside.specs.Flash.{Flashes, Op, after, shown_by}
use Rattle.urna_outside.specs.Stop.{AtEachStop, IsLeft, IsStop, Left}
use Rattle.urna_outside.specs.Told.{Told}
use Rattle.urna_outside.specs.Traced.{IsTraced}
use Rattle.urna_outside.specs.declared.device.Port.{Port}
use Rattle.election_tables.specs.TablesData.{TablesData}
use Rattle.section_intake.specs.declared.verdict.Verdict.{Verdict}
use Rattle.flash_store.specs.Held.{HeldAlone, HeldByBoth, KeepFrames}
use Rattle.flash_store.specs.Pieces.{Piece, lines_in, lines_reached, text_in}
use Rattle.flash_store.specs.Played.{shows_in}
use Rattle.flash_store.specs.Syncs.{both_synced}
use Rattle.intake_ledger.specs.Kept.{AreFound, ledgers}
use Rattle.intake_ledger.specs.Layout.{body_size}
use Rattle.intake_ledger.specs.Ledger.{LedgerData}
use Rattle.command_parts.specs.Documents.{HasTables, IsListed}
use Rattle.command_parts.specs.FaultLines.{fault_line}
use Rattle.ledger_commands.specs.Command.{Recebe, ToReceive, ToTotal, command_of}
use Rattle.ledger_commands.specs.Ending.{Ends}
use Rattle.ledger_commands.specs.Errors.{fault_text, port_status}
use Rattle.ledger_commands.specs.Opening.{opening}
use Rattle.ledger_commands.specs.Recebe.{AreTakenIn, refused_status}
use Rattle.ledger_commands.specs.declared.status.LedgerStatus.{LedgerStatus}

-- ---- what is left of the offers

-- The first of the listed reports, so many, were taken and offered to a ledger one behind the other. They leave this one.
pub record IsAfterOffers (files : Option Files) (t : TablesData) (l : LedgerData) (listed : List (List ℕ)) (number : ℕ) (last : LedgerData) : Type 0 where
  pub left : List (List ℕ)
  pub verdicts : List Verdict
  pub pieces : List (Piece LedgerData)
  pub are : AreTakenIn files t l listed left verdicts pieces last
  pub number_is : length verdicts ≡ number

-- how many verdicts the first n bytes of a call's text begin to tell, behind its opening line
abbrev pub verdicts_begun : LedgerData → List (Piece LedgerData) → ℕ → ℕ
verdicts_begun l pieces n = lines_reached (lines_in (opening l ++ pieces)) n - 1

-- What is held is the ledger behind the first `reached` of the listed reports, from l on. So many verdicts are begun by the first n bytes of a
-- call that puts out these pieces, or one fewer; and there are no more than the pieces tell.
pub record HoldsOffers (files : Option Files) (t : TablesData) (l : LedgerData) (listed : List (List ℕ)) (pieces : List (Piece LedgerData)) (n : ℕ) (held : LedgerData → Type 0)
    : Type 0 where
  pub ledger : LedgerData
  pub is : held ledger
  pub reached : ℕ
  pub after : IsAfterOffers files t l listed reached ledger
  pub few : reached ≤ length pieces
  pub told : (reached ≡ verdicts_begun l pieces n) ⊎ (reached ≡ verdicts_begun l pieces n + 1)

-- the line that tells a fault, where the status has one
abbrev pub fault_told : LedgerStatus → List ℕ
fault_told s = concat (option_to_list (option_map fault_line (fault_text s)))

-- What a power cut left of a call that found the ledger l, put out these pieces and ended so. The display shows a front of its text. Both
-- flashes together hold l where it shows nothing, and else the ledger behind the reports whose lines the display began to show, or behind one
-- more. The frames stay.
pub record KeepsOffers (files : Option Files) (t : TablesData) (l : LedgerData) (listed : List (List ℕ)) (pieces : List (Piece LedgerData)) (answer : LedgerStatus)
    (start : Flashes) (left : Left) : Type 0 where
  pub rest : List ℕ
  pub front : text_in (opening l ++ pieces) ++ fault_told answer ≡ left.shown ++ rest
  pub before : left.shown ≡ [] → HeldByBoth (ledgers t) left.internal left.external l
  pub both : HoldsOffers files t l listed pieces (length left.shown) (HeldByBoth (ledgers t) left.internal left.external)
  pub frames : KeepFrames body_size start left

-- So it is at each stop of these operations; and from the first show on, also where nothing of its text went out, each flash alone holds so.
pub record KeepOffers (files : Option Files) (t : TablesData) (l : LedgerData) (listed : List (List ℕ)) (pieces : List (Piece LedgerData)) (answer : LedgerStatus)
    (start : Flashes) (ops : List Op) : Type 0 where
  pub both : AtEachStop (after both_synced start) ops (KeepsOffers files t l listed pieces answer start)
  pub alone : (done : List Op) → IsStop ops done → shows_in done ≢ [] → (left : Left) → IsLeft (after done (after both_synced start)) (shown_by done) left
      → HoldsOffers files t l listed pieces (length left.shown) (HeldAlone (ledgers t) left.internal)
      × HoldsOffers files t l listed pieces (length left.shown) (HeldAlone (ledgers t) left.external)

-- ---- calls, where machine and cabinet tell

-- A call of recebe ended so. Its files, which the cabinet tells, hold these tables and this list. Over these flashes it did the two
-- opening syncs, and then these operations.
pub record RecebeTraced (words : List (List ℕ)) (names : Recebe) (c d : CabinetTold) (m n : Told) (answer : LedgerStatus) (files : Files) (t : TablesData) (listed : List (List ℕ))
    (start : Flashes) (ops : List Op) : Type 0 where
  pub command : command_of words ≡ Some (ToReceive names)
  pub ends : Ends words c d m n answer
  pub cabinet : c.files ≡ Some files
  pub given : IsListed (Some files) names.tables names.list t listed
  pub traced : IsTraced m n start (both_synced ++ ops)

-- The first of the listed reports were offered over the ledger l, and at Done and where some were refused all of them. Where no port failed,
-- their text was put out whole, and perhaps the line of a fault behind it. At each stop behind the two opening syncs the offers are kept.
pub record TakesIn (files : Option Files) (t : TablesData) (l : LedgerData) (listed : List (List ℕ)) (answer : LedgerStatus) (start : Flashes) (ops : List Op) : Type 0 where
  pub unread : List (List ℕ)
  pub verdicts : List Verdict
  pub pieces : List (Piece LedgerData)
  pub last : LedgerData
  pub are : AreTakenIn files t l listed unread verdicts pieces last
  pub told : ((p : Port) → answer ≢ port_status p) → (behind : List ℕ) × (shown_by ops ≡ text_in (opening l ++ pieces) ++ behind)
  pub all : (refused : ℕ) → answer ≡ refused_status refused → unread ≡ []
  pub kept : KeepOffers files t l listed pieces answer start ops

-- However a call of recebe ends over flashes that hold the ledger l, it takes reports in, and keeps them wherever the power goes.
abbrev pub OffersAreKept : Type 0
OffersAreKept =
    (words : List (List ℕ)) (names : Recebe) (c d : CabinetTold) (m n : Told) (answer : LedgerStatus) (files : Files) (t : TablesData) (listed : List (List ℕ)) (l : LedgerData)
    (start : Flashes) (ops : List Op) → AreFound t l start → RecebeTraced words names c d m n answer files t listed start ops
    → TakesIn (Some files) t l listed answer start ops

-- The same of totais, with the tables alone.
pub record TotaisTraced (words : List (List ℕ)) (tables : List ℕ) (c d : CabinetTold) (m n : Told) (answer : LedgerStatus) (files : Files) (t : TablesData) (start : Flashes) (ops : List Op)
    : Type 0 where
  pub command : command_of words ≡ Some (ToTotal tables)
  pub ends : Ends words c d m n answer
  pub cabinet : c.files ≡ Some files
  pub given : HasTables (Some files) tables t
  pub traced : IsTraced m n start (both_synced ++ ops)

-- However a call of totais ends over flashes that hold the ledger l, whatever a power cut leaves at any stop behind the two opening syncs
-- holds l: both flashes together, and from the first show on each alone.
abbrev pub LedgerIsKept : Type 0
LedgerIsKept =
    (words : List (List ℕ)) (tables : List ℕ) (c d : CabinetTold) (m n : Told) (answer : LedgerStatus) (files : Files) (t : TablesData) (l : LedgerData) (start : Flashes) (ops : List Op)
    → AreFound t l start → TotaisTraced words tables c d m n answer files t start ops
    → AtEachStop (after both_synced start) ops (λ left. HeldByBoth (ledgers t) left.internal left.external l × KeepFrames body_size start left)
    × ((done : List Op) → IsStop ops done → shows_in done ≢ [] → (left : Left) → IsLeft (after done (after both_synced start)) (shown_by done) left
    → HeldAlone (ledgers t) left.internal l × HeldAlone (ledgers t) left.external l)

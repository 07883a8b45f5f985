-- Calls that have what they need and meet no fault: they do all their steps, or memory was wanted
use Rattle.std.specs.Prelude.{◌≡◌, ◌⊎◌, ℕ, Bool, true, false, List, Option, Some}
use Rattle.urna_outside.specs.Cabinet.{CabinetTold, Files}
use Rattle.urna_outside.specs.Flash.{Flashes}
use Rattle.urna_outside.specs.Told.{Rose, Told}
use Rattle.election_tables.specs.TablesData.{TablesData}
use Rattle.section_intake.specs.Accepted.{File}
use Rattle.section_intake.specs.declared.verdict.Verdict.{Verdict}
use Rattle.flash_store.specs.Pieces.{Piece}
use Rattle.report_lines.specs.Verdicts.{refused_count}
use Rattle.intake_ledger.specs.Kept.{AreFound, AreFree}
use Rattle.intake_ledger.specs.Ledger.{LedgerData}
use Rattle.intake_ledger.specs.Offers.{AreOfferedTo}
use Rattle.command_parts.specs.Documents.{AreTaken, HasTables, IsListed}
use Rattle.command_parts.specs.Taking.{NothingFailed}
use Rattle.ledger_commands.specs.Command.{Command, Recebe, ToBegin, ToReceive, ToTotal, command_of}
use Rattle.ledger_commands.specs.Ending.{Ends}
use Rattle.ledger_commands.specs.Recebe.{refused_status}
use Rattle.ledger_commands.specs.declared.status.LedgerStatus.{LedgerStatus}
use Rattle.ledger_commands.specs.declared.status.LedgerStatus.TheVariants as status

-- the call did all its steps, or memory was wanted
abbrev pub IsDoneOrMemory : LedgerStatus → Type 0
IsDoneOrMemory s = (s ≡ status.Done) ⊎ (s ≡ status.Memory)

-- ---- what the commands need

-- the file of this name is tables, and neither flash is in use
pub record CanBegin (name : List ℕ) (files : Option Files) (flashes : Flashes) : Type 0 where
  pub t : TablesData
  pub given : HasTables files name t
  pub free : AreFree flashes

-- the files of these names are tables and a list, each listed report is there and no longer than a report may be, and the flashes hold a
-- ledger of these tables
pub record CanReceive (names : Recebe) (files : Option Files) (flashes : Flashes) : Type 0 where
  pub t : TablesData
  pub listed : List (List ℕ)
  pub reports : List File
  pub l : LedgerData
  pub given : IsListed files names.tables names.list t listed
  pub taken : AreTaken files listed reports
  pub found : AreFound t l flashes

-- the file of this name is tables, and the flashes hold a ledger of them
pub record CanTell (name : List ℕ) (files : Option Files) (flashes : Flashes) : Type 0 where
  pub t : TablesData
  pub l : LedgerData
  pub given : HasTables files name t
  pub found : AreFound t l flashes

-- the status that the verdicts on all listed reports give, which are offered to the ledger that the flashes hold
pub record IsByOffers (names : Recebe) (files : Option Files) (flashes : Flashes) (s : LedgerStatus) : Type 0 where
  pub can : CanReceive names files flashes
  pub verdicts : List Verdict
  pub pieces : List (Piece LedgerData)
  pub last : LedgerData
  pub offered : AreOfferedTo can.t can.l can.reports verdicts pieces last
  pub is : s ≡ refused_status (refused_count verdicts)

-- ---- and then they complete

-- a command has what it needs: the cabinet tells its files and the machine its flashes, and they are as they have to be
abbrev pub CanDo : Command → Files → Flashes → Type 0
CanDo (ToBegin tables) files flashes = CanBegin tables (Some files) flashes
CanDo (ToReceive names) files flashes = CanReceive names (Some files) flashes
CanDo (ToTotal tables) files flashes = CanTell tables (Some files) flashes

-- and so it ends: of recebe the verdicts say
abbrev pub Completes : Command → Files → Flashes → LedgerStatus → Type 0
Completes (ToBegin tables) files flashes s = IsDoneOrMemory s
Completes (ToReceive names) files flashes s = IsByOffers names (Some files) flashes s ⊎ (s ≡ status.Memory)
Completes (ToTotal tables) files flashes s = IsDoneOrMemory s

-- Where the cabinet tells its files and the machine its flashes, a call of the program that has what its command needs, and in which no
-- count of faults rose, does all its steps, or memory was wanted.
abbrev pub CompletesWhereItCan : Type 0
CompletesWhereItCan = (words : List (List ℕ)) (command : Command) (c d : CabinetTold) (m n : Told) (s : LedgerStatus) (files : Files) (flashes : Flashes)
    → command_of words ≡ Some command → c.files ≡ Some files → m.flashes ≡ Some flashes → NothingFailed c d m n → Ends words c d m n s
    → CanDo command files flashes → Completes command files flashes s

-- ---- over any cabinet and machine

-- the status tells of a fault of the cabinet or of a port, of a name that was not found, or of a file found too long
abbrev pub tells_of_count : LedgerStatus → Bool
tells_of_count status.Cabinet = true
tells_of_count (status.Missing d) = true
tells_of_count (status.TooLong d) = true
tells_of_count status.InternalFlash = true
tells_of_count status.ExternalFlash = true
tells_of_count status.Display = true
tells_of_count status.Done = false
tells_of_count status.Memory = false
tells_of_count status.Usage = false
tells_of_count status.TablesNotToml = false
tells_of_count (status.TablesRule k) = false
tells_of_count (status.Line k) = false
tells_of_count (status.SomeRefused k) = false
tells_of_count (status.Foreign d) = false
tells_of_count status.NoImage = false
tells_of_count (status.Busy d) = false

-- Where no count rose in a call, also not that of names not found or of files found too long, the status tells of none.
abbrev pub TellsOfRisenCounts : Type 0
TellsOfRisenCounts = (words : List (List ℕ)) (c d : CabinetTold) (m n : Told) (s : LedgerStatus) → NothingFailed c d m n
    → ¬ Rose c.tally.missing d.tally.missing → ¬ Rose c.tally.too_long d.tally.too_long → Ends words c d m n s → tells_of_count s ≡ false

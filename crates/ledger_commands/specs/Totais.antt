-- The command totais: how it ends
use Rattle.std.specs.Prelude.{ℕ, List}
use Rattle.urna_outside.specs.Cabinet.{CabinetTold}
use Rattle.urna_outside.specs.ShownLines.{HasShown, IsCutOff}
use Rattle.urna_outside.specs.Told.{Told}
use Rattle.election_tables.specs.TablesData.{TablesData}
use Rattle.flash_store.specs.Pieces.{quiet}
use Rattle.flash_store.specs.Played.{IsSafe}
use Rattle.flash_store.specs.Syncs.{IsUntouched}
use Rattle.intake_ledger.specs.Calls.{FailsToOpen}
use Rattle.intake_ledger.specs.Kept.{ledgers}
use Rattle.intake_ledger.specs.Ledger.{LedgerData}
use Rattle.intake_ledger.specs.declared.ledger.LedgerError.{LedgerError}
use Rattle.command_parts.specs.Documents.{HasTables}
use Rattle.command_parts.specs.declared.error.Doc.TheVariants as doc
use Rattle.ledger_commands.specs.Documents.{HasTaken, IsFault}
use Rattle.ledger_commands.specs.Errors.{ledger_status}
use Rattle.ledger_commands.specs.Lines.{ledger_lines}
use Rattle.ledger_commands.specs.Opening.{IsOpened}
use Rattle.ledger_commands.specs.declared.status.LedgerStatus.{LedgerStatus}
use Rattle.ledger_commands.specs.declared.status.LedgerStatus.TheVariants as status

-- How totais ends, with the name of the tables' file, but for the line that tells a fault. Wherever the power had gone behind the two syncs,
-- both flashes would have held the ledger that was opened.
pub data TotaisEnds (name : List ℕ) (c d : CabinetTold) (m n : Told) : LedgerStatus → Type 0 where
  -- The tables are at fault, memory was wanted, or the cabinet failed: nothing is done on the machine.
  total_refused : {s : LedgerStatus} → IsFault c.files name doc.Tables s → HasTaken 1 s c d → IsUntouched m n → TotaisEnds name c d m n s
  total_no_memory : HasTaken 1 status.Memory c d → IsUntouched m n → TotaisEnds name c d m n status.Memory
  total_no_cabinet : HasTaken 1 status.Cabinet c d → IsUntouched m n → TotaisEnds name c d m n status.Cabinet
  -- No ledger was opened.
  none_opened : {t : TablesData} (e : LedgerError) → HasTables c.files name t → HasTaken 1 (ledger_status e) c d → FailsToOpen t m n e
      → TotaisEnds name c d m n (ledger_status e)
  -- Memory was wanted for the lines: nothing is shown.
  no_lines : {t : TablesData} {l : LedgerData} → HasTables c.files name t → HasTaken 1 status.Memory c d → IsOpened t l m n
      → TotaisEnds name c d m n status.Memory
  -- The display failed in the lines that tell the sums.
  totals_untold : {t : TablesData} {l : LedgerData} (between : Told) → HasTables c.files name t → HasTaken 1 status.Display c d
      → IsOpened t l m between → IsCutOff (ledger_lines t l) between n → IsSafe (ledgers t) l (quiet (ledger_lines t l)) m n → TotaisEnds name c d m n status.Display
  totals_told : {t : TablesData} {l : LedgerData} (between : Told) → HasTables c.files name t → HasTaken 1 status.Done c d
      → IsOpened t l m between → HasShown (ledger_lines t l) between n → IsSafe (ledgers t) l (quiet (ledger_lines t l)) m n → TotaisEnds name c d m n status.Done

-- The command abre: how it ends
use Rattle.std.specs.Prelude.{◌≡◌, ℕ, List, [], ◌∷◌, ◌++◌}
use Rattle.std.specs.Option.{ForSome}
use Rattle.urna_outside.specs.Cabinet.{CabinetTold}
use Rattle.urna_outside.specs.Faults.{IsFaultless}
use Rattle.urna_outside.specs.Flash.{Op}
use Rattle.urna_outside.specs.ShownLines.{HasShown, IsCutOff}
use Rattle.urna_outside.specs.Told.{Runs, Told}
use Rattle.election_tables.specs.TablesData.{TablesData}
use Rattle.gate_slot.specs.Front.{IsFrontOfSome}
use Rattle.flash_store.specs.InUse.{IsLoad}
use Rattle.flash_store.specs.Syncs.{IsUntouched, both_synced}
use Rattle.intake_ledger.specs.Body.{StandsFor}
use Rattle.intake_ledger.specs.Calls.{FailsToFormat, Loads}
use Rattle.intake_ledger.specs.Header.{header}
use Rattle.intake_ledger.specs.Kept.{AreAtRest}
use Rattle.intake_ledger.specs.Layout.{body_size}
use Rattle.intake_ledger.specs.Ledger.{empty_ledger}
use Rattle.intake_ledger.specs.declared.ledger.LedgerError.{LedgerError}
use Rattle.command_parts.specs.Documents.{HasTables}
use Rattle.command_parts.specs.declared.error.Doc.TheVariants as doc
use Rattle.ledger_commands.specs.Documents.{HasTaken, IsFault}
use Rattle.ledger_commands.specs.Errors.{ledger_status}
use Rattle.ledger_commands.specs.Opening.{ledger_line}
use Rattle.ledger_commands.specs.declared.status.LedgerStatus.{LedgerStatus}
use Rattle.ledger_commands.specs.declared.status.LedgerStatus.TheVariants as status

-- Neither flash was in use, and both are at rest with the ledger before the first report. Nothing but laying it was done.
pub record HasBegun (t : TablesData) (old new : Told) : Type 0 where
  pub ran : Runs (λ ops. (rest : List Op) × (ops ≡ both_synced ++ rest) × Loads old rest) old new
  pub order : (body : List ℕ) → StandsFor t (empty_ledger t) body → ForSome old.flashes (λ start. Runs (IsLoad body_size (header t) body start) old new)
  pub rest : ForSome new.flashes (AreAtRest t (empty_ledger t))
  pub fine : IsFaultless old new

-- It was not laid, and this is why. What was done is the first part of laying it.
pub record HasNotBegun (t : TablesData) (e : LedgerError) (old new : Told) : Type 0 where
  pub fails : FailsToFormat old new e
  pub order : (body : List ℕ) → StandsFor t (empty_ledger t) body
      → ForSome old.flashes (λ start. Runs (IsFrontOfSome (IsLoad body_size (header t) body start)) old new)

-- How abre ends, with the name of the tables' file, but for the line that tells a fault.
pub data AbreEnds (name : List ℕ) (c d : CabinetTold) (m n : Told) : LedgerStatus → Type 0 where
  -- The tables are at fault, memory was wanted, or the cabinet failed: nothing is done on the machine.
  begin_refused : {s : LedgerStatus} → IsFault c.files name doc.Tables s → HasTaken 1 s c d → IsUntouched m n → AbreEnds name c d m n s
  begin_no_memory : HasTaken 1 status.Memory c d → IsUntouched m n → AbreEnds name c d m n status.Memory
  begin_no_cabinet : HasTaken 1 status.Cabinet c d → IsUntouched m n → AbreEnds name c d m n status.Cabinet
  -- The ledger was not laid.
  not_begun : {t : TablesData} (e : LedgerError) → HasTables c.files name t → HasTaken 1 (ledger_status e) c d → HasNotBegun t e m n
      → AbreEnds name c d m n (ledger_status e)
  -- It was, and the display failed in the line that tells it.
  begun_untold : {t : TablesData} (between : Told) → HasTables c.files name t → HasTaken 1 status.Display c d → HasBegun t m between
      → IsCutOff (ledger_line 0 ∷ []) between n → AbreEnds name c d m n status.Display
  begun : {t : TablesData} (between : Told) → HasTables c.files name t → HasTaken 1 status.Done c d → HasBegun t m between
      → HasShown (ledger_line 0 ∷ []) between n → AbreEnds name c d m n status.Done

-- With which refusal a call ends
use Rattle.std.specs.Prelude.{◌≡◌, ◌⊎◌, ℕ, List, Option, Some, None}
use Rattle.urna_outside.specs.Cabinet.{CabinetTold, Files}
use Rattle.urna_outside.specs.Told.{Told}
use Rattle.command_parts.specs.declared.error.Doc.TheVariants as doc
use Rattle.ledger_commands.specs.Command.{Command, ToBegin, ToReceive, ToTotal, command_of}
use Rattle.ledger_commands.specs.Documents.{IsFault, IsFirstFault}
use Rattle.ledger_commands.specs.Ending.{Ends}
use Rattle.ledger_commands.specs.declared.status.LedgerStatus.{LedgerStatus}
use Rattle.ledger_commands.specs.declared.status.LedgerStatus.TheVariants as status

-- The words are no command, or the documents that they name, but for the reports of a list, are refused with e.
abbrev pub AreRefused : Option Command → Files → LedgerStatus → Type 0
AreRefused None files e = e ≡ status.Usage
AreRefused (Some (ToBegin tables)) files e = IsFault (Some files) tables doc.Tables e
AreRefused (Some (ToReceive names)) files e = IsFirstFault (Some files) names.tables doc.List names.list e
AreRefused (Some (ToTotal tables)) files e = IsFault (Some files) tables doc.Tables e

-- They are refused with one status at most.
abbrev pub RefusedOnce : Type 0
RefusedOnce = (command : Option Command) (files : Files) (s u : LedgerStatus) → AreRefused command files s → AreRefused command files u → s ≡ u

-- A call whose documents are refused with e ends with e, unless memory was wanted or the cabinet failed.
abbrev pub RefusedEndSo : Type 0
RefusedEndSo =
    (words : List (List ℕ)) (c d : CabinetTold) (m n : Told) (e s : LedgerStatus) (files : Files) → c.files ≡ Some files → AreRefused (command_of words) files e
    → Ends words c d m n s → (s ≡ e) ⊎ (s ≡ status.Memory) ⊎ (s ≡ status.Cabinet)

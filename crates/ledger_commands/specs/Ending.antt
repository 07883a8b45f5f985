-- How a command ends
use Rattle.std.specs.Prelude.{◌≡◌, ℕ, List, Option, Some, None}
use Rattle.urna_outside.specs.Cabinet.{CabinetTold}
use Rattle.urna_outside.specs.Told.{Told}
use Rattle.flash_store.specs.Syncs.{IsUntouched}
use Rattle.command_parts.specs.FaultLines.{Tells}
use Rattle.ledger_commands.specs.Abre.{AbreEnds}
use Rattle.ledger_commands.specs.Command.{Command, ToBegin, ToReceive, ToTotal, command_of}
use Rattle.ledger_commands.specs.Documents.{HasTaken}
use Rattle.ledger_commands.specs.Errors.{fault_text}
use Rattle.ledger_commands.specs.Recebe.{RecebeEnds}
use Rattle.ledger_commands.specs.Totais.{TotaisEnds}
use Rattle.ledger_commands.specs.declared.status.LedgerStatus.{LedgerStatus}
use Rattle.ledger_commands.specs.declared.status.LedgerStatus.TheVariants as status

-- words that are no command: no call is made
pub record NoCommandEnds (c d : CabinetTold) (m n : Told) (s : LedgerStatus) : Type 0 where
  pub usage : s ≡ status.Usage
  pub taken : HasTaken 0 s c d
  pub untouched : IsUntouched m n

-- how a command ends, but for the line that tells a fault
abbrev pub CommandEnds : Option Command → CabinetTold → CabinetTold → Told → Told → LedgerStatus → Type 0
CommandEnds None c d m n s = NoCommandEnds c d m n s
CommandEnds (Some (ToBegin tables)) c d m n s = AbreEnds tables c d m n s
CommandEnds (Some (ToReceive names)) c d m n s = RecebeEnds names c d m n s
CommandEnds (Some (ToTotal tables)) c d m n s = TotaisEnds tables c d m n s

-- How a call of the program ends, by what the cabinet and the machine told before and after: as its command, and then the line
-- that tells a fault was shown, where the status has one.
pub record Ends (words : List (List ℕ)) (c d : CabinetTold) (m n : Told) (s : LedgerStatus) : Type 0 where
  pub between : Told
  pub command : CommandEnds (command_of words) c d m between s
  pub told : Tells (fault_text s) between n

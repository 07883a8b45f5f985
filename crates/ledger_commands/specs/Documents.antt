-- The documents of a command: what is wrong with them, and what taking them leaves of what the cabinet tells, by the status
use Rattle.std.specs.Prelude.{ℕ, List, Option, IsSomeAnd, Result, Ok, Err}
use Rattle.urna_outside.specs.Cabinet.{CabinetTold, Files}
use Rattle.command_parts.specs.Documents.{IsFault as IsFaultOf, IsFirstFault as IsFirstFaultOf}
use Rattle.command_parts.specs.Taking.{HasTaken as HasTakenOf}
use Rattle.command_parts.specs.declared.error.Doc.{Doc}
use Rattle.ledger_commands.specs.Errors.{error_of}
use Rattle.ledger_commands.specs.declared.status.LedgerStatus.{LedgerStatus}
use Rattle.ledger_commands.specs.declared.status.LedgerStatus.TheVariants as status

-- the document is at fault, and this status says it
abbrev pub IsFault : Option Files → List ℕ → Doc → LedgerStatus → Type 0
IsFault files name d s = IsSomeAnd (error_of s) (IsFaultOf files name d)

-- The tables or another document of this name are at fault, and this status says it: the tables are tried first.
abbrev pub IsFirstFault : Option Files → List ℕ → Doc → List ℕ → LedgerStatus → Type 0
IsFirstFault files tables d name s = IsSomeAnd (error_of s) (IsFirstFaultOf files tables d name)

-- At most so many calls were made, after which the answer was this status. The files are as they were.
abbrev pub HasTaken : ℕ → LedgerStatus → CabinetTold → CabinetTold → Type 0
HasTaken most s old new = HasTakenOf most (error_of s) old new

-- what a step's answer is as a status
abbrev pub status_in : {T : Type 0} → Result T LedgerStatus → LedgerStatus
status_in (Ok x) = status.Done
status_in (Err s) = s

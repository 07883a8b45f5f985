-- The numbers of the statuses (docs/FORMATS.md, "Commands of the ledger")
use Rattle.std.specs.Prelude.{ℕ}
use Rattle.ledger_commands.specs.declared.status.LedgerStatus.{LedgerStatus}
use Rattle.ledger_commands.specs.declared.status.LedgerStatus.TheVariants as status

-- the number with which the program ends
abbrev pub code_of : LedgerStatus → ℕ
code_of status.Done = 0
code_of status.Memory = 1
code_of status.Usage = 2
code_of status.TablesNotToml = 3
code_of (status.TablesRule k) = 3
code_of (status.Line k) = 4
code_of (status.TooLong d) = 5
code_of (status.SomeRefused k) = 6
code_of (status.Missing d) = 12
code_of status.Cabinet = 20
code_of status.InternalFlash = 21
code_of status.ExternalFlash = 22
code_of status.Display = 23
code_of (status.Foreign d) = 30
code_of status.NoImage = 31
code_of (status.Busy d) = 32

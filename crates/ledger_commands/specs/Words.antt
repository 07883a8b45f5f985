-- What a command of the code stands for
use Rattle.ledger_commands.specs.Command.{Command, ToBegin, ToReceive, ToTotal}
use Rattle.ledger_commands.specs.declared.command.Command as declared
use Rattle.ledger_commands.specs.declared.command.Command.TheVariants as code

-- the command that is meant, with the names of its files
abbrev pub meant : declared.Command → Command
meant (code.Abre tables) = ToBegin tables.now
meant (code.Recebe n) = ToReceive (record { tables = n.tables.now; list = n.list.now })
meant (code.Totais tables) = ToTotal tables.now

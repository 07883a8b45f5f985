use Rattle.ledger_commands.proofs.Statuses.{listed_of_ledger}
use Rattle.ledger_commands.proofs.documents.take_tables_and_list.Goals as goal

pub refused-requires : goal.refused-requires
refused-requires g c = listed_of_ledger _ c.args.tables.now c.args.list.now c.in-Err.error c.in-Err.ensures.fault

use Rattle.ledger_commands.proofs.Statuses.{taken_of_ledger}
use Rattle.ledger_commands.proofs.documents.take.Goals as goal

pub refused-requires : goal.refused-requires
refused-requires g c = taken_of_ledger _ c.args.name.now g.D.Document.doc c.in-Err.error c.requires c.in-Err.ensures.fault

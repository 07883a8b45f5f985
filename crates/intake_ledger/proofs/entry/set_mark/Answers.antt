use Rattle.std.proofs.Common.{arith}
use Rattle.intake_ledger.proofs.Keeping.{mark_other, mark_there}
use Rattle.intake_ledger.proofs.entry.set_mark.Goals as goal

pub returns-clause-marked : goal.returns-clause-marked
returns-clause-marked c = mark_there c.args.into.now c.args.place (omega arith)

pub returns-clause-others : goal.returns-clause-others
returns-clause-others c = mark_other c.args.into.now c.args.place (omega arith)

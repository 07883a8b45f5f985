use Rattle.intake_ledger.proofs.Agreeing.{ledger_is_intake}
use Rattle.intake_ledger.proofs.laws.intake.Goals as goal

pub returns : goal.returns
returns c = ledger_is_intake

use Rattle.intake_ledger.proofs.Telling.{tell_ledger}
use Rattle.intake_ledger.proofs.laws.totals.Goals as goal

pub returns : goal.returns
returns c = tell_ledger

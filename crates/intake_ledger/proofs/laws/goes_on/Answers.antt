use Rattle.intake_ledger.proofs.Going.{offers_go_on, opening_goes_on}
use Rattle.intake_ledger.proofs.laws.goes_on.Goals as goal

pub returns : goal.returns
returns c = record { opening = opening_goes_on; offers = offers_go_on }

use Rattle.contingency.proofs.Going.{replacement_goes_on}
use Rattle.contingency.proofs.Spare.{spare_is_found}
use Rattle.contingency.proofs.laws.goes_on.Goals as goal

pub returns : goal.returns
returns c = record { stopped = replacement_goes_on; spare = spare_is_found }

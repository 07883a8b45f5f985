use Rattle.intake_ledger.proofs.Found.{held_is_decoded, one_is_held, rest_is_found}
use Rattle.intake_ledger.proofs.laws.one_ledger.Goals as goal

pub returns : goal.returns
returns c = record { one = one_is_held; decoded = held_is_decoded; rest = rest_is_found }

use Rattle.seat_remainders.proofs.OneOutcome.{outcome_is, only_outcome, no_quotient_at_zero, over_beyond_all}
use Rattle.seat_remainders.proofs.laws.outcomes.Goals as goal

pub returns-clause-some : goal.returns-clause-some
returns-clause-some _ = outcome_is

pub returns-clause-one : goal.returns-clause-one
returns-clause-one _ = only_outcome

pub returns-clause-no_quotient : goal.returns-clause-no_quotient
returns-clause-no_quotient _ = no_quotient_at_zero

pub returns-clause-over : goal.returns-clause-over
returns-clause-over _ = over_beyond_all

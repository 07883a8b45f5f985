use Rattle.seat_remainders.proofs.Eligible.{eligible_below}
use Rattle.seat_remainders.proofs.laws.eligible.Goals as goal

pub returns : goal.returns
returns _ = eligible_below

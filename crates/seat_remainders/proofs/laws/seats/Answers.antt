use Rattle.seat_remainders.proofs.Filled.{add_up, filled}
use Rattle.seat_remainders.proofs.FirstPhase.{over_below_half}
use Rattle.seat_remainders.proofs.laws.seats.Goals as goal

pub returns-clause-add_up : goal.returns-clause-add_up
returns-clause-add_up _ = add_up

pub returns-clause-filled : goal.returns-clause-filled
returns-clause-filled _ = filled

pub returns-clause-over : goal.returns-clause-over
returns-clause-over _ = over_below_half

use Rattle.seat_remainders.proofs.Majorities.{nobody_only, nobody_then, runoff_only, runoff_then}
use Rattle.seat_remainders.proofs.laws.majorities.Goals as goal

pub returns-clause-nobody : goal.returns-clause-nobody
returns-clause-nobody _ = λ entries absolute. (nobody_only entries absolute, nobody_then entries absolute)

pub returns-clause-runoff : goal.returns-clause-runoff
returns-clause-runoff _ = λ entries. ((λ (x, y, is). runoff_only entries x y is), (λ h. runoff_then entries h.0 h.1))

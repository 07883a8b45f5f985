use Rattle.station.proofs.Stands.{stands_run}
use Rattle.station.proofs.laws.stands_for.Goals as goal

pub returns : goal.returns
returns c = λ v s x es out h. stands_run h

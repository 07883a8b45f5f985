use Rattle.station.proofs.Casting.{run_fims}
use Rattle.station.proofs.laws.fims_and_ballots.Goals as goal

pub returns : goal.returns
returns c = λ t titles s last es out roll run. run_fims t titles roll run

use Rattle.station.proofs.OneVote.{ballots_once}
use Rattle.station.proofs.laws.one_vote_each.Goals as goal

pub returns : goal.returns
returns c = λ t titles s last es out is run. ballots_once t titles is run

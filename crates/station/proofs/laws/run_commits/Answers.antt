use Rattle.station.proofs.Casting.{run_last, pieces_commit}
use Rattle.station.proofs.RunLaws.{run_history, run_states}
use Rattle.station.proofs.laws.run_commits.Goals as goal

pub returns : goal.returns
returns c = record {
  history = λ v s last es out roll run. run_history roll run;
  commits = pieces_commit;
  last = λ t titles s last es out roll run. run_last t titles roll run;
  valid = λ t titles s last es out of events run. run_states t titles of events run;
}

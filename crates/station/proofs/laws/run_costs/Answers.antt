use Rattle.state_store.specs.Cost.{ballot_bytes}
use Rattle.station.specs.Output.{commits_of}
use Rattle.station.proofs.Costs.{costs_together, history_costs}
use Rattle.station.proofs.RunLaws.{run_history, run_states}
use Rattle.station.proofs.laws.run_costs.Goals as goal

pub returns-clause-each : goal.returns-clause-each
returns-clause-each _ t titles s last es out tables few of events run =
    history_costs t titles tables few of (run_states t titles of events run).0 (run_history of.roll run)

pub returns-clause-together : goal.returns-clause-together
returns-clause-together c t titles s last es out tables few of events run =
    costs_together t (ballot_bytes t) s (commits_of out) (history_costs t titles tables few of (run_states t titles of events run).0 (run_history of.roll run))

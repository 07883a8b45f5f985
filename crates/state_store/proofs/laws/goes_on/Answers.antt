use Rattle.state_store.proofs.Going.{end_goes_on, recovery_goes_on, session_goes_on}
use Rattle.state_store.proofs.Loaded.{rest_is_found}
use Rattle.state_store.proofs.laws.goes_on.Goals as goal

pub returns : goal.returns
returns c = record {
  session = session_goes_on;
  recovery = recovery_goes_on;
  ended = end_goes_on;
  rest = rest_is_found;
}

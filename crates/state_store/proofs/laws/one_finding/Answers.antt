use Rattle.state_store.proofs.Going.{foreign_once, loaded_once, loaded_or_foreign}
use Rattle.state_store.proofs.laws.one_finding.Goals as goal

pub returns : goal.returns
returns c = record { loaded = loaded_once; either = loaded_or_foreign; foreign = foreign_once }

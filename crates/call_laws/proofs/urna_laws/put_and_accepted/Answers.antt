use Rattle.call_laws.proofs.Accepting.{emitted_is_accepted, voted_is_accepted}
use Rattle.call_laws.proofs.urna_laws.put_and_accepted.Goals as goal

pub returns : goal.returns
returns c = record { voted = voted_is_accepted; emitted = emitted_is_accepted }

use Rattle.call_laws.proofs.Agreeing.{emitted_agree, sealed_agree, voted_agree}
use Rattle.call_laws.proofs.urna_laws.recounts.Goals as goal

pub returns : goal.returns
returns c = record { sealed = sealed_agree; voted = voted_agree; emitted = emitted_agree }

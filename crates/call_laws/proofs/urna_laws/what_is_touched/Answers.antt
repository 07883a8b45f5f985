use Rattle.call_laws.proofs.Touching.{each_touches_at_most}
use Rattle.call_laws.proofs.urna_laws.what_is_touched.Goals as goal

pub returns : goal.returns
returns c = each_touches_at_most

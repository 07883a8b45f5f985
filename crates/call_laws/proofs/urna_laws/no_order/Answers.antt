use Rattle.call_laws.proofs.AtRest.{same_at_rest, same_in_any_order}
use Rattle.call_laws.proofs.urna_laws.no_order.Goals as goal

pub returns : goal.returns
returns c = record { states = same_at_rest c.order.ensures.votes; sessions = same_in_any_order c.order.ensures.votes }

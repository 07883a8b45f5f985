use Rattle.image_codec.proofs.Valid.{ready_valid}
use Rattle.image_codec.proofs.state.State.ready.Goals as goal

pub invariant_of-result : goal.invariant_of-result
invariant_of-result c = ready_valid c.args.tables.now c.args.voters _ _ c.in_ok-turnout.ensures c.in_ok-votes.ensures

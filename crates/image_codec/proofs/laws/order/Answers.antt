use Rattle.std.proofs.Common.{ap}
use Rattle.image_codec.specs.Encoding.{encode, encode1}
use Rattle.image_codec.proofs.AnyOrder.{in_any_order}
use Rattle.image_codec.proofs.Parts.{known_by_votes}
use Rattle.image_codec.proofs.laws.order.Goals as goal

pub returns-clause-order : goal.returns-clause-order
returns-clause-order _ = λ t lines s ballots others same.
    let one = in_any_order lines s ballots others same in
    (ap (encode t) one, ap encode1 one)

pub returns-clause-votes : goal.returns-clause-votes
returns-clause-votes _ = known_by_votes

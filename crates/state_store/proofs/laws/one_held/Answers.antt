use Rattle.image_codec.specs.Decoded.{decoded}
use Rattle.state_store.specs.Held.{poll}
use Rattle.flash_store.proofs.Holding.{one_held}
use Rattle.state_store.proofs.Decodes.{held_decoded}
use Rattle.state_store.proofs.Stored.{reads}
use Rattle.state_store.proofs.laws.one_held.Goals as goal

pub returns : goal.returns
returns c = record {
  decoded = held_decoded;
  one = λ t voters bodies s u tables few. one_held (poll t voters) (decoded t voters) (reads t voters tables few) bodies s u;
}

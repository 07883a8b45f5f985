use Rattle.std.proofs.Common.{refl}
use Rattle.twin_image.specs.Frame.{padding}
use Rattle.twin_image.proofs.lay.zeros.Goals as goal

pub returns : goal.returns
unfolding padding
returns c = refl

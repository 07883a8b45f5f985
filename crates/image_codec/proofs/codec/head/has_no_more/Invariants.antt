use Rattle.std.proofs.Common.{◌≡◌}
use Rattle.image_codec.specs.DecodedHead.{has_no_more}
use Rattle.image_codec.proofs.codec.head.has_no_more.Given as goal

abbrev pub invariant-loop-place : goal.invariant-loop-place
invariant-loop-place l = has_no_more l.place l.field ≡ has_no_more l.voters l.field

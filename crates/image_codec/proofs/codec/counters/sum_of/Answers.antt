use Rattle.std.proofs.Common.{arith}
use Rattle.image_codec.proofs.CountParts.{sum_more, sum_none}
use Rattle.image_codec.proofs.codec.counters.sum_of.Goals as goal

pub loop-k-init : goal.loop-k-init
loop-k-init c = record { added = omega (arith, sum_none c.args.bytes.now); small = omega arith }

pub loop-k-preserved : goal.loop-k-preserved
loop-k-preserved c = record {
  added = omega (arith, sum_more c.loop-k.k c.args.bytes.now, c.number4_at.ensures, c.from-sum.ensures, c.loop-k.invariant.added);
  small = omega (arith, c.number4_at.type_inv, c.from-sum.ensures, c.loop-k.invariant.small);
}

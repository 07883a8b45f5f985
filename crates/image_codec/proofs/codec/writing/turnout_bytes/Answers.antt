use Rattle.std.proofs.Common.{◌∙◌, arith}
use Rattle.std.proofs.Math.ListN.{length-set}
use Rattle.image_codec.proofs.Bits.{marks_all, marks_put}
use Rattle.image_codec.proofs.codec.writing.turnout_bytes.Goals as goal

pub loop-k-preserved : goal.loop-k-preserved
loop-k-preserved c =
    let bytes = c.loop-k.bytes in
    record {
      whole = length-set bytes c.loop-k.k c.eight_places.result ∙ c.loop-k.invariant.whole;
      marks = marks_put c.args.turnout.now bytes c.loop-k.k c.eight_places.result (omega (arith, c.loop-k.invariant.whole)) c.eight_places.ensures c.loop-k.invariant.marks;
    }

pub returns : goal.returns
returns c = marks_all c.args.turnout.now c.loop-k.bytes c.loop-k.invariant.whole (λ i lt. c.loop-k.invariant.marks i (omega arith))

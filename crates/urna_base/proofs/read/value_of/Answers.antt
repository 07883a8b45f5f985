use Rattle.std.proofs.Common.{arith}
use Rattle.urna_base.proofs.DigitLaws.{is_digit-from, ReadsDigits-more, ReadsDigits-fits}
use Rattle.urna_base.proofs.read.value_of.Goals as goal

pub overflow_mul-value : goal.overflow_mul-value
overflow_mul-value c =
    let digit = is_digit-from _ c.if-not-is_ascii_digit.ensures.cases.0 c.if-not-is_ascii_digit.ensures.cases.1 in
    omega (arith, ReadsDigits-fits c.args.bytes.now c.loop-byte.byte-index c.loop-byte.value c.loop-byte.invariant digit (omega arith))

pub overflow_add-value : goal.overflow_add-value
overflow_add-value c =
    let digit = is_digit-from _ c.if-not-is_ascii_digit.ensures.cases.0 c.if-not-is_ascii_digit.ensures.cases.1 in
    omega (arith, ReadsDigits-fits c.args.bytes.now c.loop-byte.byte-index c.loop-byte.value c.loop-byte.invariant digit (omega arith))

pub loop-byte-preserved : goal.loop-byte-preserved
loop-byte-preserved c =
    let digit = is_digit-from _ c.if-not-is_ascii_digit.ensures.cases.0 c.if-not-is_ascii_digit.ensures.cases.1 in
    rw c.from.ensures (ReadsDigits-more c.args.bytes.now c.loop-byte.byte-index c.loop-byte.value c.loop-byte.invariant digit (omega arith) (omega arith))

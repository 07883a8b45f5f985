use Rattle.urna_base.proofs.DigitLaws.{ReadsDigits}
use Rattle.urna_base.proofs.read.value_of.Given as goal

-- the bytes so far are digits, and `value` is theirs
abbrev pub invariant-loop-byte : goal.invariant-loop-byte
invariant-loop-byte l = ReadsDigits l.bytes l.byte-index l.value

use Rattle.std.proofs.Common.{◌≡◌, ◌+◌, length, IfSome}
use Rattle.urna_base.specs.Words.{pieces, pieces_left}
use Rattle.hash_chain.proofs.make.count_parts.Given as goal
use Rattle.hash_chain.specs.Cut.{cut}
use Rattle.hash_chain.specs.Fault.{AreFields}

-- so many parts were counted, and these are left
abbrev pub invariant-loop-rest : goal.invariant-loop-rest
invariant-loop-rest l =
    (l.count + length (cut (pieces_left l.rest)) ≡ length (cut (pieces l.fields))) × IfSome l.rest (λ t. AreFields (pieces t.now))

abbrev pub decreases-loop-rest : goal.decreases-loop-rest
decreases-loop-rest l = length (cut (pieces_left l.rest))

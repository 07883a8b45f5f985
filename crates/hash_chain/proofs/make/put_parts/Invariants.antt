use Rattle.std.proofs.Common.{◌≡◌, ◌+◌, ◌++◌, [], length, IfSome}
use Rattle.std.specs.Prelude.{string_bytes}
use Rattle.urna_base.specs.Words.{pieces, pieces_left}
use Rattle.hash_chain.proofs.make.put_parts.Given as goal
use Rattle.hash_chain.specs.Chain.{links_from, links_text}
use Rattle.hash_chain.specs.Cut.{cut}
use Rattle.hash_chain.specs.Fault.{AreFields}

-- with the lines of the parts that are left, all lines stand there
abbrev pub invariant-loop-rest : goal.invariant-loop-rest
invariant-loop-rest l =
    (l.out.items ++ links_text (links_from l.parts l.number (string_bytes l.hash) (cut (pieces_left l.rest)))
    ≡ l.fn.out.items ++ links_text (links_from l.parts 1 [] (cut (pieces l.fields))))
    × (l.number + length (cut (pieces_left l.rest)) ≡ l.parts + 1)
    × IfSome l.rest (λ t. AreFields (pieces t.now))

abbrev pub decreases-loop-rest : goal.decreases-loop-rest
decreases-loop-rest l = length (cut (pieces_left l.rest))

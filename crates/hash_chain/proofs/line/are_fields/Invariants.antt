use Rattle.std.proofs.Common.{◌≡◌, length}
use Rattle.std.specs.List.{list_all}
use Rattle.urna_base.specs.Words.{pieces, pieces_left}
use Rattle.hash_chain.proofs.line.are_fields.Given as goal
use Rattle.hash_chain.specs.Lines.{is_field}

-- all are fields if those that are left are
abbrev pub invariant-loop-rest : goal.invariant-loop-rest
invariant-loop-rest l = list_all is_field (pieces l.text) ≡ list_all is_field (pieces_left l.rest)

abbrev pub decreases-loop-rest : goal.decreases-loop-rest
decreases-loop-rest l = length (pieces_left l.rest)

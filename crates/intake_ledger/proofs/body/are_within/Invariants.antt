use Rattle.std.proofs.Common.{◌≡◌}
use Rattle.intake_ledger.specs.Body.{all_from, is_within}
use Rattle.intake_ledger.proofs.body.are_within.Given as goal

abbrev pub invariant-loop-place : goal.invariant-loop-place
invariant-loop-place l = all_from (is_within l.number l.bytes) l.place l.sums ≡ all_from (is_within l.number l.bytes) 0 l.sums

use Rattle.std.proofs.Common.{◌≡◌}
use Rattle.intake_ledger.specs.Body.{no_more_marks}
use Rattle.intake_ledger.proofs.body.no_more_marks.Given as goal

abbrev pub invariant-loop-place : goal.invariant-loop-place
invariant-loop-place l = no_more_marks l.place l.bytes ≡ no_more_marks l.sections l.bytes

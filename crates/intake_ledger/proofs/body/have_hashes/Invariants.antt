use Rattle.std.proofs.Common.{◌≡◌}
use Rattle.intake_ledger.specs.Body.{all_from, has_hash, have_hashes}
use Rattle.intake_ledger.specs.Layout.{marked_sections}
use Rattle.intake_ledger.proofs.body.have_hashes.Given as goal

abbrev pub invariant-loop-place : goal.invariant-loop-place
invariant-loop-place l = all_from (has_hash l.bytes) l.place marked_sections ≡ have_hashes l.bytes

use Rattle.std.proofs.Common.{◌≡◌, ◌≤◌}
use Rattle.rehearsal_run.specs.Lines.{suspended_among}
use Rattle.rehearsal_run.proofs.lines.suspended_among.Given as goal

abbrev pub invariant-loop-place : goal.invariant-loop-place
invariant-loop-place l = (l.count ≡ suspended_among l.place) × (l.count ≤ l.place)

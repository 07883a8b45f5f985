use Rattle.std.proofs.Common.{◌≡◌, ◌≤◌}
use Rattle.turnout.specs.Turnout.{number_came}
use Rattle.image_codec.specs.DecodedHead.{marks_in}
use Rattle.image_codec.proofs.codec.head.count_marks.Given as goal

abbrev pub invariant-loop-place : goal.invariant-loop-place
invariant-loop-place l = record { counted : l.count ≡ number_came (marks_in l.place l.field); few : l.count ≤ l.place }

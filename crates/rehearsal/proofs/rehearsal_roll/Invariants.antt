use Rattle.std.proofs.Common.{◌≡◌}
use Rattle.rehearsal.specs.Roll.{roll_text}
use Rattle.rehearsal.proofs.rehearsal_roll.Given as goal

abbrev pub invariant-loop-place : goal.invariant-loop-place
invariant-loop-place l = l.text.items ≡ roll_text l.place

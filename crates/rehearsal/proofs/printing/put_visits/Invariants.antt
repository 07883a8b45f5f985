use Rattle.std.proofs.Common.{◌≡◌, ◌++◌}
use Rattle.rehearsal.specs.Script.{text_of_script, visits}
use Rattle.rehearsal.proofs.printing.put_visits.Given as goal

abbrev pub invariant-loop-place : goal.invariant-loop-place
invariant-loop-place l = l.text.items ≡ l.fn.text.items ++ text_of_script (visits l.place)

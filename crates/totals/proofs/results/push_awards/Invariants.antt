use Rattle.std.proofs.Common.{◌≡◌, ◌++◌, take}
use Rattle.totals.specs.Lines.{award_lines}
use Rattle.totals.proofs.results.push_awards.Given as goal

abbrev pub invariant-loop-i : goal.invariant-loop-i
invariant-loop-i l = l.lines.items ≡ l.fn.lines.items ++ award_lines l.tables 1 (take l.i l.awards)

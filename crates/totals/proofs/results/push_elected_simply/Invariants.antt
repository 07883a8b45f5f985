use Rattle.std.proofs.Common.{◌≡◌, ◌++◌, codes, map, take}
use Rattle.urna_base.specs.Lines.{number_line}
use Rattle.totals.proofs.results.push_elected_simply.Given as goal

abbrev pub invariant-loop-i : goal.invariant-loop-i
invariant-loop-i l = l.lines.items ≡ l.fn.lines.items ++ map (number_line (codes "ELEITO ")) (take l.i l.elected)

use Rattle.std.proofs.Common.{◌≡◌, ◌++◌, map, take}
use Rattle.totals.specs.Lines.{bloc_line}
use Rattle.totals.proofs.results.push_blocs.Given as goal

abbrev pub invariant-loop-i : goal.invariant-loop-i
invariant-loop-i l = l.lines.items ≡ l.fn.lines.items ++ map (bloc_line l.tables) (take l.i l.blocs)

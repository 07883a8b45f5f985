use Rattle.std.proofs.Common.{◌≡◌, ◌+◌, ◌++◌, map, length, Some}
use Rattle.urna_base.specs.Lines.{lines_of}
use Rattle.election_tables.specs.Roll.{titles_on, bad_line}
use Rattle.election_tables.proofs.RollLines.{bad_from}
use Rattle.election_tables.proofs.roll.read_titles.Given as goal

abbrev pub invariant-loop-line : goal.invariant-loop-line
invariant-loop-line l =
    (titles_on (lines_of l.text) ≡ map Some l.titles.items ++ titles_on (lines_of l.rest))
    × (bad_line (titles_on (lines_of l.text)) ≡ bad_from (length l.titles.items + 1) l.before (titles_on (lines_of l.rest)))

abbrev pub decreases-loop-line : goal.decreases-loop-line
decreases-loop-line l = length l.rest

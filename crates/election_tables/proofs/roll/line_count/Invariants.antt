use Rattle.std.proofs.Common.{◌≡◌, ◌+◌, ◌≤◌, length}
use Rattle.urna_base.specs.Lines.{lines_of}
use Rattle.election_tables.proofs.roll.line_count.Given as goal

abbrev pub invariant-loop-after : goal.invariant-loop-after
invariant-loop-after l = (l.count + length (lines_of l.rest) ≡ length (lines_of l.text)) × (l.count + length l.rest ≤ length l.text)

abbrev pub decreases-loop-after : goal.decreases-loop-after
decreases-loop-after l = length l.rest

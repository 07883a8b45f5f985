use Rattle.std.proofs.Common.{◌≡◌, ◌+◌, ◌≤◌, length}
use Rattle.std.specs.List.{position_from}
use Rattle.urna_base.specs.Lines.{lines_of}
use Rattle.key_script.specs.Script.{is_bad, first_bad}
use Rattle.key_script.proofs.text.first_bad_line.Given as goal

-- the lines so far are of the form, and `number` is that of the next one
abbrev pub invariant-loop-line : goal.invariant-loop-line
invariant-loop-line l =
    record {
      place : position_from is_bad l.number (lines_of l.rest) ≡ first_bad l.text;
      few : l.number + length l.rest ≤ length l.text + 1;
    }

abbrev pub decreases-loop-line : goal.decreases-loop-line
decreases-loop-line l = length l.rest

use Rattle.std.proofs.Common.{◌≡◌, ◌+◌, ◌++◌, length}
use Rattle.urna_base.specs.Lines.{lines_of}
use Rattle.key_script.specs.Names.{first_bad_name}
use Rattle.key_script.specs.Starts.{starts_of}
use Rattle.key_script.proofs.NameLaws.{fault_behind}
use Rattle.key_script.proofs.StartLaws.{size_of}
use Rattle.key_script.proofs.names.line_starts.Given as goal

-- the lines so far are names, and their starts are noted; the next line begins at `start`
abbrev pub invariant-loop-line : goal.invariant-loop-line
invariant-loop-line l =
    record {
      starts : l.starts.items ++ starts_of l.start (lines_of l.rest) ≡ starts_of 0 (lines_of l.text);
      fault : fault_behind (length l.starts.items) (lines_of l.rest) ≡ first_bad_name l.text;
      size : l.start + size_of (lines_of l.rest) ≡ size_of (lines_of l.text);
    }

abbrev pub decreases-loop-line : goal.decreases-loop-line
decreases-loop-line l = length l.rest

use Rattle.std.proofs.Common.{take}
use Rattle.urna_outside.specs.ShownLines.{HasShown}
use Rattle.command_parts.proofs.lines.show_lines.Given as goal

-- the first lines were shown
abbrev pub invariant-loop-line : goal.invariant-loop-line
invariant-loop-line g l = HasShown (take l.line-index l.lines) (g.M.Machine.told l.fn.machine) (g.M.Machine.told l.machine)

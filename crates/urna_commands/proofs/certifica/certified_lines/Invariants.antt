use Rattle.std.proofs.Common.{◌≡◌, map, take}
use Rattle.urna_commands.specs.Certifica.{substitute_line}
use Rattle.urna_commands.proofs.certifica.certified_lines.Given as goal

-- the first substitutes have their lines
abbrev pub invariant-loop-i : goal.invariant-loop-i
invariant-loop-i l = l.lines.items ≡ map substitute_line (take l.i l.substitutes)

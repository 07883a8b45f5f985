use Rattle.std.proofs.Common.{◌≡◌, ◌+◌, ◌*◌, ◌≤◌, ◌++◌, length, take}
use Rattle.std.specs.Prelude.{codes}
use Rattle.rehearsal_run.specs.Lines.{elected_words}
use Rattle.rehearsal_run.proofs.LineLaws.{seats_in}
use Rattle.rehearsal_run.proofs.lines.elected_line.Given as goal

abbrev pub invariant-loop-i : goal.invariant-loop-i
invariant-loop-i l =
    (l.line ≡ codes "CARGO 13 ELEITOS" ++ elected_words (take l.i l.seats.parties)) × (length l.line ≤ 16 + 6 * seats_in (take l.i l.seats.parties))

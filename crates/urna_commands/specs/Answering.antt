-- A result line, and the status that it gives
use Rattle.std.specs.Prelude.{ℕ, List, [], ◌∷◌}
use Rattle.urna_outside.specs.ShownLines.{HasShown, IsCutOff}
use Rattle.urna_outside.specs.Told.{Told}
use Rattle.urna_commands.specs.declared.status.Status.{Status}
use Rattle.urna_commands.specs.declared.status.Status.TheVariants as status

-- The line was shown, and the status is the one that it gives; or the display failed in the line.
pub data Answers (line : List ℕ) (given : Status) (m n : Told) : Status → Type 0 where
  answered : HasShown (line ∷ []) m n → Answers line given m n given
  cut_short : IsCutOff (line ∷ []) m n → Answers line given m n status.Display

use Rattle.urna_outside.proofs.ShowingLines.{cut_front, shows_lines}
use Rattle.urna_outside.proofs.show.lines_show_their_text.Goals as goal

pub returns : goal.returns
returns c = record { whole = shows_lines; cut = cut_front }

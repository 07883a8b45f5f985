use Rattle.key_script.proofs.SpellingLaws as spelling
use Rattle.key_script.proofs.laws.lines_are_spelled.Goals as goal

pub returns : goal.returns
returns c = spelling.lines_are_spelled

use Rattle.voter_term.proofs.PanelWords.{reads_key}
use Rattle.voter_term.proofs.laws.word_after_key.Goals as goal

pub returns : goal.returns
returns c = reads_key

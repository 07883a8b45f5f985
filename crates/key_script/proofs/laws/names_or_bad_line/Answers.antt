use Rattle.key_script.proofs.NameLaws.{names_or_bad}
use Rattle.key_script.proofs.laws.names_or_bad_line.Goals as goal

pub returns : goal.returns
returns c = names_or_bad

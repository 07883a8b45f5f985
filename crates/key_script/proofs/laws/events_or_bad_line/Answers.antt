use Rattle.key_script.proofs.ScriptLaws.{events_or_bad}
use Rattle.key_script.proofs.laws.events_or_bad_line.Goals as goal

pub returns : goal.returns
returns c = events_or_bad

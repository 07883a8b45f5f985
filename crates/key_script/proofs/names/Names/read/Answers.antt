use Rattle.key_script.proofs.NameLaws.{names_of-lines}
use Rattle.key_script.proofs.names.Names.read.Goals as goal

pub returns-clause-names : goal.returns-clause-names
returns-clause-names c = names_of-lines c.args.bytes.items (rw (← c.deref.ensures.value) c.in_ok-starts.ensures.names)

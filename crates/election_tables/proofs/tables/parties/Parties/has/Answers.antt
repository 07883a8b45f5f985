use Rattle.std.proofs.Common.{◌∙◌}
use Rattle.election_tables.proofs.Blocs.{named_party}
use Rattle.election_tables.proofs.tables.parties.Parties.has.Goals as goal

pub returns : goal.returns
returns c = c.is_some.ensures ∙ named_party c.args.self.now c.args.number c.name_of.result c.name_of.ensures

use Rattle.std.proofs.Common.{◌==◌}
use Rattle.election_tables.proofs.Named.{found_name, short_name, parties_named}
use Rattle.election_tables.proofs.tables.Tables.party_name.Goals as goal

pub returns-clause-printable : goal.returns-clause-printable
returns-clause-printable c =
    found_name (λ q. q.name) (λ q. q.number == c.args.number) c.self.inside.parties (parties_named c.self.inside.parties c.self.invariant.parties)
    c.name_of.result c.name_of.ensures

pub returns-clause-short : goal.returns-clause-short
returns-clause-short c = short_name c.name_of.result (returns-clause-printable c)

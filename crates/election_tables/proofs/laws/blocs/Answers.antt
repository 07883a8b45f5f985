use Rattle.election_tables.proofs.Blocs.{blocs_are_federations, bloc_is_lowest, bloc_is_party, federation_is_told}
use Rattle.election_tables.proofs.laws.blocs.Goals as goal

pub returns-clause-federations : goal.returns-clause-federations
returns-clause-federations c = blocs_are_federations

pub returns-clause-lowest : goal.returns-clause-lowest
returns-clause-lowest c = bloc_is_lowest

pub returns-clause-party : goal.returns-clause-party
returns-clause-party c = bloc_is_party

pub returns-clause-told : goal.returns-clause-told
returns-clause-told c = federation_is_told

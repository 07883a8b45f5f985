use Rattle.totals.proofs.BlocLaws.{each_party_has_one_bloc, without_federations}
use Rattle.totals.proofs.laws.blocs.Goals as goal

pub returns : goal.returns
returns c = record { one = each_party_has_one_bloc; parties = without_federations }

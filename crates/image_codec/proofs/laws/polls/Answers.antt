use Rattle.image_codec.proofs.Counting.{no_other_votes}
use Rattle.image_codec.proofs.OfTables.{panels_of, votes_of, of_tables-ready_state, of_tables-opened_at, of_tables-with_ballot, of_tables-sealed_at}
use Rattle.image_codec.proofs.laws.polls.Goals as goal

pub returns-clause-bags : goal.returns-clause-bags
returns-clause-bags _ = panels_of

pub returns-clause-full : goal.returns-clause-full
returns-clause-full _ = votes_of

pub returns-clause-no_other : goal.returns-clause-no_other
returns-clause-no_other _ = no_other_votes

pub returns-clause-ready : goal.returns-clause-ready
returns-clause-ready _ = of_tables-ready_state

pub returns-clause-opening : goal.returns-clause-opening
returns-clause-opening _ = of_tables-opened_at

pub returns-clause-ballot : goal.returns-clause-ballot
returns-clause-ballot _ = of_tables-with_ballot

pub returns-clause-sealing : goal.returns-clause-sealing
returns-clause-sealing _ = of_tables-sealed_at

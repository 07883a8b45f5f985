use Rattle.election_tables.proofs.PlacesOfPanels.{two_for_senator}
use Rattle.election_tables.proofs.laws.two_for_senator_alone.Goals as goal

pub returns : goal.returns
returns c = two_for_senator

use Rattle.call_laws.proofs.PutFiles.{both_are_there}
use Rattle.call_laws.proofs.urna_laws.both_files.Goals as goal

pub returns : goal.returns
returns _ = both_are_there

use Rattle.call_laws.proofs.PutFiles.{six_are_there}
use Rattle.call_laws.proofs.urna_laws.six_files.Goals as goal

pub returns : goal.returns
returns _ = six_are_there

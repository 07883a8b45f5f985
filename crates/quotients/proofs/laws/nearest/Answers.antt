use Rattle.quotients.proofs.Nearest.{is_nearest, only_nearest}
use Rattle.quotients.proofs.laws.nearest.Goals as goal

pub returns-clause-nearest : goal.returns-clause-nearest
returns-clause-nearest _ = is_nearest

pub returns-clause-only : goal.returns-clause-only
returns-clause-only _ = only_nearest

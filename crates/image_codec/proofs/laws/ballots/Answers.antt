use Rattle.image_codec.proofs.Counting.{counts_each_line}
use Rattle.image_codec.proofs.Ballots.{with_votes-swap}
use Rattle.image_codec.proofs.Steps.{rank-opened_at, rank-with_ballot, rank-sealed_at}
use Rattle.image_codec.proofs.laws.ballots.Goals as goal

pub returns-clause-counted : goal.returns-clause-counted
returns-clause-counted _ = counts_each_line

pub returns-clause-either_order : goal.returns-clause-either_order
returns-clause-either_order _ = with_votes-swap

pub returns-clause-opening : goal.returns-clause-opening
returns-clause-opening _ = rank-opened_at

pub returns-clause-ballot : goal.returns-clause-ballot
returns-clause-ballot _ = rank-with_ballot

pub returns-clause-sealing : goal.returns-clause-sealing
returns-clause-sealing _ = rank-sealed_at

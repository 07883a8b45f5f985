use Rattle.vote_record.proofs.Votes.{starts_with_votes, keeps_to_votes, keeps_to_many_votes}
use Rattle.vote_record.proofs.laws.records.Goals as goal

pub returns-clause-starts : goal.returns-clause-starts
returns-clause-starts _ = starts_with_votes

pub returns-clause-keeps : goal.returns-clause-keeps
returns-clause-keeps _ = keeps_to_votes

pub returns-clause-keeps_many : goal.returns-clause-keeps_many
returns-clause-keeps_many _ = keeps_to_many_votes

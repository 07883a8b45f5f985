use Rattle.vote_record.proofs.StoredCounters.{votes_read}
use Rattle.vote_record.proofs.counters.votes_at.Goals as goal

pub returns-then-stands_at-clause-votes : goal.returns-then-stands_at-clause-votes
returns-then-stands_at-clause-votes c = votes_read c.args.choice c.args.counters.now c.args.place _ c.requires (cc)

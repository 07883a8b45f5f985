use Rattle.vote_record.proofs.StoredCounters.{stands-place}
use Rattle.vote_record.proofs.counters.place_near.Goals as goal

pub returns-then-stands_at : goal.returns-then-stands_at
returns-then-stands_at c = stands-place c.args.choice c.args.counters.now c.args.near c.requires (cc)

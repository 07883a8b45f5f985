use Rattle.hash_chain.proofs.Feeds.{first_is}
use Rattle.hash_chain.proofs.join.first_feed.Goals as goal

pub returns : goal.returns
returns c = first_is _ c.args.bytes.now c.memchr.result c.memchr.ensures

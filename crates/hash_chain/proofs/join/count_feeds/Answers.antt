use Rattle.std.proofs.Common.{length, ap, arith}
use Rattle.hash_chain.proofs.Places.{count_rows}
use Rattle.hash_chain.proofs.join.count_feeds.Goals as goal

pub returns : goal.returns
returns c = omega (arith, c.loop-row.invariant.count, ap length c.in_default.ensures.row, count_rows c.args.bytes.now)

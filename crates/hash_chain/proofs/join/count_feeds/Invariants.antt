use Rattle.std.proofs.Common.{◌≡◌, ◌+◌, ◌≤◌, length}
use Rattle.hash_chain.proofs.join.count_feeds.Given as goal
use Rattle.hash_chain.specs.Lines.{rows}

-- the rows before the rest were counted
abbrev pub invariant-loop-row : goal.invariant-loop-row
invariant-loop-row l = record {
  count : l.feeds + length (rows l.rest) ≡ length (rows l.bytes);
  few : l.feeds + length l.rest ≤ length l.bytes;
}

abbrev pub decreases-loop-row : goal.decreases-loop-row
decreases-loop-row l = length l.rest

use Rattle.std.proofs.Common.{◌≡◌, ◌<◌, length, drop, slice_get}
use Rattle.vote_record.specs.BagData.{members_of}
use Rattle.vote_record.proofs.counters.member.Given as goal

abbrev pub invariant-loop-counter : goal.invariant-loop-counter
invariant-loop-counter l = record {
  same : slice_get (members_of (drop l.counter-index l.counters)) l.left ≡ slice_get (members_of l.counters) l.i;
  within : l.left < length (members_of (drop l.counter-index l.counters));
}

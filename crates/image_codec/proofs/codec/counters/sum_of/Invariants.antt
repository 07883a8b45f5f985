use Rattle.std.proofs.Common.{◌≡◌, ◌≤◌, ◌*◌}
use Rattle.std.specs.List.{sum}
use Rattle.image_codec.specs.Numbers.{counters_in}
use Rattle.image_codec.proofs.codec.counters.sum_of.Given as goal

abbrev pub invariant-loop-k : goal.invariant-loop-k
invariant-loop-k l = record {
  added : l.sum ≡ sum (counters_in l.k l.bytes);
  small : l.sum ≤ 4294967295 * l.k;
}

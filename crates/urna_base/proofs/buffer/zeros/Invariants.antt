use Rattle.std.proofs.Common.{◌≡◌, replicate, vec_capacity}
use Rattle.urna_base.proofs.buffer.zeros.Given as goal

abbrev pub invariant-loop : goal.invariant-loop
invariant-loop l = record {
  bytes : l.bytes.items ≡ replicate l.counter 0;
  room : vec_capacity l.bytes ≡ l.count;
}

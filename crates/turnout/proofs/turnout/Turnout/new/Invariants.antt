use Rattle.std.proofs.Common.{◌≡◌, false, replicate, vec_capacity}
use Rattle.turnout.proofs.turnout.Turnout.new.Given as goal

abbrev pub invariant-loop : goal.invariant-loop
invariant-loop l = record {
  marks : l.marks.items ≡ replicate l.counter false;
  room : vec_capacity l.marks ≡ l.voters;
}

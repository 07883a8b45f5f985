use Rattle.std.proofs.Common.{◌≡◌, None, replicate, vec_capacity}
use Rattle.section_intake.proofs.intake.no_holders.Given as goal

abbrev pub invariant-loop : goal.invariant-loop
invariant-loop l = record {
  none : l.holders.items ≡ replicate l.counter None;
  room : vec_capacity l.holders ≡ l.sections;
}

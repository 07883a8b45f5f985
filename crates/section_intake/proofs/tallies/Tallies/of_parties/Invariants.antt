use Rattle.std.proofs.Common.{◌≡◌, map, take, vec_capacity}
use Rattle.section_intake.specs.Kept.{tallies_of}
use Rattle.section_intake.proofs.tallies.Tallies.of_parties.Given as goal

abbrev pub invariant-loop-i : goal.invariant-loop-i
invariant-loop-i l = record {
  numbers : l.items.items ≡ tallies_of (λ n. 0) (take l.i (map (λ q. q.number) l.tables.parties));
  room : vec_capacity l.items ≡ l.count;
}

use Rattle.std.proofs.Common.{◌≡◌, ◌-◌, ◌≤◌, ◌^◌, ◌++◌, length}
use Rattle.seat_remainders.specs.Parties.{nominal_votes}
use Rattle.totals.specs.Simple.{elected_simply}
use Rattle.totals.proofs.SimpleRule.{HaveOwnNumbers}
use Rattle.totals.proofs.simple_rule.elected_simply.Given as goal

-- who was elected so far, and of those that are left whom it elects to the other seats
abbrev pub invariant-loop : goal.invariant-loop
invariant-loop l = record {
  elected : elected_simply l.seats l.fn.candidates ≡ l.elected ++ elected_simply (l.seats - l.counter) l.left;
  own : HaveOwnNumbers l.left;
  votes : nominal_votes l.left ≤ 10 ^ 12;
  few : length l.elected ≤ l.counter;
}

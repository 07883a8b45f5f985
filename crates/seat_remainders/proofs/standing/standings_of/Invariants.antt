use Rattle.std.proofs.Common.{◌≡◌, ◌≤◌, length, take}
use Rattle.seat_remainders.specs.Standing.{standings_of}
use Rattle.seat_remainders.proofs.standing.standings_of.Given as goal

-- what is counted of the parties so far, which are few
abbrev pub invariant-loop-party : goal.invariant-loop-party
invariant-loop-party l =
    record {
      counted : l.standings.items ≡ standings_of l.qe (take l.party-index l.party-items);
      count : length l.standings.items ≡ l.party-index;
      places : l.party-index ≤ 256;
    }

use Rattle.std.proofs.Common.{◌≡◌, ◌≤◌, drop, length}
use Rattle.seat_remainders.specs.Candidates.{in_order}
use Rattle.seat_remainders.specs.Leading.{leaders_of}
use Rattle.seat_remainders.proofs.majority_rule.find_leaders.Given as goal

-- the first two of those from this place on
abbrev pub invariant-loop-left : goal.invariant-loop-left
invariant-loop-left l =
    record {
      within : l.left ≤ length l.entries;
      leaders : l.leaders ≡ leaders_of (in_order (drop l.left l.entries));
    }

abbrev pub decreases-loop-left : goal.decreases-loop-left
decreases-loop-left l = l.left

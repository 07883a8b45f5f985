use Rattle.std.proofs.Common.{◌≡◌, ◌++◌, take}
use Rattle.seat_remainders.specs.Table.{awards_for}
use Rattle.seat_remainders.proofs.awards.push_awards.Given as goal

-- the awards for the averages so far
abbrev pub invariant-loop-i : goal.invariant-loop-i
invariant-loop-i l = l.awards ≡ l.fn.awards ++ awards_for l.phase (take l.i l.averages)

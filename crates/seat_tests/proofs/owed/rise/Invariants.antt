use Rattle.std.proofs.Common.{◌+◌, ◌<◌, ℕ, get_or}
use Rattle.seat_remainders.specs.declared.contest.Contestant.{Contestant}
use Rattle.seat_tests.proofs.owed.rise.Given as goal

-- each of the parties so far has a lower number than the next
abbrev pub invariant-loop-i : goal.invariant-loop-i
invariant-loop-i l = (k : ℕ) (d : Contestant) → k + 1 < l.i → (get_or l.parties k d).number < (get_or l.parties (k + 1) d).number

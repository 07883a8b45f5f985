use Rattle.std.proofs.Common.{◌≡◌, ◌+◌, ◌==◌, take, count_by}
use Rattle.seat_remainders.proofs.standing.seats_after.Given as goal

-- the seats after the awards so far
abbrev pub invariant-loop-award : goal.invariant-loop-award
invariant-loop-award l = l.seats ≡ l.standing.first + count_by (λ w. w.party == l.standing.party) (take l.award-index l.awards)

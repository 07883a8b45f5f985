-- Whom the simple rule elects where an office has one seat or more
use Rattle.std.specs.Prelude.{ℕ, nat_lt, List, filter, map, take}
use Rattle.seat_remainders.specs.Candidates.{in_order}
use Rattle.seat_remainders.specs.declared.contest.Entry.{Entry}

-- whom the simple rule elects to so many seats: the first so many in the order of candidates, of those who have a vote
abbrev pub elected_simply : ℕ → List Entry → List ℕ
elected_simply seats candidates = map (λ c. c.number) (take seats (filter (λ c. nat_lt 0 c.votes) (in_order candidates)))

-- The votes of a contest and its first phase (arts. 106 to 108)
use Rattle.std.specs.Prelude.{ℕ, ◌+◌, min, List, sum_by, count_by}
use Rattle.quotients.specs.Quotients.{electoral_quotient, party_quotient, has_tenth}
use Rattle.seat_remainders.specs.declared.contest.Entry.{Entry}
use Rattle.seat_remainders.specs.declared.contest.Contestant.{Contestant}
use Rattle.seat_remainders.specs.declared.contest.Contest.{Contest}

-- the nominal votes of candidates
abbrev pub nominal_votes : List Entry → ℕ
nominal_votes candidates = sum_by (λ c. c.votes) candidates

-- the valid votes of a party: its party votes and its nominal votes
abbrev pub votes_of : Contestant → ℕ
votes_of p = p.party_votes + nominal_votes p.candidates

-- the valid votes of all parties
abbrev pub valid_votes : List Contestant → ℕ
valid_votes parties = sum_by votes_of parties

-- art. 106: the electoral quotient of a contest
abbrev pub quotient_of : Contest → ℕ
quotient_of contest = electoral_quotient (valid_votes contest.parties) contest.seats

-- art. 108: how many candidates of a party have at least 10% of the quotient
abbrev pub able_of : ℕ → Contestant → ℕ
able_of qe p = count_by (λ c. has_tenth c.votes qe) p.candidates

-- arts. 107 and 108: the seats of a party in the first phase, its quotient, but no more than it has candidates with the minimum
abbrev pub first_seats : ℕ → Contestant → ℕ
first_seats qe p = min (party_quotient (votes_of p) qe) (able_of qe p)

-- the seats of all parties in the first phase
abbrev pub first_phase : ℕ → List Contestant → ℕ
first_phase qe parties = sum_by (first_seats qe) parties

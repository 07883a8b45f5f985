-- What comes of a contest (arts. 106 to 110)
use Rattle.std.specs.Prelude.{◌≡◌, ℕ, ◌-◌, ◌≤◌, ◌<◌, Bool, true, false, List, map, take, flat_map}
use Rattle.quotients.specs.Quotients.{party_quotient}
use Rattle.seat_remainders.specs.declared.contest.Contestant.{Contestant}
use Rattle.seat_remainders.specs.declared.contest.Contest.{Contest}
use Rattle.seat_remainders.specs.declared.outcome.Award.{Award}
use Rattle.seat_remainders.specs.declared.outcome.PartySeats.{PartySeats}
use Rattle.seat_remainders.specs.declared.outcome.Seats.{Seats as SeatsData}
use Rattle.seat_remainders.specs.declared.outcome.Outcome.{Outcome}
use Rattle.seat_remainders.specs.declared.outcome.Outcome.TheVariants as outcome
use Rattle.seat_remainders.specs.Candidates.{in_order}
use Rattle.seat_remainders.specs.Parties.{votes_of, valid_votes, quotient_of, first_phase}
use Rattle.seat_remainders.specs.Rounds.{seats_after, AreRounds}
use Rattle.seat_remainders.specs.Table.{AreAverages}

-- what a party has after the awards
abbrev pub party_seats : ℕ → List Award → Contestant → PartySeats
party_seats qe awards p = record { number = p.number; votes = votes_of p; quotient = party_quotient (votes_of p) qe; seats = seats_after qe awards p }

-- art. 109, paragraph 1: the elected of a party are its first candidates in their order, as many as it has seats
abbrev pub elected_of : ℕ → List Award → Contestant → List ℕ
elected_of qe awards p = map (λ c. c.number) (take (seats_after qe awards p) (in_order p.candidates))

-- the elected of all parties, party by party
abbrev pub elected_by : ℕ → List Award → List Contestant → List ℕ
elected_by qe awards parties = flat_map (elected_of qe awards) parties

-- seats are given: the first phase has room, the rounds give the seats that it leaves, and these are told by party and by candidate, with the averages behind them
pub record AreSeats (contest : Contest) (s : SeatsData) : Type 0 where
  pub quotient : s.quotient ≡ quotient_of contest
  pub some : 1 ≤ s.quotient
  pub within : first_phase s.quotient contest.parties ≤ contest.seats
  pub rounds : AreRounds s.quotient contest.parties (contest.seats - first_phase s.quotient contest.parties) s.awards s.vacant
  pub parties : s.parties ≡ map (party_seats s.quotient s.awards) contest.parties
  pub elected : s.elected ≡ elected_by s.quotient s.awards contest.parties
  pub averages : AreAverages contest s.averages

-- there is no quotient: it is 0, with so many valid votes for so many seats
pub record HasNoQuotient (contest : Contest) (valid seats : ℕ) : Type 0 where
  pub none : quotient_of contest ≡ 0
  pub votes_told : valid ≡ valid_votes contest.parties
  pub seats_told : seats ≡ contest.seats

-- the first phase comes to more seats than there are
pub record IsOver (contest : Contest) (first seats : ℕ) : Type 0 where
  pub some : 1 ≤ quotient_of contest
  pub over : contest.seats < first_phase (quotient_of contest) contest.parties
  pub first_told : first ≡ first_phase (quotient_of contest) contest.parties
  pub seats_told : seats ≡ contest.seats

-- what comes of a contest
abbrev pub IsOutcome : Contest → Outcome → Type 0
IsOutcome contest (outcome.Seats s) = AreSeats contest s
IsOutcome contest (outcome.NoQuotient valid seats) = HasNoQuotient contest valid seats
IsOutcome contest (outcome.Over first seats) = IsOver contest first seats

-- the outcome is that there is no quotient
abbrev pub is_without_quotient : Outcome → Bool
is_without_quotient (outcome.Seats s) = false
is_without_quotient (outcome.NoQuotient valid seats) = true
is_without_quotient (outcome.Over first seats) = false

-- the outcome is that the first phase comes to more seats than there are
abbrev pub is_over : Outcome → Bool
is_over (outcome.Seats s) = false
is_over (outcome.NoQuotient valid seats) = false
is_over (outcome.Over first seats) = true

-- Worked rows of what comes of a contest, and of the majority rules
use Rattle.std.proofs.Common.{◌≡◌, ℕ, ◌+◌, ◌*◌, true, false, List, [], ◌∷◌, refl}
use Rattle.quotients.specs.Average.{AverageData}
use Rattle.seat_remainders.specs.declared.contest.Entry.{Entry}
use Rattle.seat_remainders.specs.declared.contest.Contestant.{Contestant}
use Rattle.seat_remainders.specs.declared.contest.Contest.{Contest}
use Rattle.seat_remainders.specs.declared.outcome.Award.{Award}
use Rattle.seat_remainders.specs.declared.outcome.PartySeats.{PartySeats}
use Rattle.seat_remainders.specs.declared.outcome.Outcome.TheVariants as outcome
use Rattle.seat_remainders.specs.declared.outcome.MajorityOutcome.TheVariants.{Elected, Runoff, Nobody}
use Rattle.seat_remainders.specs.Computed.{outcome_of}
use Rattle.seat_remainders.specs.Majority.{majority_outcome}

-- candidates of one day of birth with these votes, numbered on from a number
abbrev candidates : ℕ → List ℕ → List Entry
candidates number [] = []
candidates number (v ∷ votes) = (record { number = number; birth = 19600101; votes = v }) ∷ candidates (number + 1) votes

abbrev party : ℕ → ℕ → List ℕ → Contestant
party number party_votes votes = record { number = number; party_votes = party_votes; candidates = candidates (number * 1000 + 1) votes }

abbrev contest : ℕ → List Contestant → Contest
contest seats parties = record { seats = seats; parties = parties }

abbrev award : ℕ → ℕ → Award
award phase p = record { phase = phase; party = p }

abbrev average : ℕ → ℕ → ℕ → AverageData
average votes divisor p = record { votes = votes; divisor = divisor; party = p }

abbrev has : ℕ → ℕ → ℕ → ℕ → PartySeats
has number votes quotient seats = record { number = number; votes = votes; quotient = quotient; seats = seats }

-- two rounds; party 12 has less than 80% of the quotient
abbrev four_parties : Contest
four_parties = contest 5 (party 10 0 (300 ∷ 100 ∷ 100 ∷ []) ∷ party 11 0 (200 ∷ 100 ∷ []) ∷ party 12 0 (150 ∷ []) ∷ party 13 0 (50 ∷ []) ∷ [])

two_awards : outcome_of four_parties ≡ outcome.Seats (record {
  quotient = 200;
  parties = has 10 500 2 3 ∷ has 11 300 1 2 ∷ has 12 150 0 0 ∷ has 13 50 0 0 ∷ [];
  awards = award 2 10 ∷ award 2 11 ∷ [];
  elected = 10001 ∷ 10002 ∷ 10003 ∷ 11001 ∷ 11002 ∷ [];
  vacant = 0;
  averages = average 500 3 10 ∷ average 300 2 11 ∷ [];
})
two_awards = refl

-- equal averages: the party with more votes
equal_averages : outcome_of (contest 4 (party 10 0 (100 ∷ 100 ∷ 100 ∷ []) ∷ party 11 0 (100 ∷ 100 ∷ []) ∷ [])) ≡ outcome.Seats (record {
  quotient = 125;
  parties = has 10 300 2 3 ∷ has 11 200 1 1 ∷ [];
  awards = award 2 10 ∷ [];
  elected = 10001 ∷ 10002 ∷ 10003 ∷ 11001 ∷ [];
  vacant = 0;
  averages = average 300 3 10 ∷ average 200 2 11 ∷ [];
})
equal_averages = refl

-- equal averages and votes: the party with the lower number
one_seat_each : outcome_of (contest 5 (party 10 0 (100 ∷ 100 ∷ 100 ∷ []) ∷ party 11 0 (90 ∷ 90 ∷ []) ∷ party 12 0 (90 ∷ 90 ∷ []) ∷ party 13 0 (85 ∷ 85 ∷ []) ∷ party 14 0 (85 ∷ 85 ∷ []) ∷ [])) ≡ outcome.Seats (record {
  quotient = 200;
  parties = has 10 300 1 1 ∷ has 11 180 0 1 ∷ has 12 180 0 1 ∷ has 13 170 0 1 ∷ has 14 170 0 1 ∷ [];
  awards = award 2 11 ∷ award 2 12 ∷ award 2 13 ∷ award 2 14 ∷ [];
  elected = 10001 ∷ 11001 ∷ 12001 ∷ 13001 ∷ 14001 ∷ [];
  vacant = 0;
  averages = average 180 1 11 ∷ average 180 1 12 ∷ average 170 1 13 ∷ average 170 1 14 ∷ average 300 2 10 ∷ average 300 3 10 ∷ average 180 2 11 ∷ average 180 2 12 ∷ average 170 2 13 ∷ average 170 2 14 ∷ [];
})
one_seat_each = refl

-- the quotient is 1
more_than_all_seats : outcome_of (contest 10 (party 10 0 (1 ∷ 1 ∷ 1 ∷ 1 ∷ 1 ∷ 1 ∷ 1 ∷ 1 ∷ 1 ∷ 1 ∷ 1 ∷ 1 ∷ 1 ∷ 1 ∷ 1 ∷ []) ∷ [])) ≡ outcome.Over 15 10
more_than_all_seats = refl

-- 0.3 votes for a seat
no_quotient : outcome_of (contest 10 (party 10 3 [] ∷ [])) ≡ outcome.NoQuotient 3 10
no_quotient = refl

-- party 11 has less than 80% of the quotient
third_phase : outcome_of (contest 2 (party 10 0 (61 ∷ []) ∷ party 11 0 (39 ∷ []) ∷ [])) ≡ outcome.Seats (record {
  quotient = 50;
  parties = has 10 61 1 1 ∷ has 11 39 0 1 ∷ [];
  awards = award 3 11 ∷ [];
  elected = 10001 ∷ 11001 ∷ [];
  vacant = 0;
  averages = [];
})
third_phase = refl

-- each party has one candidate
nobody_left : outcome_of (contest 3 (party 10 0 (61 ∷ []) ∷ party 11 0 (39 ∷ []) ∷ [])) ≡ outcome.Seats (record {
  quotient = 33;
  parties = has 10 61 1 1 ∷ has 11 39 1 1 ∷ [];
  awards = [];
  elected = 10001 ∷ 11001 ∷ [];
  vacant = 1;
  averages = [];
})
nobody_left = refl

-- the candidate of party 10 has less than 10% of the quotient, and takes a seat of the third phase
below_the_minimum : outcome_of (contest 4 (party 10 195 (5 ∷ []) ∷ party 11 0 (150 ∷ 50 ∷ []) ∷ [])) ≡ outcome.Seats (record {
  quotient = 100;
  parties = has 10 200 2 1 ∷ has 11 200 2 2 ∷ [];
  awards = award 3 10 ∷ [];
  elected = 10001 ∷ 11001 ∷ 11002 ∷ [];
  vacant = 1;
  averages = [];
})
below_the_minimum = refl

absolute_majority : majority_outcome (candidates 1 (51 ∷ 30 ∷ 19 ∷ [])) true ≡ Elected 1
absolute_majority = refl

half_is_not_more : majority_outcome (candidates 1 (50 ∷ 30 ∷ 20 ∷ [])) true ≡ Runoff 1 2
half_is_not_more = refl

the_older_wins : majority_outcome ((record { number = 1; birth = 19700101; votes = 40 }) ∷ (record { number = 2; birth = 19600101; votes = 40 }) ∷ []) false ≡ Elected 2
the_older_wins = refl

nobody_without_votes : majority_outcome (candidates 1 (0 ∷ 0 ∷ [])) false ≡ Nobody
nobody_without_votes = refl

nobody_at_all : majority_outcome [] true ≡ Nobody
nobody_at_all = refl

-- a federation of 20 and 30 beside party 10
abbrev with_federation : Contest
with_federation = contest 3 (party 10 0 (60 ∷ 20 ∷ []) ∷ (record { number = 20; party_votes = 0; candidates = (record { number = 20001; birth = 19600101; votes = 35 }) ∷ (record { number = 30001; birth = 19600101; votes = 40 }) ∷ (record { number = 30002; birth = 19600101; votes = 25 }) ∷ [] }) ∷ [])

federation_as_one : outcome_of with_federation ≡ outcome.Seats (record {
  quotient = 60;
  parties = has 10 80 1 1 ∷ has 20 100 1 2 ∷ [];
  awards = award 2 20 ∷ [];
  elected = 10001 ∷ 30001 ∷ 20001 ∷ [];
  vacant = 0;
  averages = average 100 2 20 ∷ average 80 2 10 ∷ [];
})
federation_as_one = refl

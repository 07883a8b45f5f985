-- The same law as a computation, for worked rows: the law `outcomes` says that it gives the one outcome that there is.
use Rattle.std.specs.Prelude.{ℕ, zero, suc, ◌-◌, nat_lt, if◌then◌else◌, List, [], ◌∷◌, ◌++◌, length, map, Option, None, Some}
use Rattle.quotients.specs.Average.{AverageData, comes_before}
use Rattle.seat_remainders.specs.declared.contest.Contestant.{Contestant}
use Rattle.seat_remainders.specs.declared.contest.Contest.{Contest}
use Rattle.seat_remainders.specs.declared.outcome.Award.{Award}
use Rattle.seat_remainders.specs.declared.outcome.Seats.{Seats as SeatsData}
use Rattle.seat_remainders.specs.declared.outcome.Outcome.{Outcome}
use Rattle.seat_remainders.specs.declared.outcome.Outcome.TheVariants as outcome
use Rattle.seat_remainders.specs.Parties.{valid_votes, quotient_of, first_phase}
use Rattle.seat_remainders.specs.Rounds.{is_eligible, next_phase, beats}
use Rattle.seat_remainders.specs.Table.{entries_of, limit_of}
use Rattle.seat_remainders.specs.Outcome.{party_seats, elected_by}

-- of a party and another, where there is one, that which is not beaten
abbrev pub better_of : ℕ → List Award → Contestant → Option Contestant → Contestant
better_of qe before p None = p
better_of qe before p (Some q) = if beats qe before q p then q else p

-- the eligible party that no other eligible one beats, where one is eligible
abbrev pub winner : ℕ → List Award → ℕ → List Contestant → Option Contestant
winner qe before phase [] = None
winner qe before phase (p ∷ parties) = if is_eligible qe before phase p then Some (better_of qe before p (winner qe before phase parties)) else winner qe before phase parties

-- the award to a party, where there is one
abbrev pub award_to : ℕ → Option Contestant → List Award
award_to phase None = []
award_to phase (Some p) = (record { phase = phase; party = p.number }) ∷ []

-- the award of the round after these, if there is one
abbrev pub next_award : ℕ → List Contestant → List Award → List Award
next_award qe parties before = award_to (next_phase qe before parties) (winner qe before (next_phase qe before parties) parties)

-- the awards of so many rounds, or of those until nobody is left
abbrev pub awards_over : ℕ → List Contestant → ℕ → List Award
awards_over qe parties zero = []
awards_over qe parties (suc rounds) = let before = awards_over qe parties rounds in before ++ next_award qe parties before

-- averages in order, with one more in its place, where it isn't there
abbrev pub with_average : AverageData → List AverageData → List AverageData
with_average a [] = a ∷ []
with_average a (b ∷ averages) = if comes_before a b then a ∷ b ∷ averages else if comes_before b a then b ∷ with_average a averages else b ∷ averages

-- averages in their order
abbrev pub averages_in_order : List AverageData → List AverageData
averages_in_order [] = []
averages_in_order (a ∷ averages) = with_average a (averages_in_order averages)

-- those of a contest with this quotient
abbrev pub averages_with : Contest → ℕ → List AverageData
averages_with contest qe = averages_in_order (entries_of qe [] (limit_of qe 2 [] (contest.seats - first_phase qe contest.parties)) contest.parties)

-- the seats after these awards
abbrev pub seats_with : Contest → ℕ → List Award → SeatsData
seats_with contest qe awards = record {
  quotient = qe;
  parties = map (party_seats qe awards) contest.parties;
  awards = awards;
  elected = elected_by qe awards contest.parties;
  vacant = contest.seats - first_phase qe contest.parties - length awards;
  averages = averages_with contest qe;
}

-- what comes of a contest with this quotient
abbrev pub outcome_with : Contest → ℕ → Outcome
outcome_with contest zero = outcome.NoQuotient (valid_votes contest.parties) contest.seats
outcome_with contest (suc n) =
    let first = first_phase (suc n) contest.parties in
    if nat_lt contest.seats first then outcome.Over first contest.seats else outcome.Seats (seats_with contest (suc n) (awards_over (suc n) contest.parties (contest.seats - first)))

-- what comes of a contest
abbrev pub outcome_of : Contest → Outcome
outcome_of contest = outcome_with contest (quotient_of contest)

-- The seats of a phase from one sorted table of averages (art. 109). The law `tables` says that its front is the rounds.
use Rattle.std.specs.Prelude.{◌≡◌, ℕ, zero, suc, ◌+◌, ◌-◌, ◌≤◌, ◌<◌, min, true, nat_le, ◌==◌, if◌then◌else◌, List, [], ◌∷◌, ◌++◌, length, map, take, count_by, flat_map}
use Rattle.std.specs.List.{AllByRecursion, Contains}
use Rattle.quotients.specs.Quotients.{has_fifth, has_four_fifths}
use Rattle.quotients.specs.Average.{AverageData, comes_before}
use Rattle.seat_remainders.specs.declared.contest.Contestant.{Contestant}
use Rattle.seat_remainders.specs.declared.contest.Contest.{Contest}
use Rattle.seat_remainders.specs.declared.outcome.Award.{Award}
use Rattle.seat_remainders.specs.Parties.{votes_of, quotient_of, first_phase}
use Rattle.seat_remainders.specs.Rounds.{seats_after}

-- how many candidates of a party have at least 20% of the quotient
abbrev pub fifths_of : ℕ → Contestant → ℕ
fifths_of qe p = count_by (λ c. has_fifth c.votes qe) p.candidates

-- how many seats a party can have at most by phase 2: one for each candidate with 20% of the quotient, if it has 80% of it
abbrev pub most_in_two : ℕ → Contestant → ℕ
most_in_two qe p = if has_four_fifths (votes_of p) qe then fifths_of qe p else 0

-- and by phase 3: one for each candidate, if it has a vote
abbrev pub most_in_three : Contestant → ℕ
most_in_three p = if nat_le 1 (votes_of p) then length p.candidates else 0

-- and by a phase, which is 2 or 3
abbrev pub most_seats : ℕ → ℕ → Contestant → ℕ
most_seats qe phase p = if phase == 2 then most_in_two qe p else most_in_three p

-- the greatest divisor of a party in a phase that so many seats remain for: no more than it can have seats, and no more of its averages than seats remain
abbrev pub limit_of : ℕ → ℕ → List Award → ℕ → Contestant → ℕ
limit_of qe phase before left p = min (most_seats qe phase p) (seats_after qe before p + left)

-- the average of a party over a divisor
abbrev pub average_over : Contestant → ℕ → AverageData
average_over p divisor = record { votes = votes_of p; divisor = divisor; party = p.number }

-- an average of the table: that of a party over its seats so far plus one, or over more, up to the party's limit
pub record IsEntry (qe : ℕ) (parties : List Contestant) (before : List Award) (limit : Contestant → ℕ) (a : AverageData) : Type 0 where
  pub party : Contestant
  pub stands : Contains parties party
  pub is : a ≡ average_over party a.divisor
  pub above : seats_after qe before party < a.divisor
  pub within : a.divisor ≤ limit party

-- each average comes before all that are behind it
abbrev pub AveragesInOrder : List AverageData → Type 0
AveragesInOrder [] = Unit {0}
AveragesInOrder (a ∷ averages) = AllByRecursion (λ b. comes_before a b ≡ true) averages × AveragesInOrder averages

-- exactly these averages, in order
pub record IsTable (qe : ℕ) (parties : List Contestant) (before : List Award) (limit : Contestant → ℕ) (averages : List AverageData) : Type 0 where
  pub ordered : AveragesInOrder averages
  pub only : (a : AverageData) → Contains averages a → IsEntry qe parties before limit a
  pub all : (a : AverageData) → IsEntry qe parties before limit a → Contains averages a

-- the seats that the first phase leaves
abbrev pub seats_left : Contest → ℕ
seats_left contest = contest.seats - first_phase (quotient_of contest) contest.parties

-- the averages of a contest: the table of phase 2 for the seats that the first phase leaves
abbrev pub AreAverages : Contest → List AverageData → Type 0
AreAverages contest averages = IsTable (quotient_of contest) contest.parties [] (limit_of (quotient_of contest) 2 [] (seats_left contest)) averages

-- the awards of a phase that averages stand for
abbrev pub awards_for : ℕ → List AverageData → List Award
awards_for phase averages = map (λ a. record { phase = phase; party = a.party }) averages

-- the awards for so many seats: the averages of the table of phase 2 from the front, and where it ends before the seats do, those of a table of phase 3
abbrev pub awards_of : ℕ → List AverageData → List AverageData → List Award
awards_of left two three = let before = awards_for 2 (take left two) in before ++ awards_for 3 (take (left - length before) three)

-- the averages of a party over so many divisors from this one on
abbrev pub averages_from : Contestant → ℕ → ℕ → List AverageData
averages_from p divisor zero = []
averages_from p divisor (suc n) = average_over p divisor ∷ averages_from p (divisor + 1) n

-- those of a party in the table
abbrev pub entries_for : ℕ → List Award → (Contestant → ℕ) → Contestant → List AverageData
entries_for qe before limit p = averages_from p (seats_after qe before p + 1) (limit p - seats_after qe before p)

-- and those of all parties, party by party
abbrev pub entries_of : ℕ → List Award → (Contestant → ℕ) → List Contestant → List AverageData
entries_of qe before limit parties = flat_map (entries_for qe before limit) parties

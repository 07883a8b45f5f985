-- What is so of all contests, and of all candidates
use Rattle.std.specs.Prelude.{◌≡◌, ◌↔◌, ℕ, Bool, true, false, ◌+◌, ◌-◌, ◌/◌, ◌≤◌, ◌<◌, List, [], ◌∷◌, ◌++◌, length, take, sum_by, nat_lt}
use Rattle.std.specs.List.{AllByRecursion}
use Rattle.std.specs.List.Sorted.{IsPermutation}
use Rattle.seat_remainders.specs.declared.contest.Entry.{Entry}
use Rattle.seat_remainders.specs.declared.contest.Contestant.{Contestant}
use Rattle.seat_remainders.specs.declared.contest.Contest.{Contest}
use Rattle.seat_remainders.specs.declared.outcome.Award.{Award}
use Rattle.seat_remainders.specs.declared.outcome.Outcome.{Outcome}
use Rattle.seat_remainders.specs.declared.outcome.Seats.{Seats as SeatsData}
use Rattle.seat_remainders.specs.declared.outcome.MajorityOutcome.TheVariants.{Runoff, Nobody}
use Rattle.seat_remainders.specs.Candidates.{in_order, AreInOrder}
use Rattle.seat_remainders.specs.Contest.{PartiesRise}
use Rattle.seat_remainders.specs.Parties.{nominal_votes, quotient_of, first_phase}
use Rattle.quotients.specs.Average.{AverageData}
use Rattle.seat_remainders.specs.Table.{AreAverages, IsTable, awards_for, awards_of, limit_of, most_seats, seats_left}
use Rattle.seat_remainders.specs.Rounds.{is_eligible, seats_after, meets_minimums, next_phase, average_of, TakesSeat, EachFollows, AreRounds}
use Rattle.seat_remainders.specs.Outcome.{AreSeats, IsOver, IsOutcome, is_without_quotient, is_over}
use Rattle.seat_remainders.specs.Computed.{outcome_of}
use Rattle.seat_remainders.specs.Majority.{majority_outcome, NobodyHasMajority}

-- each contest has an outcome
abbrev pub HasOutcome : Type 0
HasOutcome = (contest : Contest) → IsOutcome contest (outcome_of contest)

-- a contest has no other outcome than that one
abbrev pub HasOneOutcome : Type 0
HasOneOutcome = (contest : Contest) (o : Outcome) → IsOutcome contest o → o ≡ outcome_of contest

-- there is no quotient exactly where it is 0
abbrev pub NoQuotientAtZero : Type 0
NoQuotientAtZero = (contest : Contest) (o : Outcome) → IsOutcome contest o → (is_without_quotient o ≡ true) ↔ (quotient_of contest ≡ 0)

-- and the first phase comes to too many seats exactly where there is one and these seats are more than there are
abbrev pub OverBeyondAllSeats : Type 0
OverBeyondAllSeats = (contest : Contest) (o : Outcome) → IsOutcome contest o
    → (is_over o ≡ true) ↔ ((1 ≤ quotient_of contest) × (contest.seats < first_phase (quotient_of contest) contest.parties))

-- the seats of the parties and the vacant ones are all seats
abbrev pub SeatsAddUp : Type 0
SeatsAddUp = (contest : Contest) (s : SeatsData) → PartiesRise contest.parties → AreSeats contest s → sum_by (λ p. p.seats) s.parties + s.vacant ≡ contest.seats

-- for each seat of a party a candidate is elected
abbrev pub EachSeatIsFilled : Type 0
EachSeatIsFilled = (contest : Contest) (s : SeatsData) → PartiesRise contest.parties → AreSeats contest s → length s.elected ≡ sum_by (λ p. p.seats) s.parties

-- the first phase comes to more seats than there are only where the quotient is at most half of them
abbrev pub OverOnlyBelowHalf : Type 0
OverOnlyBelowHalf = (contest : Contest) (first seats : ℕ) → 1 ≤ contest.seats → IsOver contest first seats → quotient_of contest ≤ contest.seats / 2

-- a contest has one list of averages
abbrev pub HasOneTable : Type 0
HasOneTable = (contest : Contest) (xs ys : List AverageData) → AreAverages contest xs → AreAverages contest ys → xs ≡ ys

-- which is empty where the first phase leaves no seat
abbrev pub NoAveragesWithoutSeats : Type 0
NoAveragesWithoutSeats = (contest : Contest) (xs : List AverageData) → seats_left contest ≡ 0 → AreAverages contest xs → xs ≡ []

-- the next average of a table is the next average of the party that takes the next seat: once those in front of it have taken theirs, its party is eligible, and
-- no other eligible one beats it
abbrev pub NextTakesSeat : Type 0
NextTakesSeat = (qe phase left : ℕ) (parties : List Contestant) (before : List Award) (front : List AverageData) (a : AverageData) (behind : List AverageData) → 1 ≤ qe → PartiesRise parties
    → IsTable qe parties before (limit_of qe phase before left) (front ++ a ∷ behind) → length front < left
    → let so_far = before ++ awards_for phase front in
    next_phase qe so_far parties ≡ phase → (p : Contestant) × (a ≡ average_of qe so_far p) × TakesSeat qe parties so_far (record { phase = phase; party = a.party }) p

-- the rounds of phase 2 are the averages of the contest from the front, as many as seats remain; where these are fewer than the seats, no party meets the minimums
-- any more
abbrev pub FrontIsPhaseTwo : Type 0
FrontIsPhaseTwo = (contest : Contest) (averages : List AverageData) → 1 ≤ quotient_of contest → PartiesRise contest.parties → AreAverages contest averages
    → let awards = awards_for 2 (take (seats_left contest) averages) in
    EachFollows (quotient_of contest) contest.parties [] awards
    × (length averages < seats_left contest → AllByRecursion (λ p. meets_minimums (quotient_of contest) awards p ≡ false) contest.parties)

-- the rounds are the fronts of two tables: the averages of the contest in order, as many as seats remain, and where they end before the seats do, those of the
-- table of phase 3 after these awards; a seat stays vacant where both have ended
abbrev pub FrontsAreRounds : Type 0
FrontsAreRounds = (contest : Contest) (two three : List AverageData) → 1 ≤ quotient_of contest → PartiesRise contest.parties → AreAverages contest two
    → let before = awards_for 2 (take (seats_left contest) two) in
    let awards = awards_of (seats_left contest) two three in
    IsTable (quotient_of contest) contest.parties before (limit_of (quotient_of contest) 3 before (seats_left contest - length before)) three
    → AreRounds (quotient_of contest) contest.parties (seats_left contest) awards (seats_left contest - length awards)

-- behind seats stand the averages that gave them: the awards are those of the averages from the front, as many as seats remain, and then such of phase 3 alone
abbrev pub AwardsAreAverages : Type 0
AwardsAreAverages = (contest : Contest) (s : SeatsData) → PartiesRise contest.parties → AreSeats contest s
    → (later : List Award) × (s.awards ≡ awards_for 2 (take (seats_left contest) s.averages) ++ later) × AllByRecursion (λ award. award.phase ≡ 3) later

-- a party is eligible while it has fewer seats than it can have at most
abbrev pub EligibleBelowMost : Type 0
EligibleBelowMost = (qe : ℕ) (before : List Award) (phase : ℕ) (p : Contestant) → is_eligible qe before phase p ≡ nat_lt (seats_after qe before p) (most_seats qe phase p)

-- candidates in their order stand in order
abbrev pub StandInOrder : Type 0
StandInOrder = (candidates : List Entry) → AreInOrder (in_order candidates)

-- and are the same candidates
abbrev pub AreTheSame : Type 0
AreTheSame = (candidates : List Entry) → IsPermutation candidates (in_order candidates)

-- nobody is elected exactly where all votes are 0
abbrev pub NobodyWithoutVotes : Type 0
NobodyWithoutVotes = (candidates : List Entry) (absolute : Bool) → (majority_outcome candidates absolute ≡ Nobody) ↔ (nominal_votes candidates ≡ 0)

-- by the absolute rule there is a second round exactly where there are votes and nobody has more than half of them
abbrev pub RunoffWithoutMajority : Type 0
RunoffWithoutMajority = (candidates : List Entry)
    → ((x : ℕ) × (y : ℕ) × (majority_outcome candidates true ≡ Runoff x y)) ↔ ((1 ≤ nominal_votes candidates) × NobodyHasMajority candidates)

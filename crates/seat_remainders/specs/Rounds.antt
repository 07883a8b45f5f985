-- The seats that remain after the first phase, one round for each (art. 109). What a round says of a party is said after the awards
-- before it, so the awards so far are all that a round has to know.
use Rattle.std.specs.Prelude.{◌≡◌, ℕ, ◌+◌, ◌<◌, Bool, true, false, nat_le, ◌==◌, ◌&&◌, if◌then◌else◌, List, [], ◌∷◌, ◌++◌, length, drop, count_by}
use Rattle.std.specs.List.{AllByRecursion, Contains, list_any}
use Rattle.quotients.specs.Quotients.{has_fifth, has_four_fifths}
use Rattle.quotients.specs.Average.{AverageData, comes_before}
use Rattle.seat_remainders.specs.declared.contest.Entry.{Entry}
use Rattle.seat_remainders.specs.declared.contest.Contestant.{Contestant}
use Rattle.seat_remainders.specs.declared.outcome.Award.{Award}
use Rattle.seat_remainders.specs.Candidates.{in_order}
use Rattle.seat_remainders.specs.Parties.{votes_of, first_seats}

-- a party's seats so far: those of the first phase, and one for each award to it
abbrev pub seats_after : ℕ → List Award → Contestant → ℕ
seats_after qe awards p = first_seats qe p + count_by (λ w. w.party == p.number) awards

-- a party's candidates without a seat so far, in their order
abbrev pub unseated : ℕ → List Award → Contestant → List Entry
unseated qe awards p = drop (seats_after qe awards p) (in_order p.candidates)

-- art. 109, paragraph 2: the party has 80% of the quotient, and a candidate without a seat has 20% of it
abbrev pub meets_minimums : ℕ → List Award → Contestant → Bool
meets_minimums qe awards p = has_four_fifths (votes_of p) qe && list_any (λ c. has_fifth c.votes qe) (unseated qe awards p)

-- art. 109, III: the party has a vote, and a candidate without a seat
abbrev pub has_candidate_left : ℕ → List Award → Contestant → Bool
has_candidate_left qe awards p = nat_le 1 (votes_of p) && nat_le 1 (length (unseated qe awards p))

-- the party competes in a round of this phase, which is 2 or 3
abbrev pub is_eligible : ℕ → List Award → ℕ → Contestant → Bool
is_eligible qe awards phase p = if phase == 2 then meets_minimums qe awards p else has_candidate_left qe awards p

-- the next round is one of phase 2 where a party is eligible in it, and else one of phase 3
abbrev pub next_phase : ℕ → List Award → List Contestant → ℕ
next_phase qe awards parties = if list_any (meets_minimums qe awards) parties then 2 else 3

-- art. 109, I: a party's valid votes over its seats so far plus one
abbrev pub average_of : ℕ → List Award → Contestant → AverageData
average_of qe awards p = record { votes = votes_of p; divisor = seats_after qe awards p + 1; party = p.number }

-- the first party beats the second: its average comes before that of the other
abbrev pub beats : ℕ → List Award → Contestant → Contestant → Bool
beats qe awards q p = comes_before (average_of qe awards q) (average_of qe awards p)

-- after the awards before it, an award gives the seat of a round to a party: one that is eligible, and that no other eligible one beats
pub record TakesSeat (qe : ℕ) (parties : List Contestant) (before : List Award) (award : Award) (p : Contestant) : Type 0 where
  pub stands : Contains parties p
  pub named : award.party ≡ p.number
  pub phase : award.phase ≡ next_phase qe before parties
  pub eligible : is_eligible qe before award.phase p ≡ true
  pub unbeaten : AllByRecursion (λ q. is_eligible qe before award.phase q ≡ true → beats qe before q p ≡ false) parties

-- each award gives the seat of the round after those before it
abbrev pub EachFollows : ℕ → List Contestant → List Award → List Award → Type 0
EachFollows qe parties before [] = Unit {0}
EachFollows qe parties before (award ∷ awards) = ((p : Contestant) × TakesSeat qe parties before award p) × EachFollows qe parties (before ++ award ∷ []) awards

-- no party is eligible any more, so the next seat and all later ones stay vacant
abbrev pub NobodyLeft : ℕ → List Contestant → List Award → Type 0
NobodyLeft qe parties awards = AllByRecursion (λ p. is_eligible qe awards (next_phase qe awards parties) p ≡ false) parties

-- the rounds for so many seats: each seat is awarded or vacant, and it is vacant only where nobody is left
pub record AreRounds (qe : ℕ) (parties : List Contestant) (seats : ℕ) (awards : List Award) (vacant : ℕ) : Type 0 where
  pub each : EachFollows qe parties [] awards
  pub all : length awards + vacant ≡ seats
  pub vacant_only : 0 < vacant → NobodyLeft qe parties awards

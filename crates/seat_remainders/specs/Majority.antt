-- The majority rules (Constitution art. 77, Lei 9.504/1997 art. 2; docs/RULES.md, "The majority")
use Rattle.std.specs.Prelude.{ℕ, ◌*◌, ◌≤◌, Bool, nat_le, ◌==◌, ◌&&◌, if◌then◌else◌, List, [], ◌∷◌}
use Rattle.std.specs.List.{AllByRecursion}
use Rattle.seat_remainders.specs.declared.contest.Entry.{Entry}
use Rattle.seat_remainders.specs.declared.outcome.MajorityOutcome.{MajorityOutcome}
use Rattle.seat_remainders.specs.declared.outcome.MajorityOutcome.TheVariants.{Elected, Runoff, Nobody}
use Rattle.seat_remainders.specs.Candidates.{in_order}
use Rattle.seat_remainders.specs.Parties.{nominal_votes}

-- the first two of ordered candidates go to a second round; one alone has all votes, so that only two or more come to it
abbrev pub second_round : List Entry → MajorityOutcome
second_round [] = Nobody
second_round (a ∷ []) = Elected a.number
second_round (a ∷ b ∷ others) = Runoff a.number b.number

-- what comes of ordered candidates who have so many votes in all: the first is elected, by the absolute rule with more than half of the votes
abbrev pub decided : ℕ → Bool → List Entry → MajorityOutcome
decided total absolute [] = Nobody
decided total absolute (a ∷ others) = if absolute && nat_le (2 * a.votes) total then second_round (a ∷ others) else Elected a.number

-- what comes of the candidates of a majority office; where all votes are 0, nobody is elected
abbrev pub majority_outcome : List Entry → Bool → MajorityOutcome
majority_outcome candidates absolute = if nominal_votes candidates == 0 then Nobody else decided (nominal_votes candidates) absolute (in_order candidates)

-- nobody has more than half of the votes
abbrev pub NobodyHasMajority : List Entry → Type 0
NobodyHasMajority candidates = AllByRecursion (λ c. 2 * c.votes ≤ nominal_votes candidates) candidates

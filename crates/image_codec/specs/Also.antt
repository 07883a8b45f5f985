-- A poll and the ballots that it has beside another
use Rattle.std.specs.Prelude.{◌≡◌, ◌⊎◌, ◌<◌, ◌+◌, ℕ, true, false, List, [], ◌∷◌, length, map, Contains}
use Rattle.std.specs.List.{AllByRecursion}
use Rattle.vote_kinds.specs.declared.choice.Choice.{Choice}
use Rattle.vote_kinds.specs.Ballot.{BallotLine}
use Rattle.vote_record.specs.Bag.{bag_at, count_of}
use Rattle.turnout.specs.Turnout.{has_come, number_came}
use Rattle.image_codec.specs.CodecLaws.{Ballot}
use Rattle.image_codec.specs.Laws.{votes_for}
use Rattle.image_codec.specs.State.{State}

-- on how many lines of these ballots, which are of a panel, was chosen so
abbrev pub votes_in_ballots : ℕ → Choice → List BallotLine → List Ballot → ℕ
votes_in_ballots panel c lines [] = 0
votes_in_ballots panel c lines (b ∷ ballots) = votes_for panel c lines b.choices + votes_in_ballots panel c lines ballots

-- The poll in u is that in s, and these ballots: as many more voters came as there are ballots, so no two are of one voter; their
-- voters, who had not come in s, have come in u; who had come in s has come in u, and nobody else; and the bag of each panel has, of
-- each choice, as many votes more as the ballots have.
pub record HasAlso (lines : List BallotLine) (s : State) (ballots : List Ballot) (u : State) : Type 0 where
  pub number : number_came u.came ≡ number_came s.came + length ballots
  pub stay : (place : ℕ) → has_come s.came place ≡ true → has_come u.came place ≡ true
  pub come : AllByRecursion (λ b. (has_come s.came b.place ≡ false) × (has_come u.came b.place ≡ true)) ballots
  pub nobody_else : (place : ℕ) → has_come u.came place ≡ true → (has_come s.came place ≡ true) ⊎ Contains (map (λ b. b.place) ballots) place
  pub panels : length u.bags ≡ length s.bags
  pub votes : (panel : ℕ) (c : Choice) → panel < length s.bags
      → count_of c (bag_at u.bags panel) ≡ count_of c (bag_at s.bags panel) + votes_in_ballots panel c lines ballots

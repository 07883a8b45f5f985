-- The bags of a body of the first version, vote by vote
use Rattle.std.specs.Prelude.{ℕ, zero, suc, ◌+◌, ◌*◌, ◌&&◌, ◌==◌, if◌then◌else◌, List, [], ◌∷◌, drop, slice_index, Option, Some, None, option_map}
use Rattle.std.specs.Option.{option_and_then}
use Rattle.vote_kinds.specs.declared.choice.Choice.{Choice}
use Rattle.vote_kinds.specs.declared.choice.Choice.TheVariants as choice
use Rattle.vote_kinds.specs.Ballot.{BallotLine, is_choice}
use Rattle.vote_kinds.specs.Choice.{choice_le, choice_with}
use Rattle.image_codec.specs.Layout.{bag_head_size, vote_size}
use Rattle.image_codec.specs.Numbers.{are_zero, number4_at}

-- the vote in front, if it is a choice of the line that stands at this choice or after it
unfoldable pub vote_in : BallotLine → Choice → List ℕ → Option Choice
vote_in line before bytes =
    option_and_then (λ c. if choice_le before c && is_choice line c then Some c else None) (choice_with (slice_index bytes 0) (number4_at bytes 1))

-- so many votes, in the order of choices
unfoldable pub votes_in : BallotLine → Choice → ℕ → List ℕ → Option (List Choice)
votes_in line before zero bytes = Some []
votes_in line before (suc n) bytes =
    option_and_then (λ c. option_map (λ bag. c ∷ bag) (votes_in line c n (drop vote_size bytes))) (vote_in line before bytes)

-- a bag: its number of votes, which is this one, and the votes
unfoldable pub bag_in : BallotLine → ℕ → List ℕ → Option (List Choice)
bag_in line n bytes = if number4_at bytes 0 == n then votes_in line (choice.Nominal 0) n (drop bag_head_size bytes) else None

-- for each line a bag with all votes of so many voters, and zeros after them
unfoldable pub bags_in : List BallotLine → ℕ → List ℕ → Option (List (List Choice))
bags_in [] n bytes = if are_zero bytes then Some [] else None
bags_in (line ∷ lines) n bytes =
    option_and_then (λ bag. option_map (λ bags. bag ∷ bags) (bags_in lines n (drop (bag_head_size + vote_size * (n * line.places)) bytes))) (bag_in line (n * line.places) bytes)

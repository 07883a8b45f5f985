-- The bags of a body of the second version, by its counters
use Rattle.std.specs.Prelude.{ℕ, ◌*◌, ◌==◌, if◌then◌else◌, List, [], ◌∷◌, length, sum, drop, Option, Some, None, option_map}
use Rattle.std.specs.Option.{option_and_then}
use Rattle.vote_kinds.specs.declared.choice.Choice.{Choice}
use Rattle.vote_kinds.specs.Ballot.{BallotLine, choices_of}
use Rattle.vote_record.specs.Counters.{bag_with}
use Rattle.image_codec.specs.Layout.{counter_size}
use Rattle.image_codec.specs.Numbers.{are_zero, counters_in}

-- the bag that the counters in front count, one for each of these choices, if they are so many votes
unfoldable pub bag_counted : List Choice → ℕ → List ℕ → Option (List Choice)
bag_counted choices n bytes =
    if sum (counters_in (length choices) bytes) == n then Some (bag_with choices (counters_in (length choices) bytes)) else None

-- for each line a bag with all votes of so many voters, and zeros after the counters
unfoldable pub bags_counted : List BallotLine → ℕ → List ℕ → Option (List (List Choice))
bags_counted [] n bytes = if are_zero bytes then Some [] else None
bags_counted (line ∷ lines) n bytes =
    option_and_then (λ bag. option_map (λ bags. bag ∷ bags) (bags_counted lines n (drop (counter_size * length (choices_of line)) bytes)))
    (bag_counted (choices_of line) (n * line.places) bytes)

-- The state that some bytes are an encoding of, of either version. The law `codec` says that it is the state of that encoding, and that
-- there is none where no state has it.
use Rattle.std.specs.Prelude.{ℕ, ◌-◌, Bool, ◌&&◌, ◌==◌, nat_lt, if◌then◌else◌, List, length, take, drop, slice_index, Option, None, option_map}
use Rattle.std.specs.Option.{option_and_then}
use Rattle.std.specs.List.{list_all}
use Rattle.election_tables.specs.TablesData.{TablesData, places_of}
use Rattle.vote_kinds.specs.declared.choice.Choice.{Choice}
use Rattle.vote_kinds.specs.Ballot.{BallotLine, lines_by_panel}
use Rattle.turnout.specs.Turnout.{number_came}
use Rattle.image_codec.specs.Layout.{body_size, counters_offset, first_version, head_size, version}
use Rattle.image_codec.specs.Numbers.{are_zero}
use Rattle.image_codec.specs.DecodedHead.{marks_in, turnout_of, phase_in}
use Rattle.image_codec.specs.DecodedVotes.{bags_in}
use Rattle.image_codec.specs.DecodedCounters.{bags_counted}
use Rattle.image_codec.specs.State.{State, rank_of}

-- the bags of a body of the first version, which stand behind the head
abbrev pub bags_first : List BallotLine → ℕ → List ℕ → Option (List (List Choice))
bags_first lines n bytes = bags_in lines n (drop head_size bytes)

-- the bags of a body of the second version: zeros stand behind the head, and then the counters
unfoldable pub bags_second : List BallotLine → ℕ → List ℕ → Option (List (List Choice))
bags_second lines n bytes =
    if are_zero (take (counters_offset - head_size) (drop head_size bytes)) then bags_counted lines n (drop counters_offset bytes) else None

-- the bags of a body, for each line one with all votes of so many voters, by the version of the body
unfoldable pub bags_of : List BallotLine → ℕ → List ℕ → Option (List (List Choice))
bags_of lines n bytes =
    if slice_index bytes 0 == version then bags_second lines n bytes
    else (if slice_index bytes 0 == first_version then bags_first lines n bytes else None)

-- as many bytes as a body has
abbrev pub is_body : List ℕ → Bool
is_body bytes = length bytes == body_size && list_all (λ b. nat_lt b 256) bytes

-- the state of a poll of these tables and so many voters that has this encoding
unfoldable pub decoded : TablesData → ℕ → List ℕ → Option State
decoded t voters bytes =
    let came : List Bool = marks_in voters (turnout_of bytes) in
    if is_body bytes
    then option_and_then (λ p. option_map (λ bags. record { phase = p; came = came; places = places_of t; bags = bags }) (bags_of (lines_by_panel t) (number_came came) bytes))
    (phase_in voters (length t.panels) bytes)
    else None

-- the rank of that state
abbrev pub rank_in : TablesData → ℕ → List ℕ → Option ℕ
rank_in t voters bytes = option_map rank_of (decoded t voters bytes)

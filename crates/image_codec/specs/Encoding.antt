-- How a state is written into the body of a slot (docs/FORMATS.md, "The body"). The two versions have the same head; behind it the
-- first has each vote, and the second a counter for each choice, which stands in the same place whatever the votes are.
use Rattle.std.specs.Prelude.{◌≡◌, ◌⊎◌, ℕ, ◌+◌, ◌*◌, ◌-◌, ◌^◌, Bool, if◌then◌else◌, List, [], ◌∷◌, ◌++◌, length, map, flat_map, replicate}
use Rattle.std.specs.Int.{w32, w64, to_be_bytes}
use Rattle.std.specs.List.{range_with_len, zip}
use Rattle.election_tables.specs.TablesData.{TablesData, places_of}
use Rattle.vote_kinds.specs.declared.choice.Choice.{Choice}
use Rattle.vote_kinds.specs.Ballot.{BallotLine, lines_by_panel, choices_of}
use Rattle.vote_kinds.specs.Choice.{kind_of, number_of}
use Rattle.turnout.specs.Turnout.{has_come, number_came}
use Rattle.turnout.specs.declared.phase.Phase.{Phase}
use Rattle.turnout.specs.declared.phase.Phase.TheVariants as phase
use Rattle.vote_record.specs.Counters.{counts_of}
use Rattle.image_codec.specs.Layout.{body_size, counters_offset, first_version, head_size, turnout_size, version}
use Rattle.image_codec.specs.State.{State, rank_of}
use Rattle.image_codec.specs.Valid.{IsValid, HasChoices}

-- a state of a poll of these tables with so many voters
pub record IsStateOf (t : TablesData) (voters : ℕ) (s : State) : Type 0 where
  pub valid : IsValid s
  pub roll : length s.came ≡ voters
  pub places : s.places ≡ places_of t
  pub choices : HasChoices (lines_by_panel t) s.bags

-- The head

-- the phase as it is written
abbrev pub phase_byte : Phase → ℕ
phase_byte phase.Ready = 0
phase_byte (phase.Polling opened) = 1
phase_byte (phase.Sealed opened closed) = 2

-- the opening moment, 0 before it
abbrev pub opening_in : Phase → ℕ
opening_in phase.Ready = 0
opening_in (phase.Polling opened) = opened
opening_in (phase.Sealed opened closed) = opened

-- the closing moment, 0 before it
abbrev pub closing_in : Phase → ℕ
closing_in phase.Ready = 0
closing_in (phase.Polling opened) = 0
closing_in (phase.Sealed opened closed) = closed

-- the number that bits write, the highest first
abbrev pub number_of_bits : List Bool → ℕ
number_of_bits [] = 0
number_of_bits (bit ∷ bits) = (if bit then 2 ^ length bits else 0) + number_of_bits bits

-- the marks of eight places, the first of which is this one: a bit for each, which is 1 where its voter came
unfoldable pub eight_places : List Bool → ℕ → ℕ
eight_places came p = number_of_bits (map (has_come came) (range_with_len p 8))

-- who came: a bit for each of 600 places; the bits of places past the roll are 0
unfoldable pub turnout_bytes : List Bool → List ℕ
turnout_bytes came = map (λ k. eight_places came (8 * k)) (range_with_len 0 turnout_size)

-- a version, the phase, the two moments, how many came, who came, and how many panels there are
abbrev pub head_bytes : ℕ → State → List ℕ
head_bytes of_version s =
    of_version ∷ phase_byte s.phase ∷ (to_be_bytes w64 (opening_in s.phase) ++ to_be_bytes w64 (closing_in s.phase)
    ++ to_be_bytes w32 (number_came s.came) ++ turnout_bytes s.came ++ length s.bags ∷ [])

-- The first version

-- a vote: its kind, and its number in four bytes
abbrev pub vote_bytes : Choice → List ℕ
vote_bytes c = kind_of c ∷ to_be_bytes w32 (number_of c)

-- a bag: how many votes, and each of them in the order of choices
abbrev pub bag_bytes : List Choice → List ℕ
bag_bytes bag = to_be_bytes w32 (length bag) ++ flat_map vote_bytes bag

-- all that was written of a state in the first version
unfoldable pub written1 : State → List ℕ
written1 s = head_bytes first_version s ++ flat_map bag_bytes s.bags

-- the body of a slot in the first version: what was written, and zeros
unfoldable pub encode1 : State → List ℕ
encode1 s = written1 s ++ replicate (body_size - length (written1 s)) 0

-- The second version

-- counters in four bytes each: how many votes of a bag are each of these choices
abbrev pub counts_bytes : List Choice → List Choice → List ℕ
counts_bytes choices bag = flat_map (to_be_bytes w32) (counts_of choices bag)

-- the counters of a panel, in the order of choices
abbrev pub counter_bytes : BallotLine × List Choice → List ℕ
counter_bytes (line, bag) = counts_bytes (choices_of line) bag

-- all that is written of a state: the head, zeros up to where the counters begin, and the counters of each panel
unfoldable pub written : TablesData → State → List ℕ
written t s = head_bytes version s ++ replicate (counters_offset - head_size) 0 ++ flat_map counter_bytes (zip (lines_by_panel t) s.bags)

-- the body of a slot: what is written, and zeros
unfoldable pub encode : TablesData → State → List ℕ
encode t s = written t s ++ replicate (body_size - length (written t s)) 0

-- Bytes of either version

-- these bytes are an encoding of a state of a poll of these tables, of either version
pub record IsEncoding (t : TablesData) (voters : ℕ) (s : State) (bytes : List ℕ) : Type 0 where
  pub state : IsStateOf t voters s
  pub same : (bytes ≡ encode t s) ⊎ (bytes ≡ encode1 s)

-- the rank of the state whose encoding these bytes are
abbrev pub IsRankOf : TablesData → ℕ → List ℕ → ℕ → Type 0
IsRankOf t voters bytes rank = (s : State) × (IsEncoding t voters s bytes × (rank ≡ rank_of s))

-- no state of a poll of these tables has this encoding
abbrev pub IsNoEncoding : TablesData → ℕ → List ℕ → Type 0
IsNoEncoding t voters bytes = (s : State) → IsEncoding t voters s bytes → ⊥

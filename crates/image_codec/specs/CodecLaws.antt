-- What is so of all encodings
use Rattle.std.specs.Prelude.{◌≡◌, ◌<◌, ◌≤◌, ◌+◌, ◌*◌, ℕ, true, false, ◌↔◌, List, [], ◌∷◌, length, sum, take, drop, slice_get, slice_index, Some, IsSome, IsPermutation}
use Rattle.std.specs.List.{sum_by}
use Rattle.urna_base.specs.Moment.{is_moment}
use Rattle.election_tables.specs.Limits.{most_voters}
use Rattle.election_tables.specs.TablesData.{TablesData, IsTables, places_at}
use Rattle.vote_kinds.specs.declared.choice.Choice.{Choice}
use Rattle.vote_kinds.specs.Ballot.{BallotLine, ballot_lines, is_choice, line_of, lines_by_panel, choices_of}
use Rattle.vote_record.specs.Bag.{bag_at, count_of}
use Rattle.turnout.specs.Turnout.{has_come, number_came}
use Rattle.image_codec.specs.Layout.{body_size, counter_size, counters_offset, head_size, version}
use Rattle.image_codec.specs.Numbers.{counters_in, number4_at}
use Rattle.image_codec.specs.State.{State, opened_at, with_ballot, sealed_at, MayVote, IsBallot}
use Rattle.image_codec.specs.Valid.{ready_state, MayClose}
use Rattle.image_codec.specs.Encoding.{IsStateOf, IsEncoding, encode, encode1, written, written1}
use Rattle.image_codec.specs.DecodedHead.{marks_in, turnout_of, phase_in}
use Rattle.image_codec.specs.Decoded.{decoded, is_body}

-- bytes are decoded as a state exactly where they are an encoding of it
abbrev pub IsDecodedExactly : Type 0
IsDecodedExactly = (t : TablesData) (voters : ℕ) (s : State) (bytes : List ℕ) → IsTables t → voters ≤ most_voters → (decoded t voters bytes ≡ Some s) ↔ IsEncoding t voters s bytes

-- two states with a common encoding, of either version, are one state
abbrev pub IsOneState : Type 0
IsOneState = (t : TablesData) (voters : ℕ) (s u : State) (bytes : List ℕ) → IsTables t → voters ≤ most_voters
    → IsEncoding t voters s bytes → IsEncoding t voters u bytes → s ≡ u

-- what is written of a state has room in a body, and so has what the first version wrote
abbrev pub HasRoomInBody : Type 0
HasRoomInBody = (t : TablesData) (voters : ℕ) (s : State) → IsTables t → voters ≤ most_voters → IsStateOf t voters s
    → (length (written t s) ≤ 18240) × (length (written1 s) ≤ 27130)

abbrev pub IsBodyLong : Type 0
IsBodyLong = (t : TablesData) (voters : ℕ) (s : State) → IsTables t → voters ≤ most_voters → IsStateOf t voters s
    → (length (encode t s) ≡ body_size) × (length (encode1 s) ≡ body_size)

-- Counters in fixed places

-- how many counters these lines have: one for each choice
abbrev pub counters_of : List BallotLine → ℕ
counters_of lines = sum_by (λ line. length (choices_of line)) lines

-- where the counters of a panel begin: behind those of the panels before it
abbrev pub counters_from : TablesData → ℕ → ℕ
counters_from t panel = counters_offset + counter_size * counters_of (take panel (lines_by_panel t))

-- the counter of each choice, whose place the tables alone tell, counts the votes of the choice
abbrev pub CountsInPlace : Type 0
CountsInPlace = (t : TablesData) (voters : ℕ) (s : State) (panel place : ℕ) (c : Choice) → IsTables t → voters ≤ most_voters → IsStateOf t voters s
    → panel < length t.panels → slice_get (choices_of (line_of t panel)) place ≡ Some c
    → number4_at (encode t s) (counters_from t panel + counter_size * place) ≡ count_of c (bag_at s.bags panel)

-- the counters of a panel
abbrev pub counters_at : TablesData → List ℕ → ℕ → List ℕ
counters_at t bytes panel = counters_in (length (choices_of (line_of t panel))) (drop (counters_from t panel) bytes)

-- A whole body has a head of a poll of these tables with so many voters, and zeros up to the counters; in each panel the counters
-- count all votes of those who came; and zeros are behind the last counter.
pub record IsCounted (t : TablesData) (voters : ℕ) (bytes : List ℕ) : Type 0 where
  pub whole : is_body bytes ≡ true
  pub head : IsSome (phase_in voters (length t.panels) bytes)
  pub between : (at : ℕ) → head_size ≤ at → at < counters_offset → slice_index bytes at ≡ 0
  pub counted : (panel : ℕ) → panel < length t.panels → sum (counters_at t bytes panel) ≡ number_came (marks_in voters (turnout_of bytes)) * places_at t panel
  pub behind : (at : ℕ) → counters_from t (length t.panels) ≤ at → slice_index bytes at ≡ 0

-- bytes of the second version are an encoding of a state exactly where this holds
abbrev pub IsEncodingWhereCounted : Type 0
IsEncodingWhereCounted = (t : TablesData) (voters : ℕ) (bytes : List ℕ) → IsTables t → voters ≤ most_voters → slice_index bytes 0 ≡ version
    → ((s : State) × IsEncoding t voters s bytes) ↔ IsCounted t voters bytes

-- a state of some tables has a bag for each panel, and in it as many votes as voters came, times the places of the panel

abbrev pub HasBagOfEachPanel : Type 0
HasBagOfEachPanel = (t : TablesData) (voters : ℕ) (s : State) → IsStateOf t voters s → length s.bags ≡ length t.panels

abbrev pub HasAllVotes : Type 0
HasAllVotes = (t : TablesData) (voters : ℕ) (s : State) (panel : ℕ) → IsStateOf t voters s → panel < length t.panels
    → length (bag_at s.bags panel) ≡ number_came s.came * places_at t panel

-- and none for a choice that is none of the panel's
abbrev pub HasNoOtherVotes : Type 0
HasNoOtherVotes = (t : TablesData) (voters : ℕ) (s : State) (panel : ℕ) (c : Choice) → IsStateOf t voters s → panel < length t.panels
    → is_choice (line_of t panel) c ≡ false → count_of c (bag_at s.bags panel) ≡ 0

-- the state before the poll is one of these tables, and each step leads from such a state to such a state

abbrev pub ReadyIsOfTables : Type 0
ReadyIsOfTables = (t : TablesData) (voters : ℕ) → IsStateOf t voters (ready_state t voters)

abbrev pub OpeningStaysOfTables : Type 0
OpeningStaysOfTables = (t : TablesData) (voters : ℕ) (s : State) (m : ℕ) → IsStateOf t voters s → is_moment m ≡ true → IsStateOf t voters (opened_at s m)

abbrev pub BallotStaysOfTables : Type 0
BallotStaysOfTables = (t : TablesData) (voters : ℕ) (s : State) (place : ℕ) (choices : List Choice) → IsStateOf t voters s → MayVote s place
    → IsBallot (ballot_lines t) choices → IsStateOf t voters (with_ballot (ballot_lines t) s place choices)

abbrev pub SealingStaysOfTables : Type 0
SealingStaysOfTables = (t : TablesData) (voters : ℕ) (s : State) (m : ℕ) → IsStateOf t voters s → MayClose s.phase m → is_moment m ≡ true
    → IsStateOf t voters (sealed_at s m)

-- a voter's place, and the voter's choices
pub record Ballot : Type 0 where
  pub place : ℕ
  pub choices : List Choice

-- these voters came, in this order
abbrev pub with_ballots : List BallotLine → State → List Ballot → State
with_ballots lines s [] = s
with_ballots lines s (b ∷ ballots) = with_ballots lines (with_ballot lines s b.place b.choices) ballots

-- in whatever order the voters came, the encoding is the same, and so was that of the first version
abbrev pub IsInAnyOrder : Type 0
IsInAnyOrder = (t : TablesData) (lines : List BallotLine) (s : State) (ballots others : List Ballot) → IsPermutation ballots others
    → (encode t (with_ballots lines s ballots) ≡ encode t (with_ballots lines s others)) × (encode1 (with_ballots lines s ballots) ≡ encode1 (with_ballots lines s others))

-- A state of some tables is known by its phase, by who came, and by how many votes each choice has in each panel. So however the
-- votes came, and with whatever voter, the encoding is the same.
abbrev pub IsKnownByVotes : Type 0
IsKnownByVotes = (t : TablesData) (voters : ℕ) (s u : State) → IsStateOf t voters s → IsStateOf t voters u → s.phase ≡ u.phase
    → ((place : ℕ) → has_come s.came place ≡ has_come u.came place)
    → ((panel : ℕ) (c : Choice) → panel < length t.panels → count_of c (bag_at s.bags panel) ≡ count_of c (bag_at u.bags panel))
    → (s ≡ u) × (encode t s ≡ encode t u)

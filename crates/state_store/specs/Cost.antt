-- What a commit may write
use Rattle.std.specs.Prelude.{ℕ, ◌+◌, ◌*◌, ◌≤◌, List, [], ◌∷◌, length}
use Rattle.election_tables.specs.Limits.{most_voters}
use Rattle.election_tables.specs.TablesData.{IsTables, TablesData}
use Rattle.vote_kinds.specs.Ballot.{ballot_lines}
use Rattle.vote_kinds.specs.declared.choice.Choice.{Choice}
use Rattle.gate_slot.specs.Page.{changed_pages, page_size}
use Rattle.flash_store.specs.Played.{bytes_along as bytes_along_of}
use Rattle.image_codec.specs.Encoding.{IsStateOf, encode}
use Rattle.image_codec.specs.State.{IsBallot, State, opened_at, sealed_at, with_ballot}

-- how many bytes a commit of a state over another puts at most: in each of the four slots the pages in which the encodings of the two
-- states differ, and two gates
abbrev pub commit_bytes : TablesData → State → State → ℕ
commit_bytes t s u = 4 * (page_size * length (changed_pages (encode t s) (encode t u)) + 2)

-- and the commits of these states, each over the one before it
abbrev pub bytes_along : TablesData → State → List State → ℕ
bytes_along t s states = bytes_along_of (commit_bytes t) s states

-- each of these states costs at most so many bytes over the one before it
abbrev pub CostAtMost : TablesData → ℕ → State → List State → Type 0
CostAtMost t most s [] = Unit {0}
CostAtMost t most s (u ∷ states) = (commit_bytes t s u ≤ most) × CostAtMost t most u states

-- how many bytes a ballot puts at most: in each of the four slots two pages more than there are panels, and two gates
abbrev pub ballot_bytes : TablesData → ℕ
ballot_bytes t = 4 * ((length t.panels + 2) * page_size + 2)

-- The commit of a ballot puts no more than that, however many voters came before.
abbrev pub BallotCostsFew : Type 0
BallotCostsFew =
    (t : TablesData) (voters : ℕ) (s : State) (place : ℕ) (choices : List Choice) → IsTables t → voters ≤ most_voters → IsStateOf t voters s
    → IsBallot (ballot_lines t) choices → commit_bytes t s (with_ballot (ballot_lines t) s place choices) ≤ ballot_bytes t

-- those of an opening and of a seal write one page at most

abbrev pub OpeningCostsOnePage : Type 0
OpeningCostsOnePage = (t : TablesData) (s : State) (m : ℕ) → commit_bytes t s (opened_at s m) ≤ 4 * (page_size + 2)

abbrev pub SealingCostsOnePage : Type 0
SealingCostsOnePage = (t : TablesData) (s : State) (m : ℕ) → commit_bytes t s (sealed_at s m) ≤ 4 * (page_size + 2)

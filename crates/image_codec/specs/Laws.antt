-- What is so of ballots and of the steps of a poll
use Rattle.std.specs.Prelude.{◌≡◌, ◌<◌, ◌+◌, ◌==◌, ◌&&◌, ℕ, true, List, length, count_by}
use Rattle.std.specs.List.{zip}
use Rattle.urna_base.specs.Moment.{is_moment}
use Rattle.election_tables.specs.TablesData.{TablesData, places_of}
use Rattle.vote_kinds.specs.declared.choice.Choice.{Choice}
use Rattle.vote_kinds.specs.Ballot.{BallotLine, ballot_lines, lines_by_panel}
use Rattle.vote_kinds.specs.Choice.{is_same}
use Rattle.vote_record.specs.Bag.{bag_at, count_of}
use Rattle.turnout.specs.declared.phase.Phase.TheVariants as phase
use Rattle.image_codec.specs.State.{State, with_votes, with_ballot, opened_at, sealed_at, rank_of, MayVote, IsBallot, IsPolling}
use Rattle.image_codec.specs.Valid.{ready_state, IsValid, HasChoices, MayClose}

-- the choices of two voters come in either order
abbrev pub ComeInEitherOrder : Type 0
ComeInEitherOrder = (lines others : List BallotLine) (xs ys : List Choice) (bags : List (List Choice))
    → with_votes lines xs (with_votes others ys bags) ≡ with_votes others ys (with_votes lines xs bags)

-- on how many of these lines, which are of a panel, a voter chose so
abbrev pub votes_for : ℕ → Choice → List BallotLine → List Choice → ℕ
votes_for panel c lines choices = count_by (λ vote. vote.0.panel == panel && is_same c vote.1) (zip lines choices)

-- the choices of a voter add to each panel as many votes for each choice as the voter's lines of the panel have, and no other
abbrev pub CountsEachLine : Type 0
CountsEachLine = (lines : List BallotLine) (choices : List Choice) (bags : List (List Choice)) (panel : ℕ) (c : Choice) → panel < length bags
    → count_of c (bag_at (with_votes lines choices bags) panel) ≡ count_of c (bag_at bags panel) + votes_for panel c lines choices

-- each step leads to a state of greater rank

abbrev pub OpeningRises : Type 0
OpeningRises = (s : State) (m : ℕ) → s.phase ≡ phase.Ready → rank_of s < rank_of (opened_at s m)

abbrev pub BallotRises : Type 0
BallotRises = (lines : List BallotLine) (s : State) (place : ℕ) (choices : List Choice) → MayVote s place → rank_of s < rank_of (with_ballot lines s place choices)

abbrev pub SealingRises : Type 0
SealingRises = (s : State) (m : ℕ) → IsPolling s.phase → rank_of s < rank_of (sealed_at s m)

-- the state before the poll is valid, and each step keeps a state valid

abbrev pub ReadyIsValid : Type 0
ReadyIsValid = (t : TablesData) (voters : ℕ) → IsValid (ready_state t voters) × HasChoices (lines_by_panel t) (ready_state t voters).bags

abbrev pub OpeningKeeps : Type 0
OpeningKeeps = (s : State) (m : ℕ) → IsValid s → is_moment m ≡ true → IsValid (opened_at s m)

abbrev pub BallotKeeps : Type 0
BallotKeeps = (t : TablesData) (s : State) (place : ℕ) (choices : List Choice) → IsValid s → HasChoices (lines_by_panel t) s.bags
    → MayVote s place → IsBallot (ballot_lines t) choices → s.places ≡ places_of t
    → IsValid (with_ballot (ballot_lines t) s place choices) × HasChoices (lines_by_panel t) (with_ballot (ballot_lines t) s place choices).bags

abbrev pub SealingKeeps : Type 0
SealingKeeps = (s : State) (m : ℕ) → IsValid s → MayClose s.phase m → is_moment m ≡ true → IsValid (sealed_at s m)

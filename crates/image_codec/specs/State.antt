-- The state of a poll and its three steps
use Rattle.std.specs.Prelude.{◌≡◌, ◌<◌, ℕ, ◌+◌, ◌-◌, Bool, true, false, List, [], ◌∷◌, ◌++◌, length, slice_set, replicate}
use Rattle.vote_kinds.specs.declared.choice.Choice.{Choice}
use Rattle.vote_kinds.specs.declared.choice.Choice.TheVariants as choice
use Rattle.vote_kinds.specs.Ballot.{BallotLine, is_choice}
use Rattle.vote_record.specs.Bag.{with_vote}
use Rattle.turnout.specs.Turnout.{has_come, number_came}
use Rattle.turnout.specs.declared.phase.Phase.{Phase}
use Rattle.turnout.specs.declared.phase.Phase.TheVariants as phase

-- the state of a poll: its phase, who came, and the bags of choices
pub record State : Type 0 where
  pub phase : Phase
  pub came : List Bool  -- for each place of the roll
  pub places : List ℕ  -- for each panel, how many votes a voter has in it; not a place of the roll
  pub bags : List (List Choice)  -- for each panel

-- 0 if ready, 1 + n if polling with n who came, n + 2 if sealed with n
abbrev pub rank_in : Phase → ℕ → ℕ
rank_in phase.Ready n = 0
rank_in (phase.Polling opened) n = 1 + n
rank_in (phase.Sealed opened closed) n = n + 2

-- the rank of a state
abbrev pub rank_of : State → ℕ
rank_of s = rank_in s.phase (number_came s.came)

-- The steps

-- the poll was opened at this moment
abbrev pub opened_at : State → ℕ → State
opened_at s m = record { phase = phase.Polling m; came = s.came; places = s.places; bags = s.bags }

-- the phase of a poll that was sealed at this moment; only an open poll is sealed
abbrev pub sealed_by : Phase → ℕ → Phase
sealed_by phase.Ready m = phase.Ready
sealed_by (phase.Polling opened) m = phase.Sealed opened m
sealed_by (phase.Sealed opened closed) m = phase.Sealed opened closed

-- the poll was sealed at this moment
abbrev pub sealed_at : State → ℕ → State
sealed_at s m = record { phase = sealed_by s.phase m; came = s.came; places = s.places; bags = s.bags }

-- the bags with the choices of one voter: each choice goes into the bag of its line's panel
abbrev pub with_votes : List BallotLine → List Choice → List (List Choice) → List (List Choice)
with_votes [] choices bags = bags
with_votes (line ∷ lines) [] bags = bags
with_votes (line ∷ lines) (c ∷ choices) bags = with_votes lines choices (with_vote line.panel c bags)

-- the voter of a place came, and chose so
abbrev pub with_ballot : List BallotLine → State → ℕ → List Choice → State
with_ballot lines s place choices = record { phase = s.phase; came = slice_set s.came place true; places = s.places; bags = with_votes lines choices s.bags }

-- the choices, and Null on each line that is left
abbrev pub filled_up : List BallotLine → List Choice → List Choice
filled_up lines choices = choices ++ replicate (length lines - length choices) choice.Null

-- What each step asks of the state

abbrev pub IsPolling : Phase → Type 0
IsPolling phase.Ready = ⊥
IsPolling (phase.Polling opened) = Unit {0}
IsPolling (phase.Sealed opened closed) = ⊥

-- the poll is open, and the voter of a place has not come
pub record MayVote (s : State) (place : ℕ) : Type 0 where
  pub polling : IsPolling s.phase
  pub known : place < length s.came
  pub absent : has_come s.came place ≡ false

-- choices of the first lines, in order
abbrev pub AreFirst : List BallotLine → List Choice → Type 0
AreFirst lines [] = Unit {0}
AreFirst [] (c ∷ choices) = ⊥
AreFirst (line ∷ lines) (c ∷ choices) = (is_choice line c ≡ true) × AreFirst lines choices

-- one choice for each line of the ballot, each a choice of its line
abbrev pub IsBallot : List BallotLine → List Choice → Type 0
IsBallot lines choices = AreFirst lines choices × (length choices ≡ length lines)

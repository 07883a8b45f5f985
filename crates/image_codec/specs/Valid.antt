-- What is so of every state, and the state before the poll
use Rattle.std.specs.Prelude.{◌≡◌, ◌≤◌, ◌<◌, ◌+◌, ◌*◌, ℕ, true, false, List, [], length, map, replicate, slice_index}
use Rattle.std.specs.List.{AllByRecursion}
use Rattle.urna_base.specs.Moment.{is_moment}
use Rattle.election_tables.specs.TablesData.{TablesData, places_of}
use Rattle.vote_kinds.specs.declared.choice.Choice.{Choice}
use Rattle.vote_kinds.specs.Ballot.{BallotLine, is_choice}
use Rattle.vote_record.specs.Bag.{IsInOrder, bag_at}
use Rattle.vote_record.specs.RdvData.{RdvData, room_at}
use Rattle.turnout.specs.Turnout.{number_came}
use Rattle.turnout.specs.declared.phase.Phase.{Phase}
use Rattle.turnout.specs.declared.phase.Phase.TheVariants as phase
use Rattle.image_codec.specs.State.{State}

-- the state of these voters before the poll: nobody came, and no panel has a vote
abbrev pub ready_state : TablesData → ℕ → State
ready_state t voters = record { phase = phase.Ready; came = replicate voters false; places = places_of t; bags = replicate (length t.panels) [] }

-- the moments of a phase are moments, and closing is not below opening
abbrev pub HasMoments : Phase → Type 0
HasMoments phase.Ready = Unit {0}
HasMoments (phase.Polling opened) = is_moment opened ≡ true
HasMoments (phase.Sealed opened closed) = (is_moment opened ≡ true) × (is_moment closed ≡ true) × (opened ≤ closed)

-- before the poll nobody came
abbrev pub IsStarted : Phase → ℕ → Type 0
IsStarted phase.Ready n = n ≡ 0
IsStarted (phase.Polling opened) n = Unit {0}
IsStarted (phase.Sealed opened closed) n = Unit {0}

-- so many voters have all voted: each panel has as many votes as they have in it
abbrev pub AllHaveVoted : ℕ → List ℕ → List (List Choice) → Type 0
AllHaveVoted n places bags = map length bags ≡ map (λ votes. n * votes) places

-- What is so of each state of a poll: its moments are moments, in a ready state nobody came, and each bag is in the order of
-- choices and has as many votes as the voters who came have in its panel.
pub record IsValid (s : State) : Type 0 where
  pub moments : HasMoments s.phase
  pub started : IsStarted s.phase (number_came s.came)
  pub full : AllHaveVoted (number_came s.came) s.places s.bags
  pub in_order : AllByRecursion IsInOrder s.bags

-- each vote in the bag of a line's panel is a choice of the line
abbrev pub HasChoices : List BallotLine → List (List Choice) → Type 0
HasChoices lines bags = AllByRecursion (λ line. AllByRecursion (λ c. is_choice line c ≡ true) (bag_at bags line.panel)) lines

-- each panel has room for the votes of one voter more
abbrev pub HasRoomForVoter : RdvData → Type 0
HasRoomForVoter r = (panel : ℕ) → panel < length r.bags → length (bag_at r.bags panel) + slice_index r.places panel ≤ room_at r panel

-- the poll is open, and a moment is not below its opening
abbrev pub MayClose : Phase → ℕ → Type 0
MayClose phase.Ready m = ⊥
MayClose (phase.Polling opened) m = opened ≤ m
MayClose (phase.Sealed opened closed) m = ⊥

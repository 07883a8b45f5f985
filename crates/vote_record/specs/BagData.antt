-- What contracts see of one bag, and the counters that it is stored as
use Rattle.std.specs.Prelude.{◌≡◌, ℕ, ◌+◌, ◌≤◌, Bool, true, false, List, length, map, take, drop, slice_get}
use Rattle.std.specs.List.{AllByRecursion}
use Rattle.std.specs.Option.{option_map_or}
use Rattle.vote_kinds.specs.declared.choice.Choice.{Choice}
use Rattle.vote_kinds.specs.Choice.{AreRising, choice_le, is_same}
use Rattle.vote_record.specs.Counters.{bag_with}
use Rattle.vote_record.specs.declared.counters.Counter.{Counter}

-- the members in the order of choices, how many of them there is room for, and how many counters there is memory for
pub record BagData : Type 0 where
  pub members : List Choice
  pub room : ℕ
  pub memory : ℕ

-- a choice's counter without votes
abbrev pub no_votes : Choice → Counter
no_votes c = record { choice = c; votes = 0 }

-- which choices are counted
abbrev pub choices_in : List Counter → List Choice
choices_in counters = map (λ x. x.choice) counters

-- the bag that is counted
abbrev pub members_of : List Counter → List Choice
members_of counters = bag_with (choices_in counters) (map (λ x. x.votes) counters)

-- whether the counter in a place is there, and is that of the choice
abbrev pub stands_at : Choice → List Counter → ℕ → Bool
stands_at c counters place = option_map_or (λ x. is_same c x.choice) (slice_get counters place) false

-- The place of a choice among counters, whether it has one or not: the choice stands behind those of all counters before the place, and
-- at or before those of all others.
pub record IsPlace (c : Choice) (counters : List Counter) (place : ℕ) : Type 0 where
  pub within : place ≤ length counters
  pub before : AllByRecursion (λ x. choice_le c x.choice ≡ false) (take place counters)
  pub others : AllByRecursion (λ x. choice_le c x.choice ≡ true) (drop place counters)

-- Counters rise by choice, and count `total` members, which are within the room. Since a member may be none of the panel's choices, there
-- is memory for one counter more with each member that there is still room for.
pub record AreStored (counters : List Counter) (total room memory : ℕ) : Type 0 where
  pub rise : AreRising (choices_in counters)
  pub counted : total ≡ length (members_of counters)
  pub within : total ≤ room
  pub reserved : length counters + room ≤ memory + total

-- What contracts see of the digital vote record
use Rattle.std.specs.Prelude.{◌≡◌, ℕ, ◌+◌, ◌*◌, ◌≤◌, true, List, [], length, replicate, map, slice_get, slice_index, IsSomeAnd}
use Rattle.std.specs.List.{sum_by}
use Rattle.election_tables.specs.Limits.{most_voters}
use Rattle.election_tables.specs.TablesData.{TablesData, places_of}
use Rattle.vote_kinds.specs.declared.choice.Choice.{Choice}
use Rattle.vote_kinds.specs.Ballot.{lines_by_panel, is_choice}
use Rattle.vote_record.specs.Bag.{with_vote}
use Rattle.vote_record.specs.BagData.{BagData}
use Rattle.vote_record.specs.Counters.{most_counters}

-- one bag of choices for each panel, the voters of the section, and for each panel how many votes a voter has in it
pub record RdvData : Type 0 where
  pub bags : List (List Choice)
  pub voters : ℕ
  pub places : List ℕ

-- the record of these voters where nobody has voted
abbrev pub empty_record : TablesData → ℕ → RdvData
empty_record t voters = record { bags = replicate (length t.panels) []; voters = voters; places = places_of t }

-- how many votes a panel has room for: the most that it can have
abbrev pub room_at : RdvData → ℕ → ℕ
room_at r panel = r.voters * slice_index r.places panel

-- one vote more in a panel
abbrev pub with_vote_in : ℕ → Choice → RdvData → RdvData
with_vote_in panel c r = record { bags = with_vote panel c r.bags; voters = r.voters; places = r.places }

-- what may be chosen in a panel
abbrev pub IsVote : TablesData → ℕ → Choice → Type 0
IsVote t panel c = IsSomeAnd (slice_get (lines_by_panel t) panel) (λ line. is_choice line c ≡ true)

-- Each bag has room for just every vote that its panel can have. All bags together have memory for just the most counters that tables with
-- as many panels need, and for one more with each vote that there is room for; the lists of the bags and of the places, for just what they
-- have. So what a record has memory for follows from its panels, its voters and their places, and none is taken later. There are at most
-- 600 voters.
pub record AreReserved (bags : List BagData) (voters : ℕ) (places : List ℕ) (bags_room places_room : ℕ) : Type 0 where
  pub few : voters ≤ most_voters
  pub rooms : map (λ b. b.room) bags ≡ map (λ n. voters * n) places
  pub memory : sum_by (λ b. b.memory) bags ≡ most_counters (length bags) + sum_by (λ b. b.room) bags
  pub bags_reserved : bags_room ≡ length bags
  pub places_reserved : places_room ≡ length places

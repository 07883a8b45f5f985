-- What the commits of a history put
use Rattle.std.proofs.Common.{ℕ, suc, ◌+◌, ◌*◌, ◌≤◌, List, [], ◌∷◌, length, arith}
use Rattle.std.specs.List.{AllByRecursion}
use Rattle.election_tables.specs.Limits.{most_voters}
use Rattle.election_tables.specs.TablesData.{IsTables, TablesData}
use Rattle.image_codec.specs.Encoding.{IsStateOf}
use Rattle.image_codec.specs.State.{State}
use Rattle.state_store.specs.Cost.{CostAtMost, ballot_bytes, bytes_along, commit_bytes}
use Rattle.state_store.proofs.PageBound.{ballot_costs_few, opening_costs_one_page, sealing_costs_one_page}
use Rattle.station.specs.Setting.{setting_of}
use Rattle.station.specs.States.{opening, voter, seal, IsHistory, IsNext, same, then}

next_costs : (t : TablesData) (titles : List ℕ) {s u : State} → IsTables t → length titles ≤ most_voters → IsStateOf t (length titles) s
    → IsNext (setting_of t titles) s u → commit_bytes t s u ≤ ballot_bytes t
next_costs t titles {s} tables few of (opening m ready) = let here = opening_costs_one_page t s m in omega arith
next_costs t titles {s} tables few of (voter place choices may ballot) = ballot_costs_few t (length titles) s place choices tables few of ballot
next_costs t titles {s} tables few of (seal m polling at) = let here = sealing_costs_one_page t s m in omega arith

-- states that each cost at most so much
pub costs_together : (t : TablesData) (most : ℕ) (s : State) (states : List State) → CostAtMost t most s states → bytes_along t s states ≤ length states * most
costs_together t most s [] none = omega arith
costs_together t most s (u ∷ states) (first, rest) = one_more (commit_bytes t s u) (bytes_along t u states) most (length states) first (costs_together t most u states rest)
  where
    one_more : (first rest each n : ℕ) → first ≤ each → rest ≤ n * each → first + rest ≤ suc n * each
    one_more first rest each n a b = omega arith

pub history_costs : (t : TablesData) (titles : List ℕ) {s last : State} {states : List State} → IsTables t → length titles ≤ most_voters → IsStateOf t (length titles) s
    → AllByRecursion (IsStateOf t (length titles)) states → IsHistory (setting_of t titles) s states last → CostAtMost t (ballot_bytes t) s states
history_costs t titles tables few of all same = tt
history_costs t titles tables few of all (then next more) = (next_costs t titles tables few of next, history_costs t titles tables few all.0 all.1 more)

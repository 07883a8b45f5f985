use Rattle.std.proofs.Common.{◌≡◌, ◌≢◌, ℕ, ◌<◌, ◌≤◌, get_or}
use Rattle.hash_chain.proofs.cut.last_space.Given as goal
use Rattle.hash_chain.specs.Cut.{part_size}

-- there is a space up to here, and none behind
abbrev pub invariant-loop-at : goal.invariant-loop-at
invariant-loop-at l =
    (l.at ≤ part_size) × ((k : ℕ) × (k ≤ l.at) × (get_or l.text k 0 ≡ 32))
    × ((k : ℕ) → l.at < k → k ≤ part_size → get_or l.text k 0 ≢ 32)

abbrev pub decreases-loop-at : goal.decreases-loop-at
decreases-loop-at l = l.at

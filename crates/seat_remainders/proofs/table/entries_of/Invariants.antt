use Rattle.std.proofs.Common.{◌≡◌, ℕ, ◌≤◌, ◌*◌, List, length, map, take}
use Rattle.quotients.specs.Order.{parts_of}
use Rattle.seat_remainders.specs.declared.contest.Contestant.{Contestant}
use Rattle.seat_remainders.specs.Standing.{standings_of}
use Rattle.seat_remainders.specs.Table.{entries_of, limit_of}
use Rattle.seat_remainders.proofs.table.entries_of.Given as goal

-- the averages of the parties so far, and few of them
abbrev pub invariant-loop-standing : goal.invariant-loop-standing
invariant-loop-standing l =
    record {
      told : (qe : ℕ) (parties : List Contestant) → l.standings ≡ standings_of qe parties
          → map parts_of l.entries.items ≡ entries_of qe l.awards (limit_of qe l.phase l.awards l.left) (take l.standing-index parties);
      few : length l.entries.items ≤ 200 * l.standing-index;
    }

use Rattle.std.proofs.Common.{◌≡◌, ℕ, ◌≤◌, ◌⊎◌, ◌+◌, ◌-◌, ◌++◌, length, map}
use Rattle.quotients.specs.Order.{parts_of}
use Rattle.seat_remainders.specs.declared.contest.Contestant.{Contestant}
use Rattle.seat_remainders.specs.Standing.{standing_of}
use Rattle.seat_remainders.specs.Table.{averages_from}
use Rattle.seat_remainders.proofs.table.push_entries.Given as goal

-- the averages so far
abbrev pub invariant-loop-seats : goal.invariant-loop-seats
invariant-loop-seats l =
    record {
      pushed : (qe : ℕ) (p : Contestant) → l.standing ≡ standing_of qe p
          → map parts_of l.entries.items ≡ map parts_of l.fn.entries.items ++ averages_from p (l.first + 1) (l.seats - l.first);
      count : length l.entries.items ≡ length l.fn.entries.items + (l.seats - l.first);
      within : (l.seats ≤ l.limit) ⊎ (l.seats ≡ l.first);
    }

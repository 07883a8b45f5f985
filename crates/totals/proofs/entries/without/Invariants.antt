use Rattle.std.proofs.Common.{◌≡◌, ◌==◌, ◌≤◌, length, filter, not, take}
use Rattle.totals.proofs.entries.without.Given as goal

-- those among the first
abbrev pub invariant-loop-entry : goal.invariant-loop-entry
invariant-loop-entry l = record {
  others : l.others ≡ filter (λ c. not (c.number == l.number)) (take l.entry-index l.entries);
  few : length l.others ≤ l.entry-index;
}

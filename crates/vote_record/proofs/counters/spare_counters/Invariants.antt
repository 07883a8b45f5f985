use Rattle.std.proofs.Common.{◌≡◌, ◌+◌, length}
use Rattle.vote_record.specs.Counters.{counters_before, most_counters}
use Rattle.vote_record.proofs.counters.spare_counters.Given as goal

abbrev pub invariant-loop-panel : goal.invariant-loop-panel
invariant-loop-panel l = l.spare + counters_before l.tables l.panel ≡ most_counters (length l.tables.panels)

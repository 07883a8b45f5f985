-- The counts of a machine's calls.
use Rattle.urna_outside.specs.Told.{Calls}
use Rattle.memory_outside.specs.declared.call_counts.CallCounts.{CallCounts}

-- the calls that were counted
abbrev pub calls_in : CallCounts → Calls
calls_in calls = record { made = calls.made; failed = calls.failed; last_failed = calls.last_failed }

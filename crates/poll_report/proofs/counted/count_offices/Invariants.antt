use Rattle.std.proofs.Common.{◌≡◌}
use Rattle.poll_report.proofs.Listing.{first_counts}
use Rattle.poll_report.proofs.counted.count_offices.Given as goal

-- the first panels were counted
abbrev pub invariant-loop-panel : goal.invariant-loop-panel
invariant-loop-panel l = l.offices ≡ first_counts l.tables l.votes.bags l.panel

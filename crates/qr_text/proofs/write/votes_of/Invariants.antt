use Rattle.std.proofs.Common.{◌≡◌, take}
use Rattle.poll_report.specs.Report.{votes_of}
use Rattle.qr_text.proofs.write.votes_of.Given as goal

abbrev pub invariant-loop-count : goal.invariant-loop-count
invariant-loop-count l = l.votes ≡ votes_of (take l.count-index l.counts)

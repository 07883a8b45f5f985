use Rattle.std.proofs.Common.{◌≡◌, ◌+◌, ◌*◌, ◌<◌, ◌≤◌, ◌^◌, [], length}
use Rattle.poll_report.specs.Report.{digits_in, votes_of}
use Rattle.qr_text.proofs.votes.read_votes.Given as goal
use Rattle.qr_text.specs.Votes.{votes_reading}

abbrev pub invariant-loop-count : goal.invariant-loop-count
invariant-loop-count l = record {
  same : votes_reading (digits_in l.code) l.party 0 [] l.fn.reader ≡ votes_reading (digits_in l.code) l.party l.last l.counts l.reader;
  votes : l.votes ≡ votes_of l.counts;
  few : l.votes + 9999 * length l.reader.left ≤ 9999 * length l.fn.reader.left;
  short : length l.fn.reader.left < 2 ^ 32;
  fewer : length l.counts + length l.reader.left ≤ length l.fn.reader.left;
}

abbrev pub decreases-loop-count : goal.decreases-loop-count
decreases-loop-count l = length l.reader.left

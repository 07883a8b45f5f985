use Rattle.std.proofs.Common.{◌≡◌, ◌+◌, ◌*◌, ◌<◌, ◌≤◌, ◌^◌, [], length}
use Rattle.std.specs.List.{sum_by}
use Rattle.poll_report.specs.Report.{votes_of}
use Rattle.qr_text.proofs.VotesJoin.{Last, party_numbers}
use Rattle.qr_text.proofs.votes.read_parties.Given as goal
use Rattle.qr_text.specs.Fronts.{goes, with_parties}
use Rattle.qr_text.specs.declared.said.Said.{Said}

abbrev pub invariant-loop-number : goal.invariant-loop-number
invariant-loop-number l = record {
  same : (q : Said) → goes (with_parties q l.code []) l.fn.reader ≡ goes (with_parties q l.code l.items) l.reader;
  rising : Last l.last (party_numbers l.items);
  nominal : l.nominal ≡ sum_by (λ p. votes_of p.candidates) l.items;
  legend : l.legend ≡ sum_by (λ p. p.legend) l.items;
  few : l.nominal + l.legend + 9999 * length l.reader.left ≤ 9999 * length l.fn.reader.left;
  short : length l.fn.reader.left < 2 ^ 32;
}

abbrev pub decreases-loop-number : goal.decreases-loop-number
decreases-loop-number l = length l.reader.left

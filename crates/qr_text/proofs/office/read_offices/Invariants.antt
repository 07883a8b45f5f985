use Rattle.std.proofs.Common.{◌≡◌, [], length}
use Rattle.qr_text.proofs.office.read_offices.Given as goal
use Rattle.qr_text.specs.Fronts.{behind, goes}

abbrev pub invariant-loop-offices : goal.invariant-loop-offices
invariant-loop-offices l = record {
  same : goes (behind l.head []) l.fn.reader ≡ goes (behind l.head l.offices) l.reader;
  wanted : l.reader.left ≡ [] → l.offices ≡ [];
}

abbrev pub decreases-loop-offices : goal.decreases-loop-offices
decreases-loop-offices l = length l.reader.left

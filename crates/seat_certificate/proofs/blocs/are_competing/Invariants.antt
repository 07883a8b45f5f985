use Rattle.std.proofs.Common.{◌≡◌, ◌≤◌, length, take}
use Rattle.seat_certificate.specs.Blocs.{averages_of}
use Rattle.seat_certificate.proofs.blocs.are_competing.Given as goal

-- the averages so far are those of the blocs so far
abbrev pub invariant-loop-bloc : goal.invariant-loop-bloc
invariant-loop-bloc l =
    record {
      within : l.place ≤ length l.averages;
      front : take l.place l.averages ≡ averages_of l.phase (take l.bloc-index l.blocs);
    }

use Rattle.std.proofs.Common.{◌≡◌, ◌≤◌, length, take}
use Rattle.seat_certificate.specs.Blocs.{averages_of}
use Rattle.seat_certificate.proofs.blocs.competing.Given as goal

-- the averages of the blocs so far
abbrev pub invariant-loop-bloc : goal.invariant-loop-bloc
invariant-loop-bloc l =
    record {
      told : l.averages ≡ averages_of l.phase (take l.bloc-index l.blocs);
      few : length l.averages ≤ l.bloc-index;
    }

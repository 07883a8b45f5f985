use Rattle.std.proofs.Common.{◌≡◌, ◌≤◌, [], length, take}
use Rattle.seat_certificate.specs.Blocs.{blocs_after}
use Rattle.seat_certificate.specs.Certificate.{rounds_of}
use Rattle.seat_certificate.proofs.certified.rounds_of.Given as goal

-- the rounds so far are those of the awards so far, and the blocs are behind them
abbrev pub invariant-loop-award : goal.invariant-loop-award
invariant-loop-award l =
    record {
      rounds : l.rounds ≡ rounds_of l.qe l.contest.parties [] (take l.award-index l.awards);
      few : length l.rounds ≤ l.award-index;
      blocs : l.blocs.items ≡ blocs_after l.qe (take l.award-index l.awards) l.contest.parties;
    }

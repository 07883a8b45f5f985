use Rattle.std.proofs.Common.{◌≡◌, take}
use Rattle.seat_certificate.specs.Blocs.{blocs_after}
use Rattle.seat_certificate.specs.Certificate.{EachIsLawful, awards_in}
use Rattle.seat_certificate.proofs.check.blocs_behind.Given as goal

-- the rounds so far are the law's, and the blocs are behind them
abbrev pub invariant-loop-i : goal.invariant-loop-i
invariant-loop-i l =
    record {
      lawful : EachIsLawful l.contest l.qe (take l.i l.rounds);
      blocs : l.blocs.items ≡ blocs_after l.qe (awards_in (take l.i l.rounds)) l.contest.parties;
    }

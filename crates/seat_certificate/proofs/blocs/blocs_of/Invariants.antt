use Rattle.std.proofs.Common.{◌≡◌, ◌≤◌, [], take}
use Rattle.seat_certificate.specs.Blocs.{blocs_after}
use Rattle.seat_certificate.proofs.blocs.blocs_of.Given as goal

-- the blocs so far, which are few
abbrev pub invariant-loop-party : goal.invariant-loop-party
invariant-loop-party l =
    record {
      counted : l.blocs.items ≡ blocs_after l.qe [] (take l.party-index l.party-items);
      few : l.party-index ≤ 256;
    }

use Rattle.std.proofs.Common.{◌≡◌, ◌++◌, drop, map, take}
use Rattle.seat_certificate.specs.Blocs.{seated}
use Rattle.seat_certificate.proofs.blocs.give_seat.Given as goal

-- the blocs so far are behind the round
abbrev pub invariant-loop-bloc : goal.invariant-loop-bloc
invariant-loop-bloc l = l.blocs ≡ map (seated l.party) (take l.bloc-index l.fn.blocs) ++ drop l.bloc-index l.fn.blocs

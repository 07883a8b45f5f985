use Rattle.std.proofs.Common.{◌≡◌, false, take}
use Rattle.std.specs.List.{list_any}
use Rattle.seat_certificate.specs.Blocs.{competes}
use Rattle.seat_certificate.proofs.blocs.any_competes.Given as goal

-- none of the blocs so far competes
abbrev pub invariant-loop-bloc : goal.invariant-loop-bloc
invariant-loop-bloc l = list_any (competes l.phase) (take l.bloc-index l.blocs) ≡ false

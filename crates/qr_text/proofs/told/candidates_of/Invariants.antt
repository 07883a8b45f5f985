use Rattle.std.proofs.Common.{◌≡◌, ◌++◌, take}
use Rattle.std.specs.List.{flat_map}
use Rattle.qr_text.proofs.told.candidates_of.Given as goal

abbrev pub invariant-loop-party : goal.invariant-loop-party
invariant-loop-party l = l.counts ≡ l.office.candidates ++ flat_map (λ p. p.candidates) (take l.party-index l.party-items)

use Rattle.std.proofs.Common.{◌≡◌, take}
use Rattle.std.specs.List.{flat_map}
use Rattle.qr_text.proofs.told.legends_of.Given as goal
use Rattle.qr_text.specs.Reported.{legend_of}

abbrev pub invariant-loop-party : goal.invariant-loop-party
invariant-loop-party l = l.counts ≡ flat_map legend_of (take l.party-index l.party-items)

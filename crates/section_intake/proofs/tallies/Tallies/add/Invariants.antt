use Rattle.std.proofs.Common.{◌≡◌, take}
use Rattle.section_intake.specs.Kept.{with_counts}
use Rattle.section_intake.proofs.tallies.Tallies.add.Given as goal

abbrev pub invariant-loop-count : goal.invariant-loop-count
invariant-loop-count l = l.self ≡ with_counts (take l.count-index l.counts) l.initial.self

use Rattle.std.proofs.Common.{◌≡◌, take}
use Rattle.section_intake.specs.Kept.{with_offices}
use Rattle.section_intake.proofs.panel_sums.add_offices.Given as goal

abbrev pub invariant-loop-panel : goal.invariant-loop-panel
invariant-loop-panel l = l.sums ≡ with_offices (take l.panel l.offices) l.initial.sums

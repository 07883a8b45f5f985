use Rattle.std.proofs.Common.{◌≡◌, drop}
use Rattle.vote_kinds.specs.Ballot.{lines_by_panel}
use Rattle.section_intake.specs.Fitting.{fit_lines}
use Rattle.section_intake.proofs.fitting.fit_panels.Given as goal

abbrev pub invariant-loop-panel : goal.invariant-loop-panel
invariant-loop-panel l = fit_lines (lines_by_panel l.tables) l.fn.offices ≡ fit_lines (drop l.panel (lines_by_panel l.tables)) (drop l.panel l.fn.offices)

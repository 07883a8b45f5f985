use Rattle.std.proofs.Common.{ℕ, ◌<◌}
use Rattle.urna_commands.specs.Office.{IsOfficeAt}
use Rattle.urna_commands.proofs.office.panel_of.Given as goal

-- none of the first panels is the office's
abbrev pub invariant-loop-panel : goal.invariant-loop-panel
invariant-loop-panel l = (p : ℕ) → p < l.panel → ¬ IsOfficeAt l.tables l.code p

use Rattle.std.proofs.Common.{◌≡◌, ℕ, List, ◌∷◌, length, take}
use Rattle.poll_report.specs.declared.report.Report.{Report}
use Rattle.section_intake.specs.Intake.{accepted_files}
use Rattle.section_intake.specs.Sums.{AreReportsOf}
use Rattle.totals.specs.Lines.{section_line}
use Rattle.totals.specs.Totals.{TellPanels}
use Rattle.totals.proofs.results.total_lines.Given as goal

-- the line of the sections, and those of the first panels
abbrev pub invariant-loop-panel : goal.invariant-loop-panel
invariant-loop-panel l = (reports : List Report) → AreReportsOf (accepted_files l.intake) reports
    → (told : List (List ℕ)) × TellPanels l.tables reports 0 (take l.panel l.tables.panels) told
    × (l.lines.items ≡ section_line (length reports) (length l.tables.sections) ∷ told)

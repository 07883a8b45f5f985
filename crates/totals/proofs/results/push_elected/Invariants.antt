use Rattle.std.proofs.Common.{◌≡◌, ◌++◌, List, take}
use Rattle.election_tables.specs.TablesData.{TablesData}
use Rattle.poll_report.specs.declared.report.Report.{Report}
use Rattle.section_intake.specs.Intake.{IsIntakeFor, accepted_files}
use Rattle.section_intake.specs.Sums.{AreReportsOf, nominal_sum}
use Rattle.totals.specs.Lines.{elected_lines}
use Rattle.totals.proofs.results.push_elected.Given as goal

abbrev pub invariant-loop-i : goal.invariant-loop-i
invariant-loop-i l = (t : TablesData) (reports : List Report) → IsIntakeFor t l.intake → AreReportsOf (accepted_files l.intake) reports
    → l.lines.items ≡ l.fn.lines.items ++ elected_lines (λ number. nominal_sum l.panel number reports) (take l.i l.elected)

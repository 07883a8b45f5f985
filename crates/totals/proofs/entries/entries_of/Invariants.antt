use Rattle.std.proofs.Common.{◌≡◌, List, length, map, take}
use Rattle.poll_report.specs.declared.report.Report.{Report}
use Rattle.section_intake.specs.Intake.{accepted_files}
use Rattle.section_intake.specs.Sums.{AreReportsOf}
use Rattle.election_tables.specs.TablesData.{candidates_at}
use Rattle.totals.specs.Contest.{entry_of}
use Rattle.totals.proofs.entries.entries_of.Given as goal

-- the first candidates
abbrev pub invariant-loop-i : goal.invariant-loop-i
invariant-loop-i l = record {
  entries : (reports : List Report) → AreReportsOf (accepted_files l.intake) reports
      → l.entries ≡ map (entry_of reports l.panel) (take l.i (candidates_at l.panel l.tables));
  count : length l.entries ≡ l.i;
}

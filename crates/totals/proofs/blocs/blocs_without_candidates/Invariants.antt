use Rattle.std.proofs.Common.{◌≡◌, ◌==◌, ◌≤◌, List, length, map, filter, take}
use Rattle.poll_report.specs.declared.report.Report.{Report}
use Rattle.section_intake.specs.Intake.{accepted_files}
use Rattle.section_intake.specs.Sums.{AreReportsOf}
use Rattle.election_tables.specs.TablesData.{bloc_of}
use Rattle.totals.specs.Contest.{party_numbers}
use Rattle.totals.specs.Giving.{without_candidates}
use Rattle.totals.proofs.blocs.blocs_without_candidates.Given as goal

-- those among the first parties
abbrev pub invariant-loop-i : goal.invariant-loop-i
invariant-loop-i l = record {
  blocs : (reports : List Report) → AreReportsOf (accepted_files l.intake) reports
      → l.blocs ≡ map (without_candidates l.tables reports l.panel) (filter (λ party. bloc_of l.tables.federations party == party) (take l.i (party_numbers l.tables)));
  few : length l.blocs ≤ l.i;
}

use Rattle.std.proofs.Common.{◌≡◌, ◌==◌, List, filter, sum_by, take}
use Rattle.poll_report.specs.declared.report.Report.{Report}
use Rattle.section_intake.specs.Intake.{accepted_files}
use Rattle.section_intake.specs.Sums.{AreReportsOf, party_sum}
use Rattle.election_tables.specs.TablesData.{bloc_of}
use Rattle.totals.specs.Contest.{party_numbers}
use Rattle.totals.proofs.blocs.party_votes_for.Given as goal

-- those of the first parties
abbrev pub invariant-loop-i : goal.invariant-loop-i
invariant-loop-i l = (reports : List Report) → AreReportsOf (accepted_files l.intake) reports
    → l.votes ≡ sum_by (λ party. party_sum l.panel party reports) (filter (λ party. bloc_of l.tables.federations party == l.bloc) (take l.i (party_numbers l.tables)))

use Rattle.std.proofs.Common.{◌≡◌, List, sum_by, map, take}
use Rattle.poll_report.specs.declared.report.Report.{Report}
use Rattle.section_intake.specs.Intake.{accepted_files}
use Rattle.section_intake.specs.Sums.{AreReportsOf, party_sum}
use Rattle.totals.proofs.votes.party_votes.Given as goal

-- those of the first parties
abbrev pub invariant-loop-i : goal.invariant-loop-i
invariant-loop-i l = (reports : List Report) → AreReportsOf (accepted_files l.intake) reports
    → l.votes ≡ sum_by (λ n. party_sum l.panel n reports) (take l.i (map (λ q. q.number) l.tables.parties))

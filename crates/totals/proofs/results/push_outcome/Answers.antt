use Rattle.std.proofs.Common.{◌≡◌, ◌++◌, ℕ, List, OnOk, codes, sym, ap, subst, ◌∙◌}
use Rattle.urna_base.specs.Lines.{two_number_line}
use Rattle.poll_report.specs.declared.report.Report.{Report}
use Rattle.section_intake.specs.Intake.{accepted_files}
use Rattle.section_intake.specs.Sums.{AreReportsOf, nominal_sum}
use Rattle.seat_remainders.specs.declared.outcome.Outcome.{Outcome}
use Rattle.totals.specs.Lines.{outcome_lines}
use Rattle.totals.proofs.LineLaws.{line_behind}
use Rattle.totals.proofs.results.push_outcome.Goals as goal

pub returns-in-Seats : goal.returns-in-Seats
returns-in-Seats c =
    let intake = c.args.intake.now in
    let fn = c.args.lines.now.items in
    subst (λ (o : Outcome). OnOk c.push_seats.result ((reports : List Report) → AreReportsOf (accepted_files intake) reports
    → c.push_seats.new.lines.items ≡ fn ++ outcome_lines c.args.tables.now (λ number. nominal_sum c.args.panel number reports) o)) (sym c.in-Seats.is) c.push_seats.ensures

pub returns-in_ok-push-in-NoQuotient : goal.returns-in_ok-push-in-NoQuotient
returns-in_ok-push-in-NoQuotient c reports read =
    let fn = c.args.lines.now.items in
    let votes : ℕ → ℕ = λ number. nominal_sum c.args.panel number reports in
    line_behind _ fn _ _ c.in_ok-push-in-NoQuotient.ensures.items (c.two_number_line.ensures ∙ ap (two_number_line (codes "SEM QUOCIENTE ") c.in-NoQuotient.valid (codes " ")) c.from.ensures)
    ∙ ap (λ (o : Outcome). fn ++ outcome_lines c.args.tables.now votes o) (sym c.in-NoQuotient.is)

pub returns-in_ok-push-in-Over : goal.returns-in_ok-push-in-Over
returns-in_ok-push-in-Over c reports read =
    let fn = c.args.lines.now.items in
    let votes : ℕ → ℕ = λ number. nominal_sum c.args.panel number reports in
    line_behind _ fn _ _ c.in_ok-push-in-Over.ensures.items (c.two_number_line-in-Over.ensures ∙ ap (two_number_line (codes "QUOCIENTE EXCEDIDO ") c.in-Over.first (codes " ")) c.from-in-Over.ensures)
    ∙ ap (λ (o : Outcome). fn ++ outcome_lines c.args.tables.now votes o) (sym c.in-Over.is)

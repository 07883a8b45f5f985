use Rattle.std.proofs.Common.{[], ◌++◌, ℕ, List, length, refl, ap, ◌∙◌, arith}
use Rattle.section_intake.proofs.ReportLaws.{as_many}
use Rattle.section_intake.specs.Intake.{accepted_files}
use Rattle.totals.specs.Lines.{section_line}
use Rattle.totals.proofs.LineLaws.{behind, line_behind}
use Rattle.totals.proofs.TotalsLaws.{panels_more}
use Rattle.totals.proofs.results.total_lines.Goals as goal

pub loop-panel-init : goal.loop-panel-init
loop-panel-init c reports read =
    let many = c.accepted.ensures ∙ as_many (accepted_files c.args.intake.now) reports read in (
      [],
      refl,
      line_behind _ [] _ _ (behind _ _ [] [] _ c.in_ok-push.ensures.items c.new-lines.ensures.items)
          (c.section_line.ensures ∙ (ap (λ (n : ℕ). section_line n c.section_count.result) many ∙ ap (section_line (length reports)) c.section_count.ensures.count)),
    )

pub loop-panel-preserved : goal.loop-panel-preserved
loop-panel-preserved c reports read =
    let t = c.args.tables.now in
    let so_far = c.loop-panel.invariant reports read in
    let own = c.in_ok-push_panel.ensures reports read in (
      so_far.0 ++ own.0,
      panels_more t reports c.loop-panel.panel so_far.0 own.0 (omega (arith, c.loop-panel-test.true, c.panels-panel-end.ensures.count)) so_far.1 own.1,
      own.2 ∙ ap (λ (ls : List (List ℕ)). ls ++ own.0) so_far.2,
    )

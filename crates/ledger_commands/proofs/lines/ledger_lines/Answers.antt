use Rattle.std.proofs.Common.{◌∷◌, [], ◌++◌, ℕ, List, length, sym, ap, ◌∙◌, arith}
use Rattle.std.proofs.lemmas.List.{take_all}
use Rattle.election_tables.specs.declared.tables.panels.Panel.{Panel}
use Rattle.totals.specs.Lines.{section_line}
use Rattle.totals.proofs.LineLaws.{behind, line_behind}
use Rattle.vote_kinds.specs.Ballot.{panel_at}
use Rattle.intake_ledger.specs.Ledger.{accepted_in}
use Rattle.ledger_commands.specs.Lines.{panel_lines, panels_lines}
use Rattle.ledger_commands.proofs.Sums.{panels_more, told_number}
use Rattle.ledger_commands.proofs.lines.ledger_lines.Goals as goal

pub loop-panel-init : goal.loop-panel-init
loop-panel-init c l are =
    let many = c.accepted.ensures ∙ told_number c.args.tables.now l c.args.sums.now are in
    line_behind _ [] _ _ (behind _ _ [] [] _ c.in_ok-push.ensures.items c.new-lines.ensures.items)
    (c.section_line.ensures ∙ (ap (λ (n : ℕ). section_line n c.section_count.result) many ∙ ap (section_line (accepted_in l)) c.section_count.ensures.count))

pub loop-panel-preserved : goal.loop-panel-preserved
loop-panel-preserved c l are =
    let t = c.args.tables.now in
    let i = c.loop-panel.panel in
    let first = section_line (accepted_in l) (length t.sections) in
    c.in_ok-push_panel.ensures l are ∙ ap (λ (ls : List (List ℕ)). ls ++ panel_lines t l i (panel_at t i)) (c.loop-panel.invariant l are)
    ∙ ap (λ (ls : List (List ℕ)). first ∷ ls) (sym (panels_more t l i (omega (arith, c.loop-panel-test.true, c.panels-panel-end.ensures.count))))

pub returns : goal.returns
returns c l are =
    let t = c.args.tables.now in
    c.loop-panel.invariant l are
    ∙ ap (λ (ps : List Panel). section_line (accepted_in l) (length t.sections) ∷ panels_lines t l 0 ps)
    (take_all c.loop-panel.panel t.panels (omega (arith, c.loop-panel-test.false, c.panels-panel-end.ensures.count)))

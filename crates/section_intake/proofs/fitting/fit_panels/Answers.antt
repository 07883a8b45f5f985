use Rattle.std.proofs.Common.{◌∙◌, ◌&&◌, drop, ◌+◌, Bool, sym, ap, arith}
use Rattle.vote_kinds.specs.Ballot.{lines_by_panel}
use Rattle.vote_kinds.proofs.Lookups.{by_panel_length}
use Rattle.section_intake.specs.Fitting.{fit_lines}
use Rattle.section_intake.proofs.FitLaws.{fit_more, fit_none, other_lengths}
use Rattle.section_intake.proofs.fitting.fit_panels.Goals as goal

pub returns-then-offices-panels : goal.returns-then-offices-panels
returns-then-offices-panels c =
    let many = by_panel_length c.args.tables.now in
    let panels = c.panels-panels.ensures.count in
    let other = c.if-offices-panels.true in
    sym (other_lengths _ c.args.offices.now (λ same. other (same ∙ (many ∙ sym panels))))

pub returns-then-not-fits_panel : goal.returns-then-not-fits_panel
returns-then-not-fits_panel c =
    let panels = c.panels-panels.ensures.count in
    let lengths = c.if-offices-panels.false in
    let lt = c.loop-panel-test.true in
    let more = fit_more c.args.tables.now c.loop-panel.panel c.args.offices.now c.index-offices-panel.result (omega arith) (omega arith) c.index-offices-panel.is in
    let rest : Bool = fit_lines (drop (c.loop-panel.panel + 1) (lines_by_panel c.args.tables.now)) (drop (c.loop-panel.panel + 1) c.args.offices.now) in
    sym (c.loop-panel.invariant ∙ (more ∙ ap (λ (b : Bool). b && rest) (sym c.fits_panel.ensures ∙ c.if-not-fits_panel.true)))

pub loop-panel-preserved : goal.loop-panel-preserved
loop-panel-preserved c =
    let panels = c.panels-panels.ensures.count in
    let lengths = c.if-offices-panels.false in
    let lt = c.loop-panel-test.true in
    let more = fit_more c.args.tables.now c.loop-panel.panel c.args.offices.now c.index-offices-panel.result (omega arith) (omega arith) c.index-offices-panel.is in
    let rest : Bool = fit_lines (drop (c.loop-panel.panel + 1) (lines_by_panel c.args.tables.now)) (drop (c.loop-panel.panel + 1) c.args.offices.now) in
    c.loop-panel.invariant ∙ (more ∙ ap (λ (b : Bool). b && rest) (sym c.fits_panel.ensures ∙ c.if-not-fits_panel.false))

pub returns : goal.returns
returns c =
    let panels = c.panels-panels.ensures.count in
    let lengths = c.if-offices-panels.false in
    let end = c.loop-panel-test.false in
    sym (c.loop-panel.invariant ∙ fit_none c.args.tables.now c.loop-panel.panel c.args.offices.now (omega arith) (omega arith))

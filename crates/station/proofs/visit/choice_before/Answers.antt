use Rattle.std.proofs.Common.{◌≡◌, ◌-◌, ℕ, List, length, slice_get, Some, option_copied, sym, ap, ◌∙◌}
use Rattle.election_tables.specs.TablesData.{line_panels}
use Rattle.vote_kinds.specs.declared.choice.Choice.{Choice}
use Rattle.station.proofs.Lines.{of_another, of_panel}
use Rattle.station.proofs.visit.choice_before.Goals as goal

pub returns-in-Some : goal.returns-in-Some
returns-in-Some c = λ titles.
    let t = c.args.tables.now in
    let choices = c.args.choices.now.items in
    let at : slice_get (line_panels t) (length choices - 1) ≡ Some c.line_panel.result = ap (λ (n : ℕ). slice_get (line_panels t) (n - 1)) (sym c.len.ensures.value) ∙ c.line_panel.ensures.panel in
    let last : slice_get choices (length choices - 1) ≡ Some c.in-Some.field-0.now =
    ap (λ (cs : List Choice). slice_get cs (length cs - 1)) (sym c.deref.ensures.0) ∙ (sym c.last.ensures.value ∙ ap option_copied c.in-Some.is) in
    of_panel t titles choices c.args.panel c.line_panel.result c.in-Some.field-0.now at last c.if-line_panel-panel.true

pub returns-in_default : goal.returns-in_default
returns-in_default c = λ titles.
    let t = c.args.tables.now in
    let choices = c.args.choices.now.items in
    let at : slice_get (line_panels t) (length choices - 1) ≡ Some c.line_panel.result = ap (λ (n : ℕ). slice_get (line_panels t) (n - 1)) (sym c.len.ensures.value) ∙ c.line_panel.ensures.panel in
    let last : slice_get choices (length choices - 1) ≡ Some c.in-Some.field-0.now =
    ap (λ (cs : List Choice). slice_get cs (length cs - 1)) (sym c.deref.ensures.0) ∙ (sym c.last.ensures.value ∙ ap option_copied c.in-Some.is) in
    of_another t titles choices c.args.panel c.line_panel.result c.in-Some.field-0.now at last c.if-line_panel-panel.false

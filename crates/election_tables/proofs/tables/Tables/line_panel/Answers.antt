use Rattle.std.proofs.Common.{◌≤◌, ◌<◌, ◌+◌, ℕ, List, length, ap, subst, slice_get, ◌∙◌, arith}
use Rattle.election_tables.specs.TablesData.{places_at}
use Rattle.election_tables.proofs.LinePanels.{IsAt, at_line, at_next, at_panel, at_start, lines_are}
use Rattle.election_tables.proofs.tables.Tables.line_panel.Goals as goal

pub loop-left-init : goal.loop-left-init
loop-left-init c =
    let t = c.args.self.now in
    at_start (places_at t) (length t.panels) c.args.line (subst (λ (lines : List ℕ). c.args.line < length lines) (lines_are t) c.requires)

pub overflow_add-panel : goal.overflow_add-panel
overflow_add-panel c =
    let t = c.args.self.now in
    let lt = at_panel (places_at t) (length t.panels) c.args.line c.loop-left.panel c.loop-left.left c.loop-left.invariant in
    omega (arith, lt, c.panels-panels.ensures.tables.panel_count.1)

pub loop-left-preserved : goal.loop-left-preserved
loop-left-preserved c =
    let t = c.args.self.now in
    let here = c.places.ensures.places in
    let le : places_at t c.loop-left.panel ≤ c.loop-left.left = omega (arith, here, c.loop-left-test.true) in
    subst (λ (k : ℕ). IsAt (places_at t) (length t.panels) c.args.line (c.loop-left.panel + 1) k) (omega (arith, c.places-left.ensures.places))
    (at_next (places_at t) (length t.panels) c.args.line c.loop-left.panel c.loop-left.left c.loop-left.invariant le)

pub returns-clause-panel : goal.returns-clause-panel
returns-clause-panel c =
    let t = c.args.self.now in
    let lt : c.loop-left.left < places_at t c.loop-left.panel = omega (arith, c.places.ensures.places, c.loop-left-test.false) in
    ap (λ (lines : List ℕ). slice_get lines c.args.line) (lines_are t) ∙ at_line (places_at t) (length t.panels) c.args.line c.loop-left.panel c.loop-left.left c.loop-left.invariant lt

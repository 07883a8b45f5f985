use Rattle.std.proofs.Common.{◌≡◌, ◌+◌, ℕ, suc, List, length, ap, add-one, arith}
use Rattle.election_tables.specs.TablesData.{places_at}
use Rattle.election_tables.proofs.LinePanels.{length-lines_more, lines_are, lines_over}
use Rattle.election_tables.proofs.PlacesOfPanels.{lines_before, lines_few}
use Rattle.election_tables.proofs.tables.Tables.ballot_lines.Goals as goal

pub overflow_add-lines : goal.overflow_add-lines
overflow_add-lines c =
    let t = c.args.self.now in
    omega (arith, c.loop-panel.invariant, lines_before t c.panels-panel-end.ensures.tables c.loop-panel.panel (omega arith), c.panels-panel-end.ensures.tables.panel_count.1)

pub loop-panel-preserved : goal.loop-panel-preserved
loop-panel-preserved c =
    let t = c.args.self.now in
    let n = c.loop-panel.panel in
    let more = length-lines_more (places_at t) 0 n in
    let here : places_at t (0 + n) ≡ places_at t n = ap (places_at t) (omega arith) in
    let next : length (lines_over (places_at t) 0 (n + 1)) ≡ length (lines_over (places_at t) 0 (suc n)) = ap (λ (k : ℕ). length (lines_over (places_at t) 0 k)) (add-one n) in
    omega (arith, c.loop-panel.invariant, more, here, next, c.places-lines.ensures.places)

pub returns-clause-count : goal.returns-clause-count
returns-clause-count c =
    let t = c.args.self.now in
    let all = ap (λ (lines : List ℕ). length lines) (lines_are t) in
    let end : length (lines_over (places_at t) 0 c.loop-panel.panel) ≡ length (lines_over (places_at t) 0 (length t.panels)) = ap (λ (k : ℕ). length (lines_over (places_at t) 0 k)) (omega arith) in
    omega (arith, c.loop-panel.invariant, all, end)

pub returns-clause-few : goal.returns-clause-few
returns-clause-few c =
    let t = c.args.self.now in
    let all = ap (λ (lines : List ℕ). length lines) (lines_are t) in
    let end : length (lines_over (places_at t) 0 c.loop-panel.panel) ≡ length (lines_over (places_at t) 0 (length t.panels)) = ap (λ (k : ℕ). length (lines_over (places_at t) 0 k)) (omega arith) in
    omega (arith, c.loop-panel.invariant, all, end, lines_few t c.panels-panel-end.ensures.tables, c.panels-panel-end.ensures.tables.panel_count.1)

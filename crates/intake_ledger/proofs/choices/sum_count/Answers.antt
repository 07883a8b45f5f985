use Rattle.std.proofs.Common.{◌≡◌, ℕ, ◌+◌, ◌-◌, ◌<◌, ◌≤◌, length, ap, ◌∙◌, arith}
use Rattle.election_tables.specs.TablesData.{IsTables, TablesData}
use Rattle.intake_ledger.specs.Layout.{most_sums}
use Rattle.intake_ledger.proofs.PanelChoices.{all_choices, first_choices, no_fewer, one_panel_longer, sums_few}
use Rattle.intake_ledger.proofs.choices.sum_count.Goals as goal

-- no more choices than tables have
pub few_so_far : (t : TablesData) (panel : ℕ) → IsTables t → panel ≤ length t.panels → length (first_choices t panel) ≤ most_sums
few_so_far t panel tables le =
    let behind : ℕ = length t.panels - panel in
    let last : panel + behind ≡ length t.panels = omega arith in
    omega (arith, no_fewer t panel behind (omega (arith, last)), ap (λ (k : ℕ). length (first_choices t k)) last, ap length (all_choices t), sums_few t tables)

abbrev pub overflow_add-count : goal.overflow_add-count
overflow_add-count c =
    let t = c.args.tables.now in
    let panel : ℕ = c.loop-panel.panel in
    let within : panel < length t.panels = omega (arith, c.loop-panel-test.true, c.panels-panels.ensures.count) in
    omega (
      arith,
      c.loop-panel.invariant,
      c.choice_count-count.ensures.count,
      one_panel_longer t panel within,
      few_so_far t (panel + 1) c.choice_count-count.ensures.tables (omega arith),
    )

pub loop-panel-preserved : goal.loop-panel-preserved
loop-panel-preserved c =
    let t = c.args.tables.now in
    let panel : ℕ = c.loop-panel.panel in
    let within : panel < length t.panels = omega (arith, c.loop-panel-test.true, c.panels-panels.ensures.count) in
    omega (arith, c.loop-panel.invariant, c.choice_count-count.ensures.count, one_panel_longer t panel within)

pub returns-clause-count : goal.returns-clause-count
returns-clause-count c =
    let t = c.args.tables.now in
    let panel : ℕ = c.loop-panel.panel in
    let all : panel ≡ length t.panels = omega (arith, c.loop-panel-test.false, c.loop-panel.auto.panel-end, c.panels-panels.ensures.count) in
    c.loop-panel.invariant ∙ ap (λ (k : ℕ). length (first_choices t k)) all ∙ ap length (all_choices t)

pub returns-clause-few : goal.returns-clause-few
returns-clause-few c =
    let t = c.args.tables.now in
    let panel : ℕ = c.loop-panel.panel in
    let within : panel ≤ length t.panels = omega (arith, c.loop-panel.auto.panel-end, c.panels-panels.ensures.count) in
    omega (arith, c.loop-panel.invariant, few_so_far t panel c.panels-panels.ensures.tables within)

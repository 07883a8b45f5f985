use Rattle.std.proofs.Common.{◌≡◌, ◌++◌, ℕ, ◌+◌, ◌-◌, ◌<◌, List, length, sym, ap, ◌∙◌, arith}
use Rattle.vote_kinds.specs.Ballot.{line_of}
use Rattle.vote_kinds.specs.declared.choice.Choice.{Choice}
use Rattle.intake_ledger.specs.Ledger.{choices_in}
use Rattle.intake_ledger.proofs.PanelChoices.{all_choices, first_choices, no_fewer, one_panel, one_panel_longer}
use Rattle.intake_ledger.proofs.choices.all_choices.Goals as goal

pub put_panel-requires-clause-reserved : goal.put_panel-requires-clause-reserved
put_panel-requires-clause-reserved c =
    let t = c.args.tables.now in
    let panel : ℕ = c.loop-panel.panel in
    let within : panel < length t.panels = omega (arith, c.loop-panel-test.true, c.panels-panel-end.ensures.count) in
    let behind : ℕ = length t.panels - (panel + 1) in
    let last : panel + 1 + behind ≡ length t.panels = omega arith in
    omega (
      arith,
      ap (λ (xs : List (ℕ × Choice)). length xs) c.loop-panel.invariant.put,
      one_panel_longer t panel within,
      no_fewer t (panel + 1) behind (omega (arith, last)),
      ap (λ (k : ℕ). length (first_choices t k)) last,
      ap (λ (xs : List (ℕ × Choice)). length xs) (all_choices t),
      c.loop-panel.invariant.memory,
    )

pub loop-panel-preserved : goal.loop-panel-preserved
loop-panel-preserved c =
    let t = c.args.tables.now in
    let panel : ℕ = c.loop-panel.panel in
    let within : panel < length t.panels = omega (arith, c.loop-panel-test.true, c.panels-panel-end.ensures.count) in
    record {
      put = c.put_panel.ensures.put ∙ ap (λ (xs : List (ℕ × Choice)). xs ++ choices_in (line_of t panel)) c.loop-panel.invariant.put ∙ sym (one_panel t panel within);
      memory = c.put_panel.ensures.memory ∙ c.loop-panel.invariant.memory;
    }

pub returns-clause-choices : goal.returns-clause-choices
returns-clause-choices c =
    let t = c.args.tables.now in
    let panel : ℕ = c.loop-panel.panel in
    let all : panel ≡ length t.panels = omega (arith, c.loop-panel-test.false, c.loop-panel.auto.panel-end, c.panels-panel-end.ensures.count) in
    c.loop-panel.invariant.put ∙ ap (first_choices t) all ∙ all_choices t

use Rattle.std.proofs.Common.{◌≡◌, length, vec_capacity}
use Rattle.intake_ledger.specs.Ledger.{panel_choices}
use Rattle.intake_ledger.proofs.PanelChoices.{first_choices}
use Rattle.intake_ledger.proofs.choices.all_choices.Given as goal

abbrev pub invariant-loop-panel : goal.invariant-loop-panel
invariant-loop-panel l = record {
  put : l.choices.items ≡ first_choices l.tables l.panel;
  memory : vec_capacity l.choices ≡ length (panel_choices l.tables);
}

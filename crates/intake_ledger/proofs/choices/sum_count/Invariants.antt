use Rattle.std.proofs.Common.{◌≡◌, length}
use Rattle.intake_ledger.proofs.PanelChoices.{first_choices}
use Rattle.intake_ledger.proofs.choices.sum_count.Given as goal

abbrev pub invariant-loop-panel : goal.invariant-loop-panel
invariant-loop-panel l = l.count ≡ length (first_choices l.tables l.panel)

use Rattle.std.proofs.Common.{◌∙◌}
use Rattle.vote_kinds.specs.Ballot.{choices_of, line_of}
use Rattle.intake_ledger.proofs.PanelChoices.{one_choice}
use Rattle.intake_ledger.proofs.choices.put_panel.Goals as goal

pub loop-place-preserved : goal.loop-place-preserved
loop-place-preserved c = record {
  put = c.push_reserved.ensures.items ∙ one_choice c.args.panel (choices_of (line_of c.args.tables.now c.args.panel)) c.loop-place.place c.choice_at.result c.args.choices.now.items c.loop-place.choices.items
      c.choice_at.ensures c.loop-place.invariant.put;
  memory = c.push_reserved.ensures.capacity ∙ c.loop-place.invariant.memory;
}

use Rattle.std.proofs.Common.{arith}
use Rattle.std.proofs.lemmas.Grind.{common_steps}
use Rattle.std.proofs.lemmas.List.Elements.{All-push}
use Rattle.election_tables.specs.Tables.{IsPanelOf}
use Rattle.election_tables.proofs.tables.panels.panels_of.Goals as goal

pub loop-office-preserved : goal.loop-office-preserved
loop-office-preserved c = (
  grind (arith, common_steps),
  rw c.in_ok-push.ensures.items (All-push (IsPanelOf c.args.candidates.now) c.loop-office.panels.items _ c.loop-office.invariant.1 c.in_ok-panel_of.ensures.panel),
)

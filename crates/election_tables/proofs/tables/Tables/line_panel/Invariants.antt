use Rattle.std.proofs.Common.{◌-◌, length}
use Rattle.election_tables.specs.TablesData.{places_at}
use Rattle.election_tables.proofs.LinePanels.{IsAt}
use Rattle.election_tables.proofs.tables.Tables.line_panel.Given as goal

abbrev pub invariant-loop-left : goal.invariant-loop-left
invariant-loop-left l = IsAt (places_at l.self) (length l.self.panels) l.fn.line l.panel l.left

abbrev pub decreases-loop-left : goal.decreases-loop-left
decreases-loop-left l = length l.self.panels - l.panel

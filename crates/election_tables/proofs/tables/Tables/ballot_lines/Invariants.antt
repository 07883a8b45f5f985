use Rattle.std.proofs.Common.{◌≡◌, length}
use Rattle.election_tables.specs.TablesData.{places_at}
use Rattle.election_tables.proofs.LinePanels.{lines_over}
use Rattle.election_tables.proofs.tables.Tables.ballot_lines.Given as goal

-- the lines of the panels so far
abbrev pub invariant-loop-panel : goal.invariant-loop-panel
invariant-loop-panel l = l.lines ≡ length (lines_over (places_at l.self) 0 l.panel)

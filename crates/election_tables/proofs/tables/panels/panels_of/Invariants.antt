use Rattle.std.proofs.Common.{◌≡◌, map, take}
use Rattle.std.specs.List.{All}
use Rattle.election_tables.specs.Tables.{entry_of_office, IsPanelOf}
use Rattle.election_tables.proofs.tables.panels.panels_of.Given as goal

abbrev pub invariant-loop-office : goal.invariant-loop-office
invariant-loop-office l = (map (λ p. entry_of_office p.office) l.panels.items ≡ take l.office-index l.offices) × All (IsPanelOf l.candidates) l.panels.items

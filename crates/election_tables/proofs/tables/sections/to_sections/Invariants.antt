use Rattle.std.proofs.Common.{◌≡◌, map, take}
use Rattle.election_tables.specs.Tables.{entry_of_section}
use Rattle.election_tables.proofs.tables.sections.to_sections.Given as goal

abbrev pub invariant-loop-entry : goal.invariant-loop-entry
invariant-loop-entry l = map entry_of_section l.sections.items ≡ take l.entry-index l.entries

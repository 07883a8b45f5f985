use Rattle.std.proofs.Common.{◌≡◌, map, take}
use Rattle.election_tables.specs.Tables.{entry_of_federation}
use Rattle.election_tables.proofs.tables.federations.federations_of.Given as goal

abbrev pub invariant-loop-entry : goal.invariant-loop-entry
invariant-loop-entry l = map entry_of_federation l.federations.items ≡ take l.entry-index l.entries

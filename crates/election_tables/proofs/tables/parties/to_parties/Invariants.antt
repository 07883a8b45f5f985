use Rattle.std.proofs.Common.{◌≡◌, map, take}
use Rattle.election_tables.specs.Tables.{entry_of_party}
use Rattle.election_tables.proofs.tables.parties.to_parties.Given as goal

abbrev pub invariant-loop-entry : goal.invariant-loop-entry
invariant-loop-entry l = map entry_of_party l.parties.items ≡ take l.entry-index l.entries

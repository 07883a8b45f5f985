use Rattle.std.proofs.Common.{◌≡◌, map, take}
use Rattle.election_tables.specs.Tables.{candidates_of, entry_of_candidate}
use Rattle.election_tables.proofs.tables.candidates.picked.Given as goal

abbrev pub invariant-loop-entry : goal.invariant-loop-entry
invariant-loop-entry l = map (entry_of_candidate l.code) l.candidates.items ≡ candidates_of l.code (take l.entry-index l.entries)

use Rattle.std.proofs.Common.{◌≡◌, ◌-◌, map}
use Rattle.std.specs.List.{range_with_len}
use Rattle.toml.specs.View.{view}
use Rattle.rehearsal.specs.Document.{party_table}
use Rattle.rehearsal.proofs.document.parties.Given as goal

abbrev pub invariant-loop-number : goal.invariant-loop-number
invariant-loop-number l = map view l.tables.items ≡ map party_table (range_with_len 10 (l.number - 10))

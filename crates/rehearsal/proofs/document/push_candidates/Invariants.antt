use Rattle.std.proofs.Common.{◌≡◌, ◌-◌, ◌++◌, map}
use Rattle.std.specs.List.{range_with_len}
use Rattle.toml.specs.View.{view}
use Rattle.rehearsal.specs.Document.{candidate_table}
use Rattle.rehearsal.proofs.document.push_candidates.Given as goal

abbrev pub invariant-loop-number : goal.invariant-loop-number
invariant-loop-number l =
    map view l.tables.items ≡ map view l.fn.tables.items ++ map (candidate_table l.office) (range_with_len l.first (l.number - l.first))

use Rattle.std.proofs.Common.{◌≡◌, ◌-◌, map}
use Rattle.std.specs.List.{range_with_len, flat_map}
use Rattle.toml.specs.View.{view}
use Rattle.rehearsal.specs.Document.{candidate_table}
use Rattle.rehearsal.specs.Numbers.{councillors_of}
use Rattle.rehearsal.proofs.document.candidates.Given as goal

abbrev pub invariant-loop-party : goal.invariant-loop-party
invariant-loop-party l = map view l.tables.items ≡ map (candidate_table 13) (flat_map councillors_of (range_with_len 10 (l.party - 10)))

use Rattle.std.proofs.Common.{◌≡◌, map, pos, take}
use Rattle.election_tables.proofs.tables.federations.to_numbers.Given as goal

abbrev pub invariant-loop-number : goal.invariant-loop-number
invariant-loop-number l = map pos l.items.items ≡ take l.number-index l.numbers

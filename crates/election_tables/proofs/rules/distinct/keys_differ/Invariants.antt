use Rattle.std.proofs.Common.{◌≡◌, false}
use Rattle.std.specs.List.{AllAdjacentBelow}
use Rattle.std.specs.Ordering.{eq_by_cmp}
use Rattle.election_tables.proofs.rules.distinct.keys_differ.Given as goal

abbrev pub invariant-loop-i : goal.invariant-loop-i
invariant-loop-i g l = AllAdjacentBelow (λ a b. eq_by_cmp g.K.Ord.cmp a b ≡ false) l.keys.items l.i

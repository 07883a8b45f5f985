use Rattle.std.proofs.Common.{◌≡◌, map, take, IfSome}
use Rattle.totals.specs.Giving.{IsPlaceOf, with_candidates}
use Rattle.totals.proofs.contest.add_candidates.Given as goal

-- the first candidates are given, and the place of the last one's bloc is known
abbrev pub invariant-loop-entry : goal.invariant-loop-entry
invariant-loop-entry l = record {
  given : l.blocs ≡ map (with_candidates l.tables l.digits (take l.entry-index l.entries)) l.fn.blocs;
  known : IfSome l.known (IsPlaceOf l.tables);
}

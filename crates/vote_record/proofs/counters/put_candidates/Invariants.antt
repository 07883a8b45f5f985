use Rattle.std.proofs.Common.{◌≡◌, ◌++◌, map, take, vec_capacity}
use Rattle.vote_kinds.specs.declared.choice.Choice.TheVariants.{Nominal}
use Rattle.vote_kinds.specs.Ballot.{line_of}
use Rattle.vote_record.specs.BagData.{no_votes}
use Rattle.vote_record.proofs.counters.put_candidates.Given as goal

abbrev pub invariant-loop-i : goal.invariant-loop-i
invariant-loop-i l = record {
  put : l.counters.items ≡ l.fn.counters.items ++ map no_votes (map (λ n. Nominal n) (take l.i (line_of l.tables l.panel).candidates));
  memory : vec_capacity l.counters ≡ vec_capacity l.fn.counters;
}

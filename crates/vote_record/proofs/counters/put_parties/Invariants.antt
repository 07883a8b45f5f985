use Rattle.std.proofs.Common.{◌≡◌, ◌++◌, map, take, vec_capacity}
use Rattle.vote_kinds.specs.declared.choice.Choice.TheVariants.{Party}
use Rattle.vote_record.specs.BagData.{no_votes}
use Rattle.vote_record.proofs.counters.put_parties.Given as goal

abbrev pub invariant-loop-i : goal.invariant-loop-i
invariant-loop-i l = record {
  put : l.counters.items ≡ l.fn.counters.items ++ map no_votes (map (λ n. Party n) (take l.i (map (λ q. q.number) l.tables.parties)));
  memory : vec_capacity l.counters ≡ vec_capacity l.fn.counters;
}

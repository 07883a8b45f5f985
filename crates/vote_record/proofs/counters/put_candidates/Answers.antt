use Rattle.std.proofs.Common.{ap, ◌∙◌, [], ◌∷◌, ◌++◌}
use Rattle.vote_kinds.specs.declared.choice.Choice.TheVariants.{Nominal}
use Rattle.vote_kinds.specs.Ballot.{line_of}
use Rattle.vote_kinds.proofs.Lookups.{candidate_at}
use Rattle.vote_record.specs.declared.counters.Counter.{Counter}
use Rattle.vote_record.proofs.NewCounters.{one_more}
use Rattle.vote_record.proofs.counters.put_candidates.Goals as goal

pub loop-i-preserved : goal.loop-i-preserved
loop-i-preserved c =
    let t = c.args.tables.now in
    let i = c.loop-i.i in
    let there = candidate_at t c.args.panel i c.candidate-candidate.result c.candidate-candidate.ensures.candidate in
    record {
      put = one_more (λ n. Nominal n) (line_of t c.args.panel).candidates i c.candidate-candidate.result.number _ _ _ there c.loop-i.invariant.put
          (c.push_reserved.ensures.items ∙ ap (λ (x : Counter). c.loop-i.counters.items ++ x ∷ []) c.no_votes.ensures);
      memory = c.push_reserved.ensures.capacity ∙ c.loop-i.invariant.memory;
    }

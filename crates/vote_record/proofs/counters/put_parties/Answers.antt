use Rattle.std.proofs.Common.{map, ap, ◌∙◌, [], ◌∷◌, ◌++◌}
use Rattle.std.proofs.lemmas.Option.{slice_get-map}
use Rattle.vote_kinds.specs.declared.choice.Choice.TheVariants.{Party}
use Rattle.vote_record.specs.declared.counters.Counter.{Counter}
use Rattle.vote_record.proofs.NewCounters.{one_more}
use Rattle.vote_record.proofs.counters.put_parties.Goals as goal

pub loop-i-preserved : goal.loop-i-preserved
loop-i-preserved c =
    let parties = c.args.tables.now.parties in
    let i = c.loop-i.i in
    let there = slice_get-map (λ q. q.number) parties i ∙ c.party.ensures.party in
    record {
      put = one_more (λ n. Party n) (map (λ q. q.number) parties) i c.party.result _ _ _ there c.loop-i.invariant.put
          (c.push_reserved.ensures.items ∙ ap (λ (x : Counter). c.loop-i.counters.items ++ x ∷ []) c.no_votes.ensures);
      memory = c.push_reserved.ensures.capacity ∙ c.loop-i.invariant.memory;
    }

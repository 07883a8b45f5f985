use Rattle.std.proofs.Common.{◌≡◌, ◌∙◌, map, slice_get, take, Some, option_map, refl, ap, List, ℕ, arith}
use Rattle.std.specs.Int.{w32, to_be_bytes}
use Rattle.std.proofs.lemmas.List.{length-map}
use Rattle.std.proofs.lemmas.Option.{slice_get-map}
use Rattle.vote_kinds.specs.declared.choice.Choice.{Choice}
use Rattle.vote_kinds.specs.declared.choice.Choice.TheVariants.{Nominal}
use Rattle.vote_kinds.specs.Ballot.{line_of}
use Rattle.vote_kinds.proofs.Lookups.{candidate_at}
use Rattle.vote_record.specs.Bag.{bag_at, count_of}
use Rattle.vote_record.specs.Counters.{counts_of}
use Rattle.vote_kinds.proofs.ChoicePlaces.{candidates_many}
use Rattle.image_codec.proofs.Written.{count_there, put_more, put_all}
use Rattle.image_codec.proofs.codec.writing.put_candidates.Goals as goal

pub loop-i-preserved : goal.loop-i-preserved
loop-i-preserved c =
    let t = c.args.tables.now in
    let panel : ℕ = c.args.panel in
    let i : ℕ = c.loop-i.i in
    let bag : List Choice = bag_at c.args.votes.now.bags panel in
    let choices : List Choice = map (λ n. Nominal n) (line_of t panel).candidates in
    let chosen : slice_get choices i ≡ Some (Nominal c.candidate-candidate.result.number) =
    slice_get-map (λ n. Nominal n) (line_of t panel).candidates i
    ∙ ap (option_map (λ n. Nominal n)) (candidate_at t panel i c.candidate-candidate.result c.candidate-candidate.ensures.candidate) in
    record {
      end = omega (arith, c.put_count-end.ensures.end, c.loop-i.invariant.end);
      text = put_more (to_be_bytes w32) (take c.args.at c.args.into.now) _ _ _ (counts_of choices bag) i _ (count_there choices bag i _ chosen)
          (omega (arith, length-map choices (λ d. count_of d bag), candidates_many t panel)) c.loop-i.invariant.text c.put_count-end.ensures.text refl;
    }

pub returns : goal.returns
returns c =
    let t = c.args.tables.now in
    let bag : List Choice = bag_at c.args.votes.now.bags c.args.panel in
    let choices : List Choice = map (λ n. Nominal n) (line_of t c.args.panel).candidates in
    record {
      end = omega (arith, c.loop-i.invariant.end);
      text = put_all (to_be_bytes w32) (take c.args.at c.args.into.now) (take c.loop-i.end c.loop-i.into) (counts_of choices bag) c.loop-i.i
          (omega (arith, length-map choices (λ d. count_of d bag), candidates_many t c.args.panel)) c.loop-i.invariant.text;
    }

use Rattle.std.proofs.Common.{◌≡◌, ◌∙◌, map, slice_get, take, Some, option_map, refl, ap, List, ℕ, arith}
use Rattle.std.specs.Int.{w32, to_be_bytes}
use Rattle.std.proofs.lemmas.List.{length-map, length-take-le}
use Rattle.std.proofs.lemmas.Option.{slice_get-map}
use Rattle.vote_kinds.specs.declared.choice.Choice.{Choice}
use Rattle.vote_kinds.specs.declared.choice.Choice.TheVariants.{Party}
use Rattle.vote_record.specs.Bag.{bag_at, count_of}
use Rattle.vote_record.specs.Counters.{counts_of}
use Rattle.image_codec.proofs.Written.{count_there, get_taken, put_more, put_all}
use Rattle.image_codec.proofs.codec.writing.put_parties.Goals as goal

pub loop-i-preserved : goal.loop-i-preserved
loop-i-preserved c =
    let numbers : List ℕ = map (λ q. q.number) c.args.tables.now.parties in
    let i : ℕ = c.loop-i.i in
    let bag : List Choice = bag_at c.args.votes.now.bags c.args.panel in
    let choices : List Choice = map (λ n. Party n) (take c.args.parties numbers) in
    let many = length-take-le c.args.parties numbers (omega (arith, length-map c.args.tables.now.parties (λ q. q.number))) in
    let chosen : slice_get choices i ≡ Some (Party c.party-party.result) =
    slice_get-map (λ n. Party n) (take c.args.parties numbers) i
    ∙ ap (option_map (λ n. Party n))
    (get_taken numbers c.args.parties i (omega arith) ∙ slice_get-map (λ q. q.number) c.args.tables.now.parties i ∙ c.party-party.ensures.party) in
    record {
      end = omega (arith, c.put_count-end.ensures.end, c.loop-i.invariant.end);
      text = put_more (to_be_bytes w32) (take c.args.at c.args.into.now) _ _ _ (counts_of choices bag) i _ (count_there choices bag i _ chosen)
          (omega (arith, length-map choices (λ d. count_of d bag), length-map (take c.args.parties numbers) (λ n. Party n))) c.loop-i.invariant.text c.put_count-end.ensures.text refl;
    }

pub returns : goal.returns
returns c =
    let numbers : List ℕ = map (λ q. q.number) c.args.tables.now.parties in
    let bag : List Choice = bag_at c.args.votes.now.bags c.args.panel in
    let choices : List Choice = map (λ n. Party n) (take c.args.parties numbers) in
    let many = length-take-le c.args.parties numbers (omega (arith, length-map c.args.tables.now.parties (λ q. q.number))) in
    record {
      end = omega (arith, c.loop-i.invariant.end);
      text = put_all (to_be_bytes w32) (take c.args.at c.args.into.now) (take c.loop-i.end c.loop-i.into) (counts_of choices bag) c.loop-i.i
          (omega (arith, length-map choices (λ d. count_of d bag), length-map (take c.args.parties numbers) (λ n. Party n))) c.loop-i.invariant.text;
    }

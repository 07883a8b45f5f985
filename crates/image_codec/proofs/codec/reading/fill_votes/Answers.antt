use Rattle.std.proofs.Common.{◌≡◌, [], List, ℕ, Option, unwrap_or, sym, ap, ◌∙◌}
use Rattle.std.specs.List.{slice_index}
use Rattle.std.specs.Option.{is_some}
use Rattle.vote_kinds.specs.declared.choice.Choice.{Choice}
use Rattle.vote_kinds.specs.Ballot.{lines_by_panel}
use Rattle.image_codec.specs.DecodedVotes.{bags_in}
use Rattle.image_codec.proofs.Fills.{with_bags}
use Rattle.image_codec.proofs.WholeBody.{bags_first_is, bags_second_is, some_version}
use Rattle.image_codec.proofs.codec.reading.fill_votes.Goals as goal

pub fill_counters-requires-clause-bags : goal.fill_counters-requires-clause-bags
fill_counters-requires-clause-bags c =
    ap (λ (o : Option (List (List Choice))). is_some o) (sym (bags_second_is (lines_by_panel c.args.tables.now) c.args.came c.args.bytes.now c.if-bytes-eq-VERSION.true))
    ∙ c.requires.bags

pub fill_bags-requires-clause-bags : goal.fill_bags-requires-clause-bags
fill_bags-requires-clause-bags c =
    let one : slice_index c.args.bytes.now 0 ≡ 1 = some_version (lines_by_panel c.args.tables.now) c.args.came c.args.bytes.now c.requires.bags c.if-bytes-eq-VERSION.false in
    ap (λ (r : List ℕ). is_some (bags_in (lines_by_panel c.args.tables.now) c.args.came r)) c.split_at.ensures.back
    ∙ ap (λ (o : Option (List (List Choice))). is_some o) (sym (bags_first_is (lines_by_panel c.args.tables.now) c.args.came c.args.bytes.now one)) ∙ c.requires.bags

pub returns-then-bytes-eq-VERSION : goal.returns-then-bytes-eq-VERSION
returns-then-bytes-eq-VERSION c =
    c.fill_counters.ensures
    ∙ ap (λ (o : Option (List (List Choice))). with_bags c.args.votes.now (unwrap_or o []))
    (sym (bags_second_is (lines_by_panel c.args.tables.now) c.args.came c.args.bytes.now c.if-bytes-eq-VERSION.true))

pub returns-else-bytes-eq-VERSION : goal.returns-else-bytes-eq-VERSION
returns-else-bytes-eq-VERSION c =
    let one : slice_index c.args.bytes.now 0 ≡ 1 = some_version (lines_by_panel c.args.tables.now) c.args.came c.args.bytes.now c.requires.bags c.if-bytes-eq-VERSION.false in
    c.fill_bags.ensures
    ∙ ap (λ (r : List ℕ). with_bags c.args.votes.now (unwrap_or (bags_in (lines_by_panel c.args.tables.now) c.args.came r) [])) c.split_at.ensures.back
    ∙ ap (λ (o : Option (List (List Choice))). with_bags c.args.votes.now (unwrap_or o [])) (sym (bags_first_is (lines_by_panel c.args.tables.now) c.args.came c.args.bytes.now one))

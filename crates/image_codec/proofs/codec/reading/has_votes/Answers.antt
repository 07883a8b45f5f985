use Rattle.std.proofs.Common.{List, ℕ, Option, sym, ap, ◌∙◌}
use Rattle.std.specs.Option.{is_some}
use Rattle.vote_kinds.specs.declared.choice.Choice.{Choice}
use Rattle.vote_kinds.specs.Ballot.{lines_by_panel}
use Rattle.image_codec.specs.DecodedVotes.{bags_in}
use Rattle.image_codec.proofs.WholeBody.{bags_first_is, bags_of_none, bags_second_is}
use Rattle.image_codec.proofs.codec.reading.has_votes.Goals as goal

pub returns-then-bytes-eq-VERSION : goal.returns-then-bytes-eq-VERSION
returns-then-bytes-eq-VERSION c =
    c.has_counters.ensures
    ∙ ap (λ (o : Option (List (List Choice))). is_some o) (sym (bags_second_is (lines_by_panel c.args.tables.now) c.args.came c.args.bytes.now c.if-bytes-eq-VERSION.true))

pub returns-then-bytes-eq-FIRST_VERSION : goal.returns-then-bytes-eq-FIRST_VERSION
returns-then-bytes-eq-FIRST_VERSION c =
    c.has_bags.ensures ∙ ap (λ (r : List ℕ). is_some (bags_in (lines_by_panel c.args.tables.now) c.args.came r)) c.split_at.ensures.back
    ∙ ap (λ (o : Option (List (List Choice))). is_some o) (sym (bags_first_is (lines_by_panel c.args.tables.now) c.args.came c.args.bytes.now c.if-bytes-eq-FIRST_VERSION.true))

pub returns-else-bytes-eq-FIRST_VERSION : goal.returns-else-bytes-eq-FIRST_VERSION
returns-else-bytes-eq-FIRST_VERSION c =
    ap (λ (o : Option (List (List Choice))). is_some o)
    (sym (bags_of_none (lines_by_panel c.args.tables.now) c.args.came c.args.bytes.now c.if-bytes-eq-VERSION.false c.if-bytes-eq-FIRST_VERSION.false))

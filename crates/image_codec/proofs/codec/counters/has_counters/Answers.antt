use Rattle.std.proofs.Common.{◌&&◌, Bool, List, ℕ, drop, sym, ap, ◌∙◌}
use Rattle.std.specs.Option.{is_some}
use Rattle.vote_kinds.specs.Ballot.{lines_by_panel}
use Rattle.image_codec.specs.DecodedCounters.{bags_counted}
use Rattle.image_codec.proofs.CountParts.{second_some}
use Rattle.image_codec.proofs.codec.counters.has_counters.Goals as goal

pub returns-then-is_zero : goal.returns-then-is_zero
returns-then-is_zero c =
    let bytes : List ℕ = c.args.bytes.now in
    let counted : Bool = is_some (bags_counted (lines_by_panel c.args.tables.now) c.args.came (drop 512 bytes)) in
    c.are_counted.ensures
    ∙ ap (λ (r : List ℕ). is_some (bags_counted (lines_by_panel c.args.tables.now) c.args.came r)) c.split_at.ensures.back
    ∙ sym (second_some (lines_by_panel c.args.tables.now) c.args.came bytes ∙ ap (λ (b : Bool). b && counted) (sym c.is_zero.ensures ∙ c.if-is_zero.true))

pub returns-else-is_zero : goal.returns-else-is_zero
returns-else-is_zero c =
    let bytes : List ℕ = c.args.bytes.now in
    let counted : Bool = is_some (bags_counted (lines_by_panel c.args.tables.now) c.args.came (drop 512 bytes)) in
    c.if-is_zero.false
    ∙ sym (second_some (lines_by_panel c.args.tables.now) c.args.came bytes ∙ ap (λ (b : Bool). b && counted) (sym c.is_zero.ensures ∙ c.if-is_zero.false))

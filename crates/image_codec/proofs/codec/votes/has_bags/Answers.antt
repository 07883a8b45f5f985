use Rattle.std.proofs.Common.{◌≡◌, ◌+◌, ◌*◌, ◌&&◌, ℕ, Bool, List, drop, false, true, sym, ap, ◌∙◌, arith}
use Rattle.std.specs.Option.{is_some}
use Rattle.election_tables.specs.TablesData.{places_at}
use Rattle.vote_kinds.specs.Ballot.{BallotLine, line_of, lines_by_panel}
use Rattle.image_codec.specs.DecodedVotes.{bag_in, bags_in}
use Rattle.image_codec.proofs.ReadBags.{few_votes}
use Rattle.image_codec.proofs.ReadParts.{bags_here, bags_end}
use Rattle.image_codec.proofs.codec.votes.has_bags.Goals as goal

pub returns-then-not-has_bag : goal.returns-then-not-has_bag
returns-then-not-has_bag c =
    let t = c.args.tables.now in
    let n : ℕ = c.args.came in
    let panel : ℕ = c.loop-panel.panel in
    let rest : List ℕ = c.loop-panel.rest.now in
    let others : Bool = is_some (bags_in (drop (panel + 1) (lines_by_panel t)) n (drop (4 + 5 * (n * places_at t panel)) rest)) in
    let none : is_some (bag_in (line_of t panel) (n * places_at t panel) rest) ≡ false =
    ap (λ (k : ℕ). is_some (bag_in (line_of t panel) (n * k) rest)) (sym c.places.ensures.places) ∙ sym c.has_bag.ensures ∙ c.if-not-has_bag.true in
    sym (bags_here t panel n rest (omega arith) ∙ ap (λ (b : Bool). b && others) none) ∙ c.loop-panel.invariant.same

pub loop-panel-preserved : goal.loop-panel-preserved
loop-panel-preserved c =
    let t = c.args.tables.now in
    let n : ℕ = c.args.came in
    let panel : ℕ = c.loop-panel.panel in
    let rest : List ℕ = c.loop-panel.rest.now in
    let after : List BallotLine = drop (panel + 1) (lines_by_panel t) in
    let others : Bool = is_some (bags_in after n (drop (4 + 5 * (n * places_at t panel)) rest)) in
    let some : is_some (bag_in (line_of t panel) (n * places_at t panel) rest) ≡ true =
    ap (λ (k : ℕ). is_some (bag_in (line_of t panel) (n * k) rest)) (sym c.places.ensures.places) ∙ sym c.has_bag.ensures ∙ c.if-not-has_bag.false in
    record {
      long = omega (arith, c.loop-panel.invariant.long, c.split_at.ensures.back_len, few_votes n c.places.result c.places.ensures.few.1);
      same = ap (λ (r : List ℕ). is_some (bags_in after n r)) (c.split_at.ensures.back ∙ ap (λ (k : ℕ). drop (4 + 5 * (n * k)) rest) c.places.ensures.places)
          ∙ sym (bags_here t panel n rest (omega arith) ∙ ap (λ (b : Bool). b && others) some)
          ∙ c.loop-panel.invariant.same;
    }

pub returns : goal.returns
returns c =
    c.is_zero.ensures ∙ sym (bags_end c.args.tables.now c.loop-panel.panel c.args.came c.loop-panel.rest.now (omega arith)) ∙ c.loop-panel.invariant.same

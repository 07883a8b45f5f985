use Rattle.std.proofs.Common.{◌≡◌, ◌≢◌, ◌&&◌, ◌+◌, ◌*◌, ℕ, Bool, List, drop, refl, sym, ap, ◌∙◌, arith}
use Rattle.std.specs.List.{sum}
use Rattle.std.specs.Option.{is_some}
use Rattle.std.proofs.lemmas.Bool.{eq-eqb, ne_eqb}
use Rattle.election_tables.specs.TablesData.{places_at}
use Rattle.vote_kinds.specs.Ballot.{BallotLine, lines_by_panel}
use Rattle.image_codec.specs.Numbers.{counters_in}
use Rattle.image_codec.specs.DecodedCounters.{bags_counted}
use Rattle.image_codec.proofs.Lengths.{counters_few}
use Rattle.image_codec.proofs.CountParts.{counted_end, counted_here, counters_here}
use Rattle.image_codec.proofs.codec.counters.are_counted.Goals as goal

pub loop-panel-init : goal.loop-panel-init
loop-panel-init c = record { long = omega (arith, counters_few c.args.tables.now c.panels-panel-end.ensures.tables, c.requires.bytes); same = refl }

pub sum_of-requires : goal.sum_of-requires
sum_of-requires c = omega (arith, counters_here c.args.tables.now c.loop-panel.panel (omega arith), c.choice_count-counters.ensures.count, c.loop-panel.invariant.long)

pub split_at-requires : goal.split_at-requires
split_at-requires c = omega (arith, counters_here c.args.tables.now c.loop-panel.panel (omega arith), c.choice_count-counters.ensures.count, c.loop-panel.invariant.long)

pub returns-then-sum_of-from : goal.returns-then-sum_of-from
returns-then-sum_of-from c =
    let t = c.args.tables.now in
    let n : ℕ = c.args.came in
    let panel : ℕ = c.loop-panel.panel in
    let counters : ℕ = c.choice_count-counters.result in
    let rest : List ℕ = c.loop-panel.rest.now in
    let votes : ℕ = sum (counters_in counters rest) in
    let others : Bool = is_some (bags_counted (drop (panel + 1) (lines_by_panel t)) n (drop (4 * counters) rest)) in
    let places = ap (λ (k : ℕ). n * k) c.places.ensures.places in
    let differ : votes ≢ n * places_at t panel = λ same. absurd (c.if-sum_of-from.true (omega (arith, c.sum_of.ensures, c.from.ensures))) in
    sym (counted_here t panel n counters rest (omega arith) c.choice_count-counters.ensures.count ∙ ap (λ (b : Bool). b && others) (ne_eqb votes (n * places_at t panel) differ))
    ∙ c.loop-panel.invariant.same

pub loop-panel-preserved : goal.loop-panel-preserved
loop-panel-preserved c =
    let t = c.args.tables.now in
    let n : ℕ = c.args.came in
    let panel : ℕ = c.loop-panel.panel in
    let counters : ℕ = c.choice_count-counters.result in
    let rest : List ℕ = c.loop-panel.rest.now in
    let votes : ℕ = sum (counters_in counters rest) in
    let after : List BallotLine = drop (panel + 1) (lines_by_panel t) in
    let others : Bool = is_some (bags_counted after n (drop (4 * counters) rest)) in
    let places = ap (λ (k : ℕ). n * k) c.places.ensures.places in
    let same : votes ≡ n * places_at t panel = omega (arith, c.sum_of.ensures, c.from.ensures, c.if-sum_of-from.false) in
    record {
      long = omega (arith, counters_here t panel (omega arith), c.choice_count-counters.ensures.count, c.loop-panel.invariant.long, c.split_at.ensures.back_len);
      same =
          ap (λ (r : List ℕ). is_some (bags_counted after n r)) c.split_at.ensures.back
          ∙ sym (counted_here t panel n counters rest (omega arith) c.choice_count-counters.ensures.count ∙ ap (λ (b : Bool). b && others) (eq-eqb votes (n * places_at t panel) same))
          ∙ c.loop-panel.invariant.same;
    }

pub returns : goal.returns
returns c = c.is_zero.ensures ∙ sym (counted_end c.args.tables.now c.loop-panel.panel c.args.came c.loop-panel.rest.now (omega arith)) ∙ c.loop-panel.invariant.same

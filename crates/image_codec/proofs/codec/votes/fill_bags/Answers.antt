use Rattle.std.proofs.Common.{◌≡◌, ℕ, ◌+◌, ◌*◌, [], List, length, get_or, drop, slice_set, unwrap_or, is_some, Option, sym, ap, subst, ◌∙◌, arith}
use Rattle.election_tables.specs.TablesData.{places_at}
use Rattle.vote_kinds.specs.declared.choice.Choice.{Choice}
use Rattle.vote_kinds.specs.Ballot.{lines_by_panel, line_of}
use Rattle.vote_record.specs.Bag.{bag_at}
use Rattle.vote_record.specs.RdvData.{RdvData}
use Rattle.image_codec.specs.DecodedVotes.{bag_in, bags_in}
use Rattle.image_codec.proofs.Fills.{first_bags, bags_length, bag_free, bags_more, bags_all, with_bags}
use Rattle.image_codec.proofs.FillVotes.{HasRest, bags_found, panel_bag}
use Rattle.image_codec.proofs.ReadBags.{few_votes}
use Rattle.image_codec.proofs.codec.votes.fill_bags.Goals as goal

pub fill_bag-requires-clause-panels : goal.fill_bag-requires-clause-panels
fill_bag-requires-clause-panels c =
    let t = c.args.tables.now in
    let bags : List (List Choice) = unwrap_or (bags_in (lines_by_panel t) c.args.came c.args.bytes.now) [] in
    let many = bags_found t c.args.came c.args.bytes.now c.requires.bags in
    ap (λ (r : RdvData). length r.bags) c.loop-panel.invariant.votes ∙ bags_length bags (length t.panels) c.loop-panel.panel many (omega arith)

pub fill_bag-requires-clause-none : goal.fill_bag-requires-clause-none
fill_bag-requires-clause-none c =
    let t = c.args.tables.now in
    let bags : List (List Choice) = unwrap_or (bags_in (lines_by_panel t) c.args.came c.args.bytes.now) [] in
    let many = bags_found t c.args.came c.args.bytes.now c.requires.bags in
    ap (λ (r : RdvData). bag_at r.bags c.loop-panel.panel) c.loop-panel.invariant.votes ∙ bag_free bags (length t.panels) c.loop-panel.panel many (omega arith)

pub fill_bag-requires-clause-bag : goal.fill_bag-requires-clause-bag
fill_bag-requires-clause-bag c =
    let t = c.args.tables.now in
    let n : ℕ = c.args.came in
    let panel : ℕ = c.loop-panel.panel in
    let bags : List (List Choice) = unwrap_or (bags_in (lines_by_panel t) n c.args.bytes.now) [] in
    let found = panel_bag t n panel c.loop-panel.rest.now bags (omega arith) (bags_found t n c.args.bytes.now c.requires.bags) c.loop-panel.invariant.rest in
    ap (λ (k : ℕ). is_some (bag_in (line_of t panel) (n * k) c.loop-panel.rest.now)) c.places.ensures.places ∙ ap (λ (o : Option (List Choice)). is_some o) found.0

pub loop-panel-preserved : goal.loop-panel-preserved
loop-panel-preserved c =
    let t = c.args.tables.now in
    let n : ℕ = c.args.came in
    let panel : ℕ = c.loop-panel.panel in
    let panels : ℕ = length t.panels in
    let rest : List ℕ = c.loop-panel.rest.now in
    let bags : List (List Choice) = unwrap_or (bags_in (lines_by_panel t) n c.args.bytes.now) [] in
    let many = bags_found t n c.args.bytes.now c.requires.bags in
    let found = panel_bag t n panel rest bags (omega arith) many c.loop-panel.invariant.rest in
    let read : unwrap_or (bag_in (line_of t panel) (n * c.places.result) rest) [] ≡ get_or bags panel [] =
    ap (λ (k : ℕ). unwrap_or (bag_in (line_of t panel) (n * k) rest) []) c.places.ensures.places ∙ ap (λ (o : Option (List Choice)). unwrap_or o []) found.0 in
    let behind : c.split_at.result.1.now ≡ drop (4 + 5 * (n * places_at t panel)) rest = c.split_at.ensures.back ∙ ap (λ (k : ℕ). drop (4 + 5 * (n * k)) rest) c.places.ensures.places in
    record {
      votes =
          c.fill_bag.ensures
          ∙ ap (λ (r : RdvData). with_bags r (slice_set r.bags panel (unwrap_or (bag_in (line_of t panel) (n * c.places.result) rest) []))) c.loop-panel.invariant.votes
          ∙ ap (λ (b : List Choice). with_bags c.args.votes.now (slice_set (first_bags bags panels panel) panel b)) read
          ∙ ap (with_bags c.args.votes.now) (bags_more bags panels panel many (omega arith));
      rest = subst (λ (r : List ℕ). HasRest t n (panel + 1) r bags) (sym behind) found.1;
      long = omega (arith, c.loop-panel.invariant.long, c.split_at.ensures.back_len, few_votes n c.places.result c.places.ensures.few.1);
    }

pub returns : goal.returns
returns c =
    let t = c.args.tables.now in
    let bags : List (List Choice) = unwrap_or (bags_in (lines_by_panel t) c.args.came c.args.bytes.now) [] in
    let many = bags_found t c.args.came c.args.bytes.now c.requires.bags in
    c.loop-panel.invariant.votes ∙ ap (with_bags c.args.votes.now) (bags_all bags (length t.panels) c.loop-panel.panel many (omega arith))

use Rattle.std.proofs.Common.{◌≡◌, ℕ, ◌+◌, ◌-◌, [], List, length, get_or, replicate, slice_set, unwrap_or, sym, ap, subst, ◌∙◌, arith}
use Rattle.vote_kinds.specs.declared.choice.Choice.{Choice}
use Rattle.vote_kinds.specs.Ballot.{lines_by_panel}
use Rattle.vote_record.specs.Bag.{bag_at}
use Rattle.vote_record.specs.RdvData.{RdvData, room_at}
use Rattle.image_codec.specs.Decoded.{bags_second}
use Rattle.image_codec.proofs.FillCounters.{HasCounters, counters_found, panel_counted}
use Rattle.image_codec.proofs.Fills.{bag_free, bags_all, bags_length, bags_more, with_bags}
use Rattle.image_codec.proofs.Lengths.{counters_few}
use Rattle.image_codec.proofs.CountParts.{counters_here}
use Rattle.image_codec.proofs.codec.counters.fill_counters.Goals as goal

pub loop-panel-init : goal.loop-panel-init
loop-panel-init c =
    let t = c.args.tables.now in
    let bags : List (List Choice) = unwrap_or (bags_second (lines_by_panel t) c.args.came c.args.bytes.now) [] in
    let found = counters_found t c.args.came c.args.bytes.now c.requires.bags in
    let all : length t.panels ≡ length t.panels - 0 = omega arith in
    record {
      votes = ap (with_bags c.args.votes.now) (c.requires.none ∙ ap (λ (k : ℕ). replicate {A = List Choice} k []) all);
      rest = subst (λ (r : List ℕ). HasCounters t c.args.came 0 r bags) (sym c.split_at.ensures.back) found.found;
      long = omega (arith, counters_few t c.panels-panel-end.ensures.tables, c.split_at.ensures.back_len);
    }

pub fill_panel-requires-clause-panels : goal.fill_panel-requires-clause-panels
fill_panel-requires-clause-panels c =
    let t = c.args.tables.now in
    let bags : List (List Choice) = unwrap_or (bags_second (lines_by_panel t) c.args.came c.args.bytes.now) [] in
    let found = counters_found t c.args.came c.args.bytes.now c.requires.bags in
    ap (λ (r : RdvData). length r.bags) c.loop-panel.invariant.votes ∙ bags_length bags (length t.panels) c.loop-panel.panel found.many (omega arith)

pub fill_panel-requires-clause-none : goal.fill_panel-requires-clause-none
fill_panel-requires-clause-none c =
    let t = c.args.tables.now in
    let bags : List (List Choice) = unwrap_or (bags_second (lines_by_panel t) c.args.came c.args.bytes.now) [] in
    let found = counters_found t c.args.came c.args.bytes.now c.requires.bags in
    ap (λ (r : RdvData). bag_at r.bags c.loop-panel.panel) c.loop-panel.invariant.votes ∙ bag_free bags (length t.panels) c.loop-panel.panel found.many (omega arith)

pub fill_panel-requires-clause-bytes : goal.fill_panel-requires-clause-bytes
fill_panel-requires-clause-bytes c = omega (arith, counters_here c.args.tables.now c.loop-panel.panel (omega arith), c.choice_count-counters.ensures.count, c.loop-panel.invariant.long)

pub fill_panel-requires-clause-room : goal.fill_panel-requires-clause-room
fill_panel-requires-clause-room c =
    let t = c.args.tables.now in
    let panel : ℕ = c.loop-panel.panel in
    let bags : List (List Choice) = unwrap_or (bags_second (lines_by_panel t) c.args.came c.args.bytes.now) [] in
    let found = counters_found t c.args.came c.args.bytes.now c.requires.bags in
    let here = panel_counted t c.args.came panel c.loop-panel.rest.now bags c.choice_count-counters.result (omega arith) found.many c.choice_count-counters.ensures.count c.loop-panel.invariant.rest in
    let room = ap (λ (r : RdvData). room_at r panel) c.loop-panel.invariant.votes in
    omega (arith, here.votes, c.requires.room panel (omega arith))

pub split_at-requires-in-loop-panel : goal.split_at-requires-in-loop-panel
split_at-requires-in-loop-panel c = omega (arith, counters_here c.args.tables.now c.loop-panel.panel (omega arith), c.choice_count-counters.ensures.count, c.loop-panel.invariant.long)

pub loop-panel-preserved : goal.loop-panel-preserved
loop-panel-preserved c =
    let t = c.args.tables.now in
    let n : ℕ = c.args.came in
    let panel : ℕ = c.loop-panel.panel in
    let panels : ℕ = length t.panels in
    let rest : List ℕ = c.loop-panel.rest.now in
    let counters : ℕ = c.choice_count-counters.result in
    let bags : List (List Choice) = unwrap_or (bags_second (lines_by_panel t) n c.args.bytes.now) [] in
    let found = counters_found t n c.args.bytes.now c.requires.bags in
    let here = panel_counted t n panel rest bags counters (omega arith) found.many c.choice_count-counters.ensures.count c.loop-panel.invariant.rest in
    record {
      votes =
          c.fill_panel.ensures
          ∙ ap (λ (b : List Choice). with_bags c.loop-panel.votes (slice_set c.loop-panel.votes.bags panel b)) here.bag
          ∙ ap (λ (r : RdvData). with_bags r (slice_set r.bags panel (get_or bags panel []))) c.loop-panel.invariant.votes
          ∙ ap (with_bags c.args.votes.now) (bags_more bags panels panel found.many (omega arith));
      rest = subst (λ (r : List ℕ). HasCounters t n (panel + 1) r bags) (sym c.split_at-in-loop-panel.ensures.back) here.behind;
      long = omega (arith, counters_here t panel (omega arith), c.choice_count-counters.ensures.count, c.loop-panel.invariant.long, c.split_at-in-loop-panel.ensures.back_len);
    }

pub returns : goal.returns
returns c =
    let t = c.args.tables.now in
    let bags : List (List Choice) = unwrap_or (bags_second (lines_by_panel t) c.args.came c.args.bytes.now) [] in
    let found = counters_found t c.args.came c.args.bytes.now c.requires.bags in
    c.loop-panel.invariant.votes ∙ ap (with_bags c.args.votes.now) (bags_all bags (length t.panels) c.loop-panel.panel found.many (omega arith))

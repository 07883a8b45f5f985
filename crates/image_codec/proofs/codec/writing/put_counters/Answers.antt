use Rattle.std.proofs.Common.{◌<◌, ◌≤◌, length, take, List, ap, refl, arith}
use Rattle.std.specs.List.{flat_map, zip}
use Rattle.std.proofs.lemmas.List.{take_all}
use Rattle.std.proofs.lemmas.Option.{get_or_from_slice_get}
use Rattle.std.proofs.lemmas.Slice.Zip.{length-zip}
use Rattle.vote_kinds.specs.declared.choice.Choice.{Choice}
use Rattle.vote_kinds.specs.Ballot.{BallotLine, lines_by_panel, line_of}
use Rattle.vote_kinds.proofs.Lookups.{by_panel_length}
use Rattle.vote_record.specs.Bag.{bag_at}
use Rattle.image_codec.specs.Encoding.{counter_bytes}
use Rattle.image_codec.proofs.Lengths.{panel_pair}
use Rattle.image_codec.proofs.Written.{written_fits, written_longer, put_more, put_all}
use Rattle.image_codec.proofs.codec.writing.put_counters.Goals as goal

pub put_panel-end-requires-clause-room : goal.put_panel-end-requires-clause-room
put_panel-end-requires-clause-room c =
    let t = c.args.tables.now in
    let panel = c.loop-panel.panel in
    let bags : List (List Choice) = c.args.votes.now.bags in
    let pairs : List (BallotLine × List Choice) = zip (lines_by_panel t) bags in
    let pair : BallotLine × List Choice = (line_of t panel, bag_at bags panel) in
    let same = ap (λ (x : BallotLine × List Choice). length (counter_bytes x)) (get_or_from_slice_get pairs panel pair pair (panel_pair t bags panel (omega arith) (omega (arith, c.requires.panels)))) in
    let fits = written_fits counter_bytes pairs panel pair (omega (arith, length-zip (lines_by_panel t) bags, by_panel_length t, c.requires.panels)) in
    omega (arith, c.loop-panel.invariant.end, c.requires.room)

pub loop-panel-preserved : goal.loop-panel-preserved
loop-panel-preserved c =
    let t = c.args.tables.now in
    let panel = c.loop-panel.panel in
    let bags : List (List Choice) = c.args.votes.now.bags in
    let pairs : List (BallotLine × List Choice) = zip (lines_by_panel t) bags in
    let pair : BallotLine × List Choice = (line_of t panel, bag_at bags panel) in
    let here : panel < length pairs = omega (arith, length-zip (lines_by_panel t) bags, by_panel_length t, c.requires.panels) in
    let found = panel_pair t bags panel (omega arith) (omega (arith, c.requires.panels)) in
    let same = ap (λ (x : BallotLine × List Choice). length (counter_bytes x)) (get_or_from_slice_get pairs panel pair pair found) in
    let longer = written_longer counter_bytes pairs panel pair here in
    record {
      end = omega (arith, c.loop-panel.invariant.end, c.put_panel-end.ensures.end);
      text = put_more counter_bytes (take c.args.at c.args.into.now) _ _ (counter_bytes pair) pairs panel pair found here c.loop-panel.invariant.text c.put_panel-end.ensures.text refl;
    }

pub returns : goal.returns
returns c =
    let t = c.args.tables.now in
    let bags : List (List Choice) = c.args.votes.now.bags in
    let pairs : List (BallotLine × List Choice) = zip (lines_by_panel t) bags in
    let all : length pairs ≤ c.loop-panel.panel = omega (arith, length-zip (lines_by_panel t) bags, by_panel_length t) in
    let whole = ap (λ (l : List (BallotLine × List Choice)). length (flat_map counter_bytes l)) (take_all c.loop-panel.panel pairs all) in
    record {
      end = omega (arith, c.loop-panel.invariant.end);
      text = put_all counter_bytes (take c.args.at c.args.into.now) (take c.loop-panel.end c.loop-panel.into) pairs c.loop-panel.panel all c.loop-panel.invariant.text;
    }

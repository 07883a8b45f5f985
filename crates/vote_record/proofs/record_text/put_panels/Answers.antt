use Rattle.std.proofs.Common.{◌<◌, ◌++◌, List, length, ap, ◌∙◌, arith}
use Rattle.std.specs.List.{concat, flat_map, zip}
use Rattle.std.proofs.lemmas.List.{take_all}
use Rattle.std.proofs.lemmas.Slice.Zip.{length-zip}
use Rattle.vote_record.specs.RecordText.{panel_lines}
use Rattle.vote_record.proofs.TextLaws.{lines_more, pair_at}
use Rattle.vote_record.proofs.record_text.put_panels.Goals as goal

pub loop-panel-preserved : goal.loop-panel-preserved
loop-panel-preserved c =
    let panels = c.args.tables.now.panels in
    let bags = c.args.votes.now.bags in
    let i = c.loop-panel.panel in
    let here : i < length panels = omega (arith, c.panels-panel-end.ensures.count) in
    lines_more panel_lines (zip panels bags) i _ _ _ _ (pair_at panels bags i here (omega (arith, c.requires))) c.loop-panel.invariant
    c.in_ok-put_panel.ensures

pub returns : goal.returns
returns c =
    let pairs = zip c.args.tables.now.panels c.args.votes.now.bags in
    let many = length-zip c.args.tables.now.panels c.args.votes.now.bags in
    c.loop-panel.invariant
    ∙ ap (λ (ps : List _). c.args.out.now.items ++ concat (flat_map panel_lines ps))
    (take_all c.loop-panel.panel pairs (omega (arith, many, c.requires, c.panels-panel-end.ensures.count)))

use Rattle.std.proofs.Common.{take, map, option_map, ap}
use Rattle.poll_report.proofs.LineLists.{lines_more}
use Rattle.totals.specs.Lines.{bloc_line}
use Rattle.totals.proofs.LineLaws.{pushed}
use Rattle.totals.proofs.results.push_blocs.Goals as goal

pub loop-i-preserved : goal.loop-i-preserved
loop-i-preserved c =
    let ps = c.args.blocs.now in
    let i = c.loop-i.i in
    pushed _ _ c.args.lines.now.items (map (bloc_line c.args.tables.now) (take i ps)) _ _ (c.in_ok-push.ensures.items) c.loop-i.invariant (lines_more (bloc_line c.args.tables.now) ps i _ (rw c.bloc_line.ensures (ap (option_map (bloc_line c.args.tables.now)) c.get.ensures)))

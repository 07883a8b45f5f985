use Rattle.std.proofs.Common.{codes, map, take, option_map, ap}
use Rattle.urna_base.specs.Lines.{number_line}
use Rattle.poll_report.proofs.LineLists.{lines_more}
use Rattle.totals.proofs.LineLaws.{pushed}
use Rattle.totals.proofs.results.push_elected_simply.Goals as goal

pub loop-i-preserved : goal.loop-i-preserved
loop-i-preserved c =
    let ns = c.args.elected.now in
    let i = c.loop-i.i in
    pushed _ _ c.args.lines.now.items (map (number_line (codes "ELEITO ")) (take i ns)) _ _ c.in_ok-push-2.ensures.items c.loop-i.invariant
    (lines_more (number_line (codes "ELEITO ")) ns i _ (rw c.majority_line-in-loop-i.ensures (ap (option_map (number_line (codes "ELEITO "))) c.get.ensures)))

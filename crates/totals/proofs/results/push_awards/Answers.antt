use Rattle.std.proofs.Common.{◌+◌, take, refl}
use Rattle.totals.specs.Lines.{award_lines}
use Rattle.totals.proofs.LineLaws.{awards_more, pushed}
use Rattle.totals.proofs.results.push_awards.Goals as goal

pub loop-i-preserved : goal.loop-i-preserved
loop-i-preserved c =
    let ws = c.args.awards.now in
    let i = c.loop-i.i in
    pushed _ _ c.args.lines.now.items (award_lines c.args.tables.now 1 (take i ws)) _ _ c.in_ok-push.ensures.items c.loop-i.invariant
    (rw c.award_line.ensures (awards_more c.args.tables.now ws i (i + 1) _ c.get.ensures refl))

use Rattle.std.proofs.Common.{[], map, take, option_map, ap}
use Rattle.poll_report.proofs.LineLists.{lines_more}
use Rattle.totals.proofs.LineLaws.{pushed}
use Rattle.urna_commands.specs.Certifica.{substitute_line}
use Rattle.urna_commands.proofs.certifica.certified_lines.Goals as goal

pub loop-i-preserved : goal.loop-i-preserved
loop-i-preserved c =
    let list = c.args.substitutes.now in
    let i = c.loop-i.i in
    pushed _ _ [] (map substitute_line (take i list)) _ _ c.in_ok-push.ensures.items c.loop-i.invariant
    (lines_more substitute_line list i _ (rw c.substitute_line.ensures (ap (option_map substitute_line) c.get.ensures)))

use Rattle.std.proofs.Common.{◌∷◌, []}
use Rattle.urna_outside.proofs.ShowingLines.{shows-append}
use Rattle.poll_report.specs.Counts.{count_lines}
use Rattle.poll_report.proofs.counts.show_counts.Goals as goal

pub returns : goal.returns
returns g c =
    let told = g.M.Machine.told in
    shows-append c.show_panels.result (c.args.title.now ∷ []) (count_lines c.args.tables.now c.args.votes.now.bags) (told c.args.m.now) (told c.show_line.new.machine) (told c.show_panels.new.m)
    c.in_ok-show_line.ensures c.show_panels.ensures

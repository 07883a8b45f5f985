use Rattle.urna_outside.proofs.ShowingLines.{shows_one}
use Rattle.urna_outside.proofs.show.show_line.Goals as goal

pub returns : goal.returns
returns g c =
    shows_one c.show.result c.args.line.now (g.M.Machine.told c.args.machine.now) (g.M.Machine.told c.show.new.self)
    c.show.ensures.ok c.show.ensures.torn c.show.ensures.counts c.show.ensures.calls

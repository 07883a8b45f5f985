use Rattle.std.proofs.Common.{codes, ap, ◌∙◌}
use Rattle.urna_base.specs.Lines.{number_line}
use Rattle.totals.proofs.LineLaws.{five_behind, line_behind}
use Rattle.totals.proofs.results.push_seats.Goals as goal

pub returns : goal.returns
returns c reports read =
    let fn = c.args.lines.now.items in
    five_behind fn _ _ _ _ _ _ _ _ _ _
    (line_behind _ fn _ _ c.in_ok-push.ensures.items c.number_line.ensures)
    c.in_ok-push_blocs.ensures c.in_ok-push_awards.ensures (c.in_ok-push_elected.ensures c.args.tables.now reports c.requires.made read)
    (line_behind _ c.push_elected.new.lines.items _ _ c.in_ok-push-2.ensures.items (c.number_line-2.ensures ∙ ap (number_line (codes "VAGAS VAZIAS ")) c.from.ensures))

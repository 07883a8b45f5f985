use Rattle.std.proofs.Common.{List, ℕ, subst, arith}
use Rattle.urna_outside.specs.ShownLines.{HasShown}
use Rattle.urna_outside.proofs.ShowingLines.{shown_nothing, shown_to, cut_within, shows_err}
use Rattle.vote_kinds.specs.Ballot.{panel_at}
use Rattle.vote_record.specs.Bag.{bag_at}
use Rattle.poll_report.specs.Counts.{panel_lines, count_lines}
use Rattle.poll_report.proofs.LineLists.{first_lines, first_more, first_rest, first_all}
use Rattle.poll_report.proofs.counts.show_panels.Goals as goal

pub loop-panel-init : goal.loop-panel-init
loop-panel-init g c = shown_nothing (g.M.Machine.told c.args.m.now)

pub returns-in_err-show_panel : goal.returns-in_err-show_panel
returns-in_err-show_panel g c =
    let t = c.args.tables.now in
    let bags = c.args.votes.now.bags in
    let i = c.loop-panel.panel in
    let rest = first_rest t bags i (omega (arith, c.panels-panel-end.ensures.count)) in
    shows_err c.from_residual.result (count_lines t bags) (g.M.Machine.told c.args.m.now) (g.M.Machine.told c.show_panel.new.m) c.from_residual.ensures.0
    (cut_within (first_lines t bags i) (panel_lines t (panel_at t i) (bag_at bags i)) rest.0 (count_lines t bags)
    (g.M.Machine.told c.args.m.now) (g.M.Machine.told c.loop-panel.m) (g.M.Machine.told c.show_panel.new.m) rest.1 c.loop-panel.invariant c.in_err-show_panel.ensures)

pub loop-panel-preserved : goal.loop-panel-preserved
loop-panel-preserved g c =
    let t = c.args.tables.now in
    let bags = c.args.votes.now.bags in
    let i = c.loop-panel.panel in
    shown_to (first_lines t bags i) (panel_lines t (panel_at t i) (bag_at bags i)) _
    (g.M.Machine.told c.args.m.now) (g.M.Machine.told c.loop-panel.m) (g.M.Machine.told c.show_panel.new.m)
    (first_more t bags i (omega (arith, c.panels-panel-end.ensures.count))) c.loop-panel.invariant c.in_ok-show_panel.ensures

pub returns : goal.returns
returns g c =
    let t = c.args.tables.now in
    let bags = c.args.votes.now.bags in
    subst (λ (ls : List (List ℕ)). HasShown ls (g.M.Machine.told c.args.m.now) (g.M.Machine.told c.loop-panel.m))
    (first_all t bags c.loop-panel.panel (omega (arith, c.panels-panel-end.ensures.count))) c.loop-panel.invariant

use Rattle.std.proofs.Common.{◌+◌, arith}
use Rattle.vote_record.proofs.NewCounters.{counters_fit, one_panel_more}
use Rattle.vote_record.proofs.counters.spare_counters.Goals as goal

pub overflow_sub-spare : goal.overflow_sub-spare
overflow_sub-spare c =
    let t = c.args.tables.now in
    let panel = c.loop-panel.panel in
    let fit = counters_fit t (panel + 1) c.choice_count-spare.ensures.tables (omega arith) in
    omega (arith, c.loop-panel.invariant, one_panel_more t panel, c.choice_count-spare.ensures.count)

pub loop-panel-preserved : goal.loop-panel-preserved
loop-panel-preserved c =
    let t = c.args.tables.now in
    let panel = c.loop-panel.panel in
    let fit = counters_fit t (panel + 1) c.choice_count-spare.ensures.tables (omega arith) in
    omega (arith, c.loop-panel.invariant, one_panel_more t panel, c.choice_count-spare.ensures.count)

use Rattle.std.proofs.Common.{sym, ◌∙◌, arith}
use Rattle.rehearsal_run.proofs.SuspendedLaws.{counted, passed}
use Rattle.rehearsal_run.proofs.lines.suspended_among.Goals.{else-is_suspended, then-is_suspended}
use Rattle.rehearsal_run.proofs.lines.suspended_among.Goals as goal

pub loop-place-preserved : goal.loop-place-preserved
loop-place-preserved c =
    let place = c.loop-place.place in
    let count = c.loop-place.count in
    let so_far = c.loop-place.invariant.0 in
    let few = c.loop-place.invariant.1 in
    elim c.if-is_suspended.branch [
      | then-is_suspended w ↦
          let is = w.count-is in
          (is ∙ counted place count so_far (sym c.is_suspended.ensures ∙ w.if-is_suspended.true), omega (arith, few, is))
      | else-is_suspended w ↦
          let is = w.count-is in
          (is ∙ passed place count so_far (sym c.is_suspended.ensures ∙ w.if-is_suspended.false), omega (arith, few, is))
    ]

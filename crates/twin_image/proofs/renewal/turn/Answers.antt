use Rattle.std.proofs.Common.{rules}
use Rattle.urna_outside.proofs.Faults.{fails_later, ends_later, faultless_trans}
use Rattle.std.proofs.lemmas.Result.{on_err_weaker, on_ok_weaker}
use Rattle.urna_outside.proofs.Doing.{does-append}
use Rattle.urna_outside.specs.Told.{Runs}
use Rattle.gate_slot.specs.Device.{OnFlash}
use Rattle.gate_slot.specs.Front.{IsFrontOf}
use Rattle.gate_slot.specs.Slot.{publish_ops}
use Rattle.twin_image.specs.Twin.{turning_ops}
use Rattle.gate_slot.proofs.Fronts.{fronts_first, fronts_later}
use Rattle.gate_slot.proofs.Written.{body_stays_there}
use Rattle.twin_image.proofs.Turning.{writes_one, shut_stage, turned_shut, turned_fill, turned, shutting_leaves, shutting_does, turning_cut}
use Rattle.twin_image.proofs.renewal.turn.Goals as goal

pub returns-in_err-shut-clause-torn : goal.returns-in_err-shut-clause-torn
returns-in_err-shut-clause-torn g c =
    let slot = c.args.slot in
    let r = c.requires in
    let stays = body_stays_there slot.dev g.row.SIZE slot.index _ _ r.index r.room (g.met.M.Machine.sized c.args.m.now) c.shut.ensures.ran in
    let leaves = shutting_leaves slot.dev g.row.SIZE slot.index c.args.new.now _ (g.M.Machine.told c.args.m.now) (g.M.Machine.told c.shut.new.m) c.in_err-shut.ensures.torn.1 stays in
    search rules

pub returns-in_err-shut-clause-ran : goal.returns-in_err-shut-clause-ran
returns-in_err-shut-clause-ran g c =
    let slot = c.args.slot in
    let r = c.requires in
    turned_shut slot.dev g.row.SIZE slot.index r.index c.args.new.now r.new _ _
    (shut_stage slot.dev g.row.SIZE slot.index r.index c.args.new.now r.new _ _ r.room (g.met.M.Machine.sized c.args.m.now) r.clean c.shut.ensures.ran c.shut.ensures.idle)

pub returns-in_err-filled-clause-fails : goal.returns-in_err-filled-clause-fails
returns-in_err-filled-clause-fails g c =
    let ends = ends_later _ _ _ _ c.in_ok-shut.ensures.fails c.in_err-filled.ensures.fails in search rules

pub returns-in_err-filled-clause-ran : goal.returns-in_err-filled-clause-ran
returns-in_err-filled-clause-ran g c =
    let slot = c.args.slot in
    let r = c.requires in
    let first = shut_stage slot.dev g.row.SIZE slot.index r.index c.args.new.now r.new _ _ r.room (g.met.M.Machine.sized c.args.m.now) r.clean c.shut.ensures.ran c.shut.ensures.idle in
    let fill_ran = rw c.in_ok-shut.ensures.slot at c.fill.ensures.ran in
    turned_fill slot.dev g.row.SIZE slot.index r.index c.args.new.now r.new _ _ _ r.room (g.met.M.Machine.sized c.shut.new.m) c.in_ok-shut.ensures.shut first (writes_one _ _ _ _ _ (λ k is. is) fill_ran)

pub returns-clause-ran : goal.returns-clause-ran
returns-clause-ran g c =
    let slot = c.args.slot in
    let r = c.requires in
    let first = shut_stage slot.dev g.row.SIZE slot.index r.index c.args.new.now r.new _ _ r.room (g.met.M.Machine.sized c.args.m.now) r.clean c.shut.ensures.ran c.shut.ensures.idle in
    let fill_ran = rw c.in_ok-shut.ensures.slot at c.fill.ensures.ran in
    let filled = rw c.in_ok-shut.ensures.slot at c.in_ok-filled.ensures.body in
    let publish_ran = rw (c.in_ok-filled.ensures.slot, c.in_ok-shut.ensures.slot) at c.publish.ensures.ran in
    turned slot.dev g.row.SIZE slot.index r.index c.args.new.now r.new _ _ _ _ r.room (g.met.M.Machine.sized c.shut.new.m) (g.met.M.Machine.sized c.fill.new.m) c.in_ok-shut.ensures.shut filled first (writes_one _ _ _ _ _ (λ k is. is) fill_ran) publish_ran

pub returns-clause-fails : goal.returns-clause-fails
returns-clause-fails g c =
    fails_later _ _ _ _ _ (faultless_trans _ _ _ c.in_ok-shut.ensures.fails c.in_ok-filled.ensures.fails) c.publish.ensures.fails

pub returns-clause-exact : goal.returns-clause-exact
returns-clause-exact g c =
    let fill = rw c.in_ok-shut.ensures.slot at c.in_ok-filled.ensures.exact in
    let publish = rw (c.in_ok-filled.ensures.slot, c.in_ok-shut.ensures.slot) at c.publish.ensures.exact in
    let shut = shutting_does c.args.slot.dev g.row.SIZE c.args.slot.index _ _ c.in_ok-shut.ensures.exact c.shut.ensures.idle in
    on_ok_weaker c.publish.result (λ does fs told.
    does-append _ _ _ _ _ (does-append _ _ _ _ _ (shut fs told) fill) does) publish

pub returns-in_err-shut-clause-cut : goal.returns-in_err-shut-clause-cut
returns-in_err-shut-clause-cut g c =
    let front = turning_cut c.args.slot.dev g.row.SIZE c.args.slot.index c.args.new.now _ _ c.in_err-shut.ensures.cut c.shut.ensures.idle in search rules

pub returns-in_err-filled-clause-cut : goal.returns-in_err-filled-clause-cut
returns-in_err-filled-clause-cut g c =
    let fill = rw c.in_ok-shut.ensures.slot at c.in_err-filled.ensures.cut in
    let shut = shutting_does c.args.slot.dev g.row.SIZE c.args.slot.index _ _ c.in_ok-shut.ensures.exact c.shut.ensures.idle in
    let d = c.args.slot.dev in
    let front : OnFlash d (λ f. Runs (IsFrontOf (turning_ops g.row.SIZE d c.args.slot.index c.args.new.now f.content)) (g.M.Machine.told c.args.m.now) (g.M.Machine.told c.fill.new.m)) (g.M.Machine.told c.args.m.now) =
    λ fs told. fronts_first _ (publish_ops g.row.SIZE d c.args.slot.index) _ _ (fronts_later _ _ _ _ _ (shut fs told) fill) in
    search rules

pub returns-clause-cut : goal.returns-clause-cut
returns-clause-cut g c =
    let fill = rw c.in_ok-shut.ensures.slot at c.in_ok-filled.ensures.exact in
    let publish = rw (c.in_ok-filled.ensures.slot, c.in_ok-shut.ensures.slot) at c.publish.ensures.cut in
    let shut = shutting_does c.args.slot.dev g.row.SIZE c.args.slot.index _ _ c.in_ok-shut.ensures.exact c.shut.ensures.idle in
    on_err_weaker c.publish.result (λ front fs told.
    fronts_later _ _ _ _ _ (does-append _ _ _ _ _ (shut fs told) fill) front) publish

use Rattle.std.proofs.Common.{◌≡◌, ◌+◌, ◌<◌, ◌≤◌, ◌++◌, Some, sym, subst, arith, rules}
use Rattle.std.proofs.lemmas.Result.{err_from_is_err_and, on_err_weaker, on_ok_weaker}
use Rattle.urna_outside.specs.Flash.{Flashes, flash_of}
use Rattle.urna_outside.specs.Told.{Sizes, size_of}
use Rattle.urna_outside.proofs.Faults.{fails_later, ends_later, faultless_trans}
use Rattle.urna_outside.proofs.Doing.{does-append, does_nothing}
use Rattle.gate_slot.specs.Device.{OnFlash}
use Rattle.gate_slot.specs.Slot.{IsGateShut, body_in, gate_offset, room, shut_ops, publish_ops}
use Rattle.gate_slot.specs.declared.slot.Step.TheVariants.{Shutting, Filling, Publishing}
use Rattle.gate_slot.proofs.Fronts.{fronts_first, fronts_later}
use Rattle.gate_slot.proofs.Images.{body_image}
use Rattle.gate_slot.proofs.Written.{body_stays_there}
use Rattle.twin_image.specs.Rewrite.{rewrite_bytes, rewrite_ops}
use Rattle.twin_image.proofs.Ordering.{does_behind, turn_cut, turn_cut_if_torn, turn_cut_in, turn_up_to}
use Rattle.twin_image.proofs.Renewing.{content_image, live_gate, live_shut}
use Rattle.twin_image.proofs.Rewriting.{write_bytes, patch_bytes, puts-append, puts_more}
use Rattle.twin_image.proofs.Turning.{writes_patch, shut_stage, turned_shut, turned_fill, turned, shutting_leaves}
use Rattle.twin_image.proofs.renewal.turn_over.Goals as goal

pub returns-in_err-shut-clause-torn : goal.returns-in_err-shut-clause-torn
returns-in_err-shut-clause-torn g c =
    let slot = c.args.slot in
    let r = c.requires in
    let stays = body_stays_there slot.dev g.row.SIZE slot.index _ _ r.index r.room (g.met.M.Machine.sized c.args.m.now) c.shut.ensures.ran in
    let leaves = shutting_leaves slot.dev g.row.SIZE slot.index c.args.new.now _ (g.M.Machine.told c.args.m.now) (g.M.Machine.told c.shut.new.m) c.in_err-shut.ensures.torn.1 stays c.args.old.now (λ fs told. (r.live fs told).body_stands) in
    search rules

pub returns-in_err-shut-clause-ran : goal.returns-in_err-shut-clause-ran
returns-in_err-shut-clause-ran g c =
    let slot = c.args.slot in
    let r = c.requires in
    turned_shut slot.dev g.row.SIZE slot.index r.index c.args.new.now r.new _ _
    (shut_stage slot.dev g.row.SIZE slot.index r.index c.args.new.now r.new _ _ r.room (g.met.M.Machine.sized c.args.m.now) r.clean c.shut.ensures.ran c.shut.ensures.idle)

pub returns-in_err-shut-clause-bytes : goal.returns-in_err-shut-clause-bytes
returns-in_err-shut-clause-bytes g c =
    puts_more 1 (rewrite_bytes g.row.SIZE c.args.old.now c.args.new.now + 2) _ _ (omega arith) (write_bytes c.args.slot.dev (gate_offset g.row.SIZE c.args.slot.index) 1 _ _ c.shut.ensures.ran)

pub returns-in_err-shut-clause-order : goal.returns-in_err-shut-clause-order
returns-in_err-shut-clause-order g c =
    let slot = c.args.slot in
    let behind = rewrite_ops g.row.SIZE slot.dev slot.index c.args.old.now c.args.new.now ++ publish_ops g.row.SIZE slot.dev slot.index in
    let front = turn_cut g.row.SIZE slot.dev slot.index c.args.old.now c.args.new.now _ _ (fronts_first (shut_ops g.row.SIZE slot.dev slot.index) behind _ _ c.in_err-shut.ensures.cut) in
    search rules

pub returns-in_err-shut-clause-cut : goal.returns-in_err-shut-clause-cut
returns-in_err-shut-clause-cut g c =
    let slot = c.args.slot in
    let front = turn_cut_in g.row.SIZE slot.dev slot.index c.args.old.now c.args.new.now _ Shutting _ _ _ c.in_err-shut.ensures.torn.1 (λ fs told. does_nothing (g.M.Machine.told c.args.m.now)) c.in_err-shut.ensures.cut in
    let torn = err_from_is_err_and c.from_residual.result c.from_residual.ensures.1 in
    rw (torn.1, torn.2) front

pub rewrite-requires : goal.rewrite-requires
rewrite-requires g c =
    let slot = c.args.slot in
    let r = c.requires in
    let same = sym c.in_ok-shut.ensures.slot in
    let run = c.shut.ensures.ran in
    let fits = subst (λ (z : Sizes). room g.row.SIZE ≤ size_of slot.dev z) (sym run.1.sizes) r.room in
    let still = body_stays_there slot.dev g.row.SIZE slot.index _ _ r.index r.room (g.met.M.Machine.sized c.args.m.now) run c.args.old.now (λ fs told. (r.live fs told).body_stands) in (
      omega arith,
      (
        omega arith,
        (
          omega arith,
          (
            subst (λ s. s.index < 2) same r.index,
            (
              subst (λ s. room g.row.SIZE ≤ size_of s.dev (g.M.Machine.told c.shut.new.m).sizes) same fits,
              (
                r.old,
                (
                  r.new,
                  (
                    r.changes,
                    (
                      subst (λ s. OnFlash s.dev (IsGateShut g.row.SIZE s.index) (g.M.Machine.told c.shut.new.m)) same c.in_ok-shut.ensures.shut,
                      subst (λ s. OnFlash s.dev (λ flash. body_in g.row.SIZE s.index flash.content ≡ c.args.old.now) (g.M.Machine.told c.shut.new.m)) same
                          (λ fs told. body_image g.row.SIZE slot.index c.args.old.now (flash_of slot.dev fs) (flash_of slot.dev fs).content r.old (still fs told) (content_image (flash_of slot.dev fs))),
                    ),
                  ),
                ),
              ),
            ),
          ),
        ),
      ),
    )

pub returns-in_err-filled-clause-ran : goal.returns-in_err-filled-clause-ran
returns-in_err-filled-clause-ran g c =
    let slot = c.args.slot in
    let r = c.requires in
    let first = shut_stage slot.dev g.row.SIZE slot.index r.index c.args.new.now r.new _ _ r.room (g.met.M.Machine.sized c.args.m.now) r.clean c.shut.ensures.ran c.shut.ensures.idle in
    let fill_ran = rw c.in_ok-shut.ensures.slot at c.rewrite.ensures.ran in
    turned_fill slot.dev g.row.SIZE slot.index r.index c.args.new.now r.new _ _ _ r.room (g.met.M.Machine.sized c.shut.new.m) c.in_ok-shut.ensures.shut first (writes_patch _ _ _ _ _ fill_ran)

pub returns-in_err-filled-clause-bytes : goal.returns-in_err-filled-clause-bytes
returns-in_err-filled-clause-bytes g c =
    let bytes = rewrite_bytes g.row.SIZE c.args.old.now c.args.new.now in
    let first = write_bytes c.args.slot.dev (gate_offset g.row.SIZE c.args.slot.index) 1 _ _ c.shut.ensures.ran in
    puts-append 1 bytes (bytes + 2) _ _ _ (omega arith) first (patch_bytes _ _ bytes _ _ c.rewrite.ensures.ran)

pub returns-in_err-filled-clause-order : goal.returns-in_err-filled-clause-order
returns-in_err-filled-clause-order g c =
    let slot = c.args.slot in
    let write = rw c.in_ok-shut.ensures.slot at c.in_err-filled.ensures.cut in
    let body = rewrite_ops g.row.SIZE slot.dev slot.index c.args.old.now c.args.new.now in
    let publish = publish_ops g.row.SIZE slot.dev slot.index in
    let front = λ (fs : Flashes) (told : (g.M.Machine.told c.args.m.now).flashes ≡ Some fs).
    let gate = live_gate g.row.SIZE slot.index c.args.old.now (flash_of slot.dev fs) (c.requires.live fs told) in
    turn_cut g.row.SIZE slot.dev slot.index c.args.old.now c.args.new.now _ _
    (fronts_later (shut_ops g.row.SIZE slot.dev slot.index) (body ++ publish) _ _ _ (c.in_ok-shut.ensures.exact fs told gate) (fronts_first body publish _ _ write)) in
    search rules

pub returns-in_err-filled-clause-cut : goal.returns-in_err-filled-clause-cut
returns-in_err-filled-clause-cut g c =
    let slot = c.args.slot in
    let write = rw c.in_ok-shut.ensures.slot at c.in_err-filled.ensures.cut in
    let shut = live_shut slot.dev g.row.SIZE slot.index c.args.old.now _ _ c.requires.live c.in_ok-shut.ensures.exact in
    let front = turn_cut_in g.row.SIZE slot.dev slot.index c.args.old.now c.args.new.now _ Filling _ _ _ c.in_err-filled.ensures.torn.1 shut write in
    search rules

pub returns-in_err-filled-clause-fails : goal.returns-in_err-filled-clause-fails
returns-in_err-filled-clause-fails g c =
    let ends = ends_later _ _ _ _ c.in_ok-shut.ensures.fails c.in_err-filled.ensures.fails in search rules

pub returns-clause-ran : goal.returns-clause-ran
returns-clause-ran g c =
    let slot = c.args.slot in
    let r = c.requires in
    let first = shut_stage slot.dev g.row.SIZE slot.index r.index c.args.new.now r.new _ _ r.room (g.met.M.Machine.sized c.args.m.now) r.clean c.shut.ensures.ran c.shut.ensures.idle in
    let fill_ran = rw c.in_ok-shut.ensures.slot at c.rewrite.ensures.ran in
    let filled = rw c.in_ok-shut.ensures.slot at c.in_ok-filled.ensures.body in
    let publish_ran = rw (c.in_ok-filled.ensures.slot, c.in_ok-shut.ensures.slot) at c.publish.ensures.ran in
    turned slot.dev g.row.SIZE slot.index r.index c.args.new.now r.new _ _ _ _ r.room (g.met.M.Machine.sized c.shut.new.m) (g.met.M.Machine.sized c.rewrite.new.m) c.in_ok-shut.ensures.shut filled first (writes_patch _ _ _ _ _ fill_ran) publish_ran

pub returns-clause-bytes : goal.returns-clause-bytes
returns-clause-bytes g c =
    let bytes = rewrite_bytes g.row.SIZE c.args.old.now c.args.new.now in
    let gate = gate_offset g.row.SIZE c.args.slot.index in
    let first = write_bytes c.args.slot.dev gate 1 _ _ c.shut.ensures.ran in
    let both = puts-append 1 bytes (bytes + 1) _ _ _ (omega arith) first (patch_bytes _ _ bytes _ _ c.rewrite.ensures.ran) in
    let publish_ran = rw (c.in_ok-filled.ensures.slot, c.in_ok-shut.ensures.slot) at c.publish.ensures.ran in
    puts-append (bytes + 1) 1 (bytes + 2) _ _ _ (omega arith) both (write_bytes c.args.slot.dev gate 1 _ _ publish_ran)

pub returns-clause-order : goal.returns-clause-order
returns-clause-order g c = λ fs told.
    let slot = c.args.slot in
    let write = rw c.in_ok-shut.ensures.slot at c.in_ok-filled.ensures.exact in
    let done = rw (c.in_ok-filled.ensures.slot, c.in_ok-shut.ensures.slot) at c.publish.ensures.exact in
    let cut = rw (c.in_ok-filled.ensures.slot, c.in_ok-shut.ensures.slot) at c.publish.ensures.cut in
    let gate = live_gate g.row.SIZE slot.index c.args.old.now (flash_of slot.dev fs) (c.requires.live fs told) in
    let before = does-append (shut_ops g.row.SIZE slot.dev slot.index) _ _ _ _ (c.in_ok-shut.ensures.exact fs told gate) write in
    turn_up_to c.publish.result g.row.SIZE slot.dev slot.index c.args.old.now c.args.new.now _ _
    (on_ok_weaker c.publish.result (does-append _ _ _ _ _ before) done)
    (on_err_weaker c.publish.result (fronts_later _ _ _ _ _ before) cut)

pub returns-clause-cut : goal.returns-clause-cut
returns-clause-cut g c =
    let slot = c.args.slot in
    let write = rw c.in_ok-shut.ensures.slot at c.in_ok-filled.ensures.exact in
    let cut = rw (c.in_ok-filled.ensures.slot, c.in_ok-shut.ensures.slot) at c.publish.ensures.cut in
    let shut = live_shut slot.dev g.row.SIZE slot.index c.args.old.now _ _ c.requires.live c.in_ok-shut.ensures.exact in
    let before = does_behind (shut_ops g.row.SIZE slot.dev slot.index) (rewrite_ops g.row.SIZE slot.dev slot.index c.args.old.now c.args.new.now) _ _ _ shut write in
    turn_cut_if_torn c.publish.result _ g.row.SIZE slot.dev slot.index c.args.old.now c.args.new.now Publishing _ _ _ c.publish.ensures.torn before cut

pub returns-clause-fails : goal.returns-clause-fails
returns-clause-fails g c =
    fails_later _ _ _ _ _ (faultless_trans _ _ _ c.in_ok-shut.ensures.fails c.in_ok-filled.ensures.fails) c.publish.ensures.fails

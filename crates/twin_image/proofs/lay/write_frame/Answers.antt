use Rattle.std.proofs.Common.{[], ◌∷◌, rules}
use Rattle.std.proofs.lemmas.Result.{on_err_weaker, on_ok_weaker}
use Rattle.urna_outside.specs.Flash.{Put, Sync}
use Rattle.gate_slot.specs.Slot.{padding_offset}
use Rattle.twin_image.specs.Frame.{padding}
use Rattle.gate_slot.proofs.Fronts.{fronts_later, fronts_none, fronts_torn}
use Rattle.twin_image.proofs.Writing.{framed_first, framed_second, framed_third, frame_synced}
use Rattle.twin_image.proofs.lay.write_frame.Goals as goal
use Rattle.urna_outside.proofs.Doing.{does-append}

pub returns-in_err-write-2-clause-ran : goal.returns-in_err-write-2-clause-ran
returns-in_err-write-2-clause-ran g c =
    let torn = rw (c.padding.ensures, c.zeros-padding.ensures) at c.in_err-write-2.ensures.torn in
    framed_first c.args.dev g.row.SIZE c.args.header.now c.requires.header _ _ _ c.in_ok-write.ensures.ok torn

pub returns-in_err-write-3-clause-ran : goal.returns-in_err-write-3-clause-ran
returns-in_err-write-3-clause-ran g c =
    let second = rw (c.padding.ensures, c.zeros-padding.ensures) at c.in_ok-write-2.ensures.ok in
    let torn = rw (c.padding-2.ensures, c.zeros-padding.ensures) at c.in_err-write-3.ensures.torn in
    framed_second c.args.dev g.row.SIZE c.args.header.now c.requires.header _ _ _ _ c.in_ok-write.ensures.ok second torn

pub returns-clause-ran : goal.returns-clause-ran
returns-clause-ran g c =
    let second = rw (c.padding.ensures, c.zeros-padding.ensures) at c.in_ok-write-2.ensures.ok in
    let third = rw (c.padding-2.ensures, c.zeros-padding.ensures) at c.in_ok-write-3.ensures.ok in
    framed_third c.args.dev g.row.SIZE c.args.header.now c.requires.header c.sync.result _ _ _ _ _ c.in_ok-write.ensures.ok second third c.sync.ensures.ok c.sync.ensures.err

pub returns-clause-stands : goal.returns-clause-stands
returns-clause-stands g c =
    let second = rw (c.padding.ensures, c.zeros-padding.ensures) at c.in_ok-write-2.ensures.ok in
    let third = rw (c.padding-2.ensures, c.zeros-padding.ensures) at c.in_ok-write-3.ensures.ok in
    let sized = g.met.M.Machine.sized in
    on_ok_weaker c.sync.result (λ sync. frame_synced c.args.dev g.row.SIZE c.args.header.now c.requires.header _ _ _ _ _ c.requires.room (sized c.args.m.now) (sized c.write.new.self) (sized c.write-2.new.self) (sized c.write-3.new.self) c.in_ok-write.ensures.ok second third sync) c.sync.ensures.ok

pub returns-clause-exact : goal.returns-clause-exact
returns-clause-exact g c =
    let second = rw (c.padding.ensures, c.zeros-padding.ensures) at c.in_ok-write-2.ensures.ok in
    let third = rw (c.padding-2.ensures, c.zeros-padding.ensures) at c.in_ok-write-3.ensures.ok in
    on_ok_weaker c.sync.result (λ sync. does-append _ _ _ _ _ c.in_ok-write.ensures.ok (does-append _ _ _ _ _ second (does-append _ _ _ _ _ third sync))) c.sync.ensures.ok

-- the header, the paddings and the sync, of which the first ones may be done
pub returns-in_err-write-clause-cut : goal.returns-in_err-write-clause-cut
returns-in_err-write-clause-cut g c =
    let d = c.args.dev in
    let more = Put d (padding_offset g.row.SIZE 0) padding ∷ Put d (padding_offset g.row.SIZE 1) padding ∷ Sync d ∷ [] in
    let front = fronts_torn d 0 c.args.header.now more _ _ c.in_err-write.ensures.torn in search rules

pub returns-in_err-write-2-clause-cut : goal.returns-in_err-write-2-clause-cut
returns-in_err-write-2-clause-cut g c =
    let d = c.args.dev in
    let torn = rw (c.padding.ensures, c.zeros-padding.ensures) at c.in_err-write-2.ensures.torn in
    let more = Put d (padding_offset g.row.SIZE 1) padding ∷ Sync d ∷ [] in
    let front = fronts_later _ _ _ _ _ c.in_ok-write.ensures.ok (fronts_torn d (padding_offset g.row.SIZE 0) padding more _ _ torn) in search rules

pub returns-in_err-write-3-clause-cut : goal.returns-in_err-write-3-clause-cut
returns-in_err-write-3-clause-cut g c =
    let d = c.args.dev in
    let second = rw (c.padding.ensures, c.zeros-padding.ensures) at c.in_ok-write-2.ensures.ok in
    let torn = rw (c.padding-2.ensures, c.zeros-padding.ensures) at c.in_err-write-3.ensures.torn in
    let last = fronts_torn d (padding_offset g.row.SIZE 1) padding (Sync d ∷ []) _ _ torn in
    let front = fronts_later _ _ _ _ _ c.in_ok-write.ensures.ok (fronts_later _ _ _ _ _ second last) in search rules

pub returns-clause-cut : goal.returns-clause-cut
returns-clause-cut g c =
    let second = rw (c.padding.ensures, c.zeros-padding.ensures) at c.in_ok-write-2.ensures.ok in
    let third = rw (c.padding-2.ensures, c.zeros-padding.ensures) at c.in_ok-write-3.ensures.ok in
    on_err_weaker c.sync.result (λ none.
    fronts_later _ _ _ _ _ c.in_ok-write.ensures.ok (fronts_later _ _ _ _ _ second (fronts_later _ _ _ _ _ third (fronts_none (Sync c.args.dev) [] _ _ none)))) c.sync.ensures.err

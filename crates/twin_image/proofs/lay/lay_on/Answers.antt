use Rattle.std.proofs.Common.{◌≤◌, ◌∷◌, ◌++◌, sym, ◌∙◌, subst, arith}
use Rattle.urna_outside.specs.Flash.{Put, Sync}
use Rattle.urna_outside.specs.Told.{Sizes, size_of}
use Rattle.gate_slot.specs.Slot.{room, body_offset, fill_ops, publish_ops}
use Rattle.gate_slot.proofs.Fronts.{fronts_first, fronts_later}
use Rattle.twin_image.specs.Lay.{frame_ops}
use Rattle.twin_image.proofs.Laying.{laid_shut, laid_fill, laid_frame, laid, filled_twins, body_framed, twins_laid, frame_laid}
use Rattle.twin_image.proofs.lay.lay_on.Goals as goal
use Rattle.urna_outside.proofs.Doing.{does-append}

pub returns-in_default-clause-ran : goal.returns-in_default-clause-ran
returns-in_default-clause-ran g c =
    laid_shut c.args.dev g.row.SIZE c.args.header.now c.args.body.now c.requires.header c.requires.body _ _ c.shut_both.ensures.ran

pub returns-in_default-fill_both-clause-ran : goal.returns-in_default-fill_both-clause-ran
returns-in_default-fill_both-clause-ran g c =
    laid_fill c.args.dev g.row.SIZE c.args.header.now c.args.body.now c.requires.header c.requires.body _ _ _ c.requires.room (g.met.M.Machine.sized c.shut_both.new.m) c.in-Ok.ensures.clean c.in-Ok.ensures.shut c.shut_both.ensures.ran c.fill_both.ensures.ran

pub returns-in_default-write_frame-clause-ran : goal.returns-in_default-write_frame-clause-ran
returns-in_default-write_frame-clause-ran g c =
    let sized = g.met.M.Machine.sized in
    laid_frame c.args.dev g.row.SIZE c.args.header.now c.args.body.now c.requires.header c.requires.body _ _ _ _ c.requires.room (sized c.shut_both.new.m) (sized c.fill_both.new.m) c.in-Ok.ensures.clean c.in-Ok.ensures.shut c.in-Ok-fill_both.ensures.shut c.shut_both.ensures.ran c.fill_both.ensures.ran c.write_frame.ensures.ran

pub publish_both-requires : goal.publish_both-requires
publish_both-requires g c =
    let d = c.args.dev in
    let same = c.fill_both.ensures.ran.1.sizes ∙ c.shut_both.ensures.ran.1.sizes in
    let fits_c = subst (λ (s : Sizes). room g.row.SIZE ≤ size_of d s) (sym same) c.requires.room in
    let fits = subst (λ (s : Sizes). room g.row.SIZE ≤ size_of d s) (sym c.write_frame.ensures.ran.1.sizes) fits_c in
    let filled = filled_twins d g.row.SIZE c.args.header.now c.args.body.now c.requires.header c.requires.body _ _ fits_c (g.met.M.Machine.sized c.fill_both.new.m) c.write_frame.ensures.ran c.in-Ok-fill_both.ensures.shut c.in-Ok-fill_both.ensures.body in
    (omega arith, (omega arith, (omega arith, (c.in-Ok-fill_both.ensures.slots, (fits, filled)))))

pub returns-in-Ok-publish_both-clause-twin : goal.returns-in-Ok-publish_both-clause-twin
returns-in-Ok-publish_both-clause-twin g c =
    let d = c.args.dev in
    let same = c.fill_both.ensures.ran.1.sizes ∙ c.shut_both.ensures.ran.1.sizes in
    let fits_c = subst (λ (s : Sizes). room g.row.SIZE ≤ size_of d s) (sym same) c.requires.room in
    let fits = subst (λ (s : Sizes). room g.row.SIZE ≤ size_of d s) (sym c.write_frame.ensures.ran.1.sizes) fits_c in
    let has = body_framed d g.row.SIZE c.args.header.now c.args.body.now c.requires.header c.requires.body _ _ fits_c (g.met.M.Machine.sized c.fill_both.new.m) c.write_frame.ensures.ran c.in-Ok-fill_both.ensures.body in
    twins_laid d g.row.SIZE c.args.header.now c.args.body.now c.requires.header c.requires.body _ _ fits (g.met.M.Machine.sized c.write_frame.new.m) c.publish_both.ensures.ran has c.in-Ok-publish_both.ensures.opened

pub returns-in-Ok-publish_both-clause-frame : goal.returns-in-Ok-publish_both-clause-frame
returns-in-Ok-publish_both-clause-frame g c =
    let d = c.args.dev in
    let same = c.fill_both.ensures.ran.1.sizes ∙ c.shut_both.ensures.ran.1.sizes in
    let fits_c = subst (λ (s : Sizes). room g.row.SIZE ≤ size_of d s) (sym same) c.requires.room in
    let fits = subst (λ (s : Sizes). room g.row.SIZE ≤ size_of d s) (sym c.write_frame.ensures.ran.1.sizes) fits_c in
    frame_laid d g.row.SIZE c.args.header.now c.args.body.now c.requires.header c.requires.body _ _ fits (g.met.M.Machine.sized c.write_frame.new.m) c.publish_both.ensures.ran c.in-Ok-write_frame.ensures.stands

pub returns-in-Ok-publish_both-clause-ran : goal.returns-in-Ok-publish_both-clause-ran
returns-in-Ok-publish_both-clause-ran g c =
    let d = c.args.dev in
    let sized = g.met.M.Machine.sized in
    let fits_c = subst (λ (s : Sizes). room g.row.SIZE ≤ size_of d s) (sym (c.fill_both.ensures.ran.1.sizes ∙ c.shut_both.ensures.ran.1.sizes)) c.requires.room in
    let has = body_framed d g.row.SIZE c.args.header.now c.args.body.now c.requires.header c.requires.body _ _ fits_c (sized c.fill_both.new.m) c.write_frame.ensures.ran c.in-Ok-fill_both.ensures.body in
    laid d g.row.SIZE c.args.header.now c.args.body.now c.requires.header c.requires.body _ _ _ _ _ c.requires.room (sized c.shut_both.new.m) (sized c.fill_both.new.m) (sized c.write_frame.new.m) c.in-Ok.ensures.clean c.in-Ok.ensures.shut c.in-Ok-fill_both.ensures.shut c.in-Ok-write_frame.ensures.stands has c.shut_both.ensures.ran c.fill_both.ensures.ran c.write_frame.ensures.ran c.publish_both.ensures.ran

pub returns-in-Err-clause-ran : goal.returns-in-Err-clause-ran
returns-in-Err-clause-ran g c =
    let d = c.args.dev in
    let sized = g.met.M.Machine.sized in
    let fits_c = subst (λ (s : Sizes). room g.row.SIZE ≤ size_of d s) (sym (c.fill_both.ensures.ran.1.sizes ∙ c.shut_both.ensures.ran.1.sizes)) c.requires.room in
    let has = body_framed d g.row.SIZE c.args.header.now c.args.body.now c.requires.header c.requires.body _ _ fits_c (sized c.fill_both.new.m) c.write_frame.ensures.ran c.in-Ok-fill_both.ensures.body in
    laid d g.row.SIZE c.args.header.now c.args.body.now c.requires.header c.requires.body _ _ _ _ _ c.requires.room (sized c.shut_both.new.m) (sized c.fill_both.new.m) (sized c.write_frame.new.m) c.in-Ok.ensures.clean c.in-Ok.ensures.shut c.in-Ok-fill_both.ensures.shut c.in-Ok-write_frame.ensures.stands has c.shut_both.ensures.ran c.fill_both.ensures.ran c.write_frame.ensures.ran c.publish_both.ensures.ran

pub returns-in-Ok-publish_both-clause-exact : goal.returns-in-Ok-publish_both-clause-exact
returns-in-Ok-publish_both-clause-exact g c = λ fs told.
    does-append _ _ _ _ _ (does-append _ _ _ _ _ (does-append _ _ _ _ _ (c.in-Ok.ensures.exact fs told) c.in-Ok-fill_both.ensures.exact) c.in-Ok-write_frame.ensures.exact) c.in-Ok-publish_both.ensures.exact

pub returns-in_default-clause-cut : goal.returns-in_default-clause-cut
returns-in_default-clause-cut g c = λ fs told.
    let d = c.args.dev in
    let size = g.row.SIZE in
    let body = c.args.body.now in
    let cut = c.in_default.ensures.cut fs told (Put d (body_offset size 0) body) (Sync d ∷ fill_ops size d 1 body) in
    fronts_first _ (publish_ops size d 0 ++ publish_ops size d 1) _ _ (fronts_first _ (frame_ops size d c.args.header.now) _ _ cut)

pub returns-in_default-fill_both-clause-cut : goal.returns-in_default-fill_both-clause-cut
returns-in_default-fill_both-clause-cut g c = λ fs told.
    let d = c.args.dev in
    let size = g.row.SIZE in
    let cut = fronts_later _ _ _ _ _ (c.in-Ok.ensures.exact fs told) c.in_default-fill_both.ensures.cut in
    fronts_first _ (publish_ops size d 0 ++ publish_ops size d 1) _ _ (fronts_first _ (frame_ops size d c.args.header.now) _ _ cut)

pub returns-in_default-write_frame-clause-cut : goal.returns-in_default-write_frame-clause-cut
returns-in_default-write_frame-clause-cut g c = λ fs told.
    let d = c.args.dev in
    let size = g.row.SIZE in
    let cut = fronts_later _ _ _ _ _ (does-append _ _ _ _ _ (c.in-Ok.ensures.exact fs told) c.in-Ok-fill_both.ensures.exact) c.in_default-write_frame.ensures.cut in
    fronts_first _ (publish_ops size d 0 ++ publish_ops size d 1) _ _ cut

pub returns-in-Err-clause-cut : goal.returns-in-Err-clause-cut
returns-in-Err-clause-cut g c = λ fs told.
    fronts_later _ _ _ _ _ (does-append _ _ _ _ _ (does-append _ _ _ _ _ (c.in-Ok.ensures.exact fs told) c.in-Ok-fill_both.ensures.exact) c.in-Ok-write_frame.ensures.exact) c.in-Err.ensures.cut

use Rattle.twin_image.proofs.Mending.{nothing_mends, mends_more, mend_torn, mend_turned, mend_unread}
use Rattle.twin_image.proofs.mend.mend.Goals as goal

pub returns-in-Ok-Some-clause-ran : goal.returns-in-Ok-Some-clause-ran
returns-in-Ok-Some-clause-ran g c =
    let slot = c.args.slot in
    let r = c.requires in
    mends_more slot.dev g.row.SIZE slot.index r.index c.args.body.now _ _ (nothing_mends slot.dev g.row.SIZE slot.index r.index c.args.body.now _ _ r.room (g.met.M.Machine.sized c.args.m.now) r.clean c.adopt.ensures.done)

pub returns-in-Err-clause-ran : goal.returns-in-Err-clause-ran
returns-in-Err-clause-ran g c =
    let slot = c.args.slot in
    let r = c.requires in
    mends_more slot.dev g.row.SIZE slot.index r.index c.args.body.now _ _ (nothing_mends slot.dev g.row.SIZE slot.index r.index c.args.body.now _ _ r.room (g.met.M.Machine.sized c.args.m.now) r.clean c.adopt.ensures.done)

pub returns-in-Ok-clause-exact : goal.returns-in-Ok-clause-exact
returns-in-Ok-clause-exact g c =
    let other = rw c.in-Ok-None.field-0-is at c.in-Ok-None.ensures.other in
    mend_turned c.args.slot.dev g.row.SIZE c.args.slot.index c.args.body.now _ _ _ other c.adopt.ensures.done c.in-Ok.ensures.exact

pub returns-in-Err-clause-cut : goal.returns-in-Err-clause-cut
returns-in-Err-clause-cut g c = mend_unread c.args.slot.dev g.row.SIZE c.args.slot.index c.args.body.now _ _ c.adopt.ensures.done

pub returns-in-Err-turn-clause-cut : goal.returns-in-Err-turn-clause-cut
returns-in-Err-turn-clause-cut g c =
    let other = rw c.in-Ok-None.field-0-is at c.in-Ok-None.ensures.other in
    mend_torn c.args.slot.dev g.row.SIZE c.args.slot.index c.args.body.now _ _ _ other c.adopt.ensures.done c.in-Err-turn.ensures.cut

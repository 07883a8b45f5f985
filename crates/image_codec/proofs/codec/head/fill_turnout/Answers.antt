use Rattle.std.proofs.Common.{◌∙◌, sym, length, arith}
use Rattle.image_codec.specs.DecodedHead.{turnout_of}
use Rattle.image_codec.proofs.Fills.{AreMarked, marked_none, marked_length, marked_free, marked_more, unmarked_more, marked_all}
use Rattle.image_codec.proofs.codec.head.fill_turnout.Goals as goal
use Rattle.image_codec.proofs.codec.head.fill_turnout.Goals.{then-is_marked, else-is_marked}

pub loop-place-init : goal.loop-place-init
loop-place-init c = c.requires.nobody ∙ marked_none (length c.args.turnout.now) (turnout_of c.args.bytes.now)

pub mark-requires-clause-known : goal.mark-requires-clause-known
mark-requires-clause-known c =
    let voters = length c.args.turnout.now in
    let long = marked_length c.loop-place.turnout voters c.loop-place.place (turnout_of c.args.bytes.now) (omega arith) c.loop-place.invariant in
    omega arith

pub mark-requires-clause-absent : goal.mark-requires-clause-absent
mark-requires-clause-absent c =
    marked_free c.loop-place.turnout (length c.args.turnout.now) c.loop-place.place (turnout_of c.args.bytes.now) (omega arith) c.loop-place.invariant

pub loop-place-preserved : goal.loop-place-preserved
loop-place-preserved c =
    let voters = length c.args.turnout.now in
    let place = c.loop-place.place in
    let before : AreMarked c.loop-place.turnout voters place (turnout_of c.args.bytes.now) = c.loop-place.invariant in
    elim c.if-is_marked.branch [
      | then-is_marked w ↦
          marked_more c.loop-place.turnout c.if-is_marked.turnout voters place (turnout_of c.args.bytes.now) (omega arith) before (sym c.is_marked.ensures ∙ w.if-is_marked.true) (w.turnout-is ∙ w.mark.ensures)
      | else-is_marked w ↦ w.turnout-is ∙ unmarked_more c.loop-place.turnout voters place (turnout_of c.args.bytes.now) (omega arith) before (sym c.is_marked.ensures ∙ w.if-is_marked.false)
    ]

pub returns : goal.returns
returns c = marked_all c.loop-place.turnout (length c.args.turnout.now) c.loop-place.place (turnout_of c.args.bytes.now) (omega arith) c.loop-place.invariant

use Rattle.std.proofs.Common.{arith}
use Rattle.std.proofs.lemmas.List.{take_rest}
use Rattle.hash_chain.proofs.CutText.{has_space, part_there, whole_part}
use Rattle.hash_chain.proofs.cut.split_part.Goals as goal
use Rattle.hash_chain.specs.Cut.{cut}

pub returns-then-text-le-PART_SIZE-clause-cut : goal.returns-then-text-le-PART_SIZE-clause-cut
unfolding cut
returns-then-text-le-PART_SIZE-clause-cut c = whole_part c.args.text.now c.if-text-le-PART_SIZE.true

pub last_space-end-requires-clause-some : goal.last_space-end-requires-clause-some
last_space-end-requires-clause-some c =
    let long = c.if-text-le-PART_SIZE.false in
    has_space c.args.text.now c.requires (omega arith)

pub returns-clause-cut : goal.returns-clause-cut
returns-clause-cut c =
    let long = c.if-text-le-PART_SIZE.false in
    let last = c.last_space-end.ensures in
    rw take_rest (part_there c.args.text.now c.last_space-end.result c.requires (omega arith) (last.within, last.space, last.last)).0

pub returns-clause-fields : goal.returns-clause-fields
returns-clause-fields c =
    let long = c.if-text-le-PART_SIZE.false in
    let last = c.last_space-end.ensures in
    rw take_rest (part_there c.args.text.now c.last_space-end.result c.requires (omega arith) (last.within, last.space, last.last)).1

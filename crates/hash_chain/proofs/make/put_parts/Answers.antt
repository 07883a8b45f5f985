use Rattle.std.proofs.Common.{arith}
use Rattle.std.specs.Prelude.{string_bytes}
use Rattle.hash_chain.proofs.PutLaws.{none_left}
use Rattle.hash_chain.proofs.Sizes.{few_parts_in}
use Rattle.hash_chain.proofs.make.put_parts.Goals as goal

pub overflow_add-number : goal.overflow_add-number
overflow_add-number c =
    let few = few_parts_in c.args.fields.now c.requires.fields in
    let count = c.requires.count in
    let left = c.loop-rest.invariant.1 in
    omega arith

pub returns : goal.returns
returns c = none_left c.loop-rest.out.items c.args.parts c.loop-rest.number (string_bytes c.loop-rest.hash) c.loop-rest.rest _ c.in_default.is c.loop-rest.invariant.0

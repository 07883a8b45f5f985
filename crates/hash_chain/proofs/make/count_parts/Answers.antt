use Rattle.std.proofs.Common.{arith}
use Rattle.hash_chain.proofs.Sizes.{few_parts_in}
use Rattle.hash_chain.proofs.make.count_parts.Goals as goal

pub overflow_add-count : goal.overflow_add-count
overflow_add-count c =
    let few = few_parts_in c.args.fields.now c.requires in
    let left = c.loop-rest.invariant.0 in
    omega arith

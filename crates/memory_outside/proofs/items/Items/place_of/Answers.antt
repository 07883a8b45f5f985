use Rattle.std.proofs.Common.{ap, arith, length}
use Rattle.memory_outside.proofs.ItemLemmas.{lacks_unnamed}
use Rattle.memory_outside.proofs.items.Items.place_of.Goals as goal

pub returns-clause-none : goal.returns-clause-none
returns-clause-none c =
    let items = c.args.self.now.items.items in
    lacks_unnamed c.args.self.now.row.items c.args.name.now items (λ k d below. c.loop-at.invariant k d (omega (arith, c.loop-at-test.false, below, ap length c.deref-item-items.ensures.value)))

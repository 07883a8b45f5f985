use Rattle.std.proofs.Common.{rules}
use Rattle.memory_outside.proofs.ItemLemmas.{replaced_there, replaced_others}
use Rattle.memory_outside.specs.declared.item.Item.TheVariants.{Placed}
use Rattle.memory_outside.proofs.items.Items.place.Goals as goal

pub returns-in-Some-clause-there : goal.returns-in-Some-clause-there
returns-in-Some-clause-there c =
    let self = c.args.self.now in
    replaced_there self.row.items c.args.name.now c.args.bytes.now self.items.items c.in-Some.at (Placed c.in_ok-name.name c.in_ok-bytes.bytes) c.in-Some.ensures.found (search rules) (search rules)

pub returns-in-Some-clause-others : goal.returns-in-Some-clause-others
returns-in-Some-clause-others c =
    let self = c.args.self.now in
    replaced_others self.row.items c.args.name.now self.items.items c.in-Some.at (Placed c.in_ok-name.name c.in_ok-bytes.bytes) c.in-Some.ensures.found (search rules)

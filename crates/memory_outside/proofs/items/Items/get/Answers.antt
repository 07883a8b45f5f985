use Rattle.std.proofs.Common.{Some, sym, ap, ◌∙◌}
use Rattle.memory_outside.specs.Item.{entry_of}
use Rattle.memory_outside.proofs.ItemLemmas.{holds_first}
use Rattle.memory_outside.proofs.items.Items.get.Goals as goal

pub returns-in-Some : goal.returns-in-Some
returns-in-Some c =
    let bytes = c.bytes.ensures ∙ ap (λ row. (entry_of row c.index.result.now).bytes) c.deref.ensures.value in
    holds_first c.args.self.now.row.items c.args.name.now c.args.self.now.items.items c.in-Some.at c.index.result.now c.in-Some.ensures.found c.index.ensures
    ∙ ap (λ b. Some b) (sym bytes)

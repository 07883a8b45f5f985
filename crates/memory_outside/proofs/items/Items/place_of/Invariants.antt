use Rattle.std.proofs.Common.{◌≡◌, ℕ, ◌<◌, false, get_or}
use Rattle.memory_outside.specs.Item.{is_named}
use Rattle.memory_outside.specs.declared.item.Item.{Item}
use Rattle.memory_outside.proofs.items.Items.place_of.Given as goal

abbrev pub invariant-loop-at : goal.invariant-loop-at
invariant-loop-at l = (k : ℕ) (d : Item) → k < l.at → is_named l.self.row.items l.name (get_or l.self.items.items k d) ≡ false

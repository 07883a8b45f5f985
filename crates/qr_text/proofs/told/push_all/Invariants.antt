use Rattle.std.proofs.Common.{◌≡◌, ◌++◌, take}
use Rattle.qr_text.proofs.told.push_all.Given as goal

abbrev pub invariant-loop-count : goal.invariant-loop-count
invariant-loop-count l = l.counts ≡ l.fn.counts ++ take l.count-index l.count-items

use Rattle.std.proofs.Common.{◌≡◌, ◌<◌, ℕ, false, get_or, length}
use Rattle.gate_slot.specs.Page.{is_changed}
use Rattle.gate_slot.proofs.changes.Changes.of.Given as goal

-- the pages before this one are marked
abbrev pub invariant-loop-page : goal.invariant-loop-page
invariant-loop-page l = record {
  whole : length l.marks ≡ 512;
  found : (k : ℕ) → k < l.page → get_or l.marks k false ≡ is_changed l.old l.new k;
}

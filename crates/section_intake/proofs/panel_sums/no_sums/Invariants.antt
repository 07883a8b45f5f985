use Rattle.std.proofs.Common.{◌≡◌, ◌<◌, ℕ, [], Some, length, slice_get, vec_capacity}
use Rattle.section_intake.specs.Kept.{sums_at}
use Rattle.section_intake.proofs.panel_sums.no_sums.Given as goal

abbrev pub invariant-loop-panel : goal.invariant-loop-panel
invariant-loop-panel l = record {
  count : length l.sums.items ≡ l.panel;
  sums : (k : ℕ) → k < l.panel → slice_get l.sums.items k ≡ Some (sums_at l.tables [] k);
  room : vec_capacity l.sums ≡ l.panels;
}

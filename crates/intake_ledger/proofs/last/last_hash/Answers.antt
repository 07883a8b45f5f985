use Rattle.std.proofs.Common.{rules, ◌≡◌, ℕ, ◌+◌, ◌-◌, ◌≤◌, length, take, drop, ap, ◌∙◌, arith}
use Rattle.intake_ledger.proofs.LastLine.{before_end}
use Rattle.intake_ledger.proofs.LastHash.{ends_so}
use Rattle.intake_ledger.proofs.last.last_hash.Goals as goal

pub overflow_sub-at : goal.overflow_sub-at
overflow_sub-at c = (before_end c.args.file.now _ (ends_so c.args.file.now c.requires.0 c.requires.1)).0

pub slice_bounds-result-end : goal.slice_bounds-result-end
slice_bounds-result-end c =
    let long = (before_end c.args.file.now _ (ends_so c.args.file.now c.requires.0 c.requires.1)).0 in
    let within : length c.args.file.now - 129 + 128 ≤ length c.args.file.now = omega (arith, long) in
    search rules

pub returns : goal.returns
returns c =
    λ text parts.
    let end = before_end c.args.file.now _ (ends_so c.args.file.now text parts) in
    let many : length c.args.file.now - 129 + 128 - (length c.args.file.now - 129) ≡ 128 = omega arith in
    ap (λ (k : ℕ). take k (drop (length c.args.file.now - 129) c.args.file.now)) many ∙ end.1

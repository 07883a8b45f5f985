use Rattle.std.proofs.Common.{◌≡◌, ◌==◌, ◌&&◌, ℕ, Bool, bit_or, get_or, sym, ap, ◌∙◌, arith}
use Rattle.std.proofs.lemmas.Bool.Decides.{nat_tests}
use Rattle.std.proofs.lemmas.List.Folds.{list_all_more}
use Rattle.std.proofs.lemmas.Nat.{le_or_l, le_or_r, or_lt}
use Rattle.urna_base.proofs.buffer.is_zero.Goals as goal

-- two numbers have no bit exactly where both are zero
both_zero : (m n : ℕ) → (bit_or m n == 0) ≡ (m == 0 && n == 0)
both_zero m n = grind (arith, nat_tests, le_or_l m n, le_or_r m n, or_lt 0 m n)

pub loop-byte-preserved : goal.loop-byte-preserved
loop-byte-preserved c =
    let i : ℕ = c.loop-byte.byte-index in
    let byte : ℕ = get_or c.args.bytes.now i 0 in
    both_zero c.loop-byte.seen byte ∙ ap (λ (b : Bool). b && byte == 0) c.loop-byte.invariant
    ∙ sym (list_all_more (λ b. b == 0) c.args.bytes.now i 0 (omega arith))

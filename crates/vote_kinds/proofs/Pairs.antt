-- The first two digits of a number are below 100.
use Rattle.std.proofs.Common.{◌≡◌, ℕ, ◌-◌, ◌*◌, ◌<◌, ◌≤◌, ◌^◌, suc, subst, arith}
use Rattle.std.proofs.Math.Nat.{one-le-pow}
use Rattle.std.proofs.lemmas.Nat.{div_below}
use Rattle.election_tables.specs.Fields.{first_two}

split : (k value : ℕ) → value < 10 ^ suc (suc k) → value < 100 * 10 ^ k
split k value below = omega (arith, below)

pub pair_small : (count value : ℕ) → 2 ≤ count → value < 10 ^ count → first_two count value < 100
pair_small count value some below =
    let whole : count ≡ suc (suc (count - 2)) = omega (arith, some) in
    div_below value (10 ^ (count - 2)) 100 (omega (arith, one-le-pow (count - 2) 10 (omega arith)))
    (split (count - 2) value (subst (λ (c : ℕ). value < 10 ^ c) whole below))

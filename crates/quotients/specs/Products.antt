-- Fractions in order, by products, for specs/OrderLaws.antt and the laws
use Rattle.std.proofs.Common.{ℕ, ◌*◌, ◌<◌, ◌≤◌, arith}
use Rattle.std.proofs.Math.Nat.{mul-le-mul_right, le_of_mul-le-mul_right, mul-lt-mul_of_pos_right, lt_of_mul-lt-mul_right}

-- vb/db ≤ va/da and vc/dc ≤ vb/db
pub products_le : (va da vb db vc dc : ℕ) → 1 ≤ db → vb * da ≤ va * db → vc * db ≤ vb * dc → vc * da ≤ va * dc
products_le va da vb db vc dc pos h g =
    let one = mul-le-mul_right da g in
    let two = mul-le-mul_right dc h in
    let both : vc * da * db ≤ va * dc * db = omega arith in
    le_of_mul-le-mul_right both pos

pub products_lt_left : (va da vb db vc dc : ℕ) → 1 ≤ dc → vb * da < va * db → vc * db ≤ vb * dc → vc * da < va * dc
products_lt_left va da vb db vc dc pos h g =
    let one = mul-le-mul_right da g in
    let two = mul-lt-mul_of_pos_right {k = dc} h pos in
    let both : vc * da * db < va * dc * db = omega arith in
    lt_of_mul-lt-mul_right db both

pub products_lt_right : (va da vb db vc dc : ℕ) → 1 ≤ da → vb * da ≤ va * db → vc * db < vb * dc → vc * da < va * dc
products_lt_right va da vb db vc dc pos h g =
    let one = mul-lt-mul_of_pos_right {k = da} g pos in
    let two = mul-le-mul_right dc h in
    let both : vc * da * db < va * dc * db = omega arith in
    lt_of_mul-lt-mul_right db both

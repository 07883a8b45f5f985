-- The electoral quotient is the nearest whole number.
use Rattle.std.proofs.Common.{◌≡◌, ℕ, ◌+◌, ◌*◌, ◌/◌, ◌%◌, ◌<◌, ◌≤◌, ◌⊎◌, inl, inr, ap, arith}
use Rattle.std.proofs.lemmas.Bool.{cases_lt}
use Rattle.std.proofs.lemmas.Bool.Decides.{nat_tests}
use Rattle.std.proofs.lemmas.Nat.{mod_below}
use Rattle.std.proofs.Math.Nat.{div-add-mod, mul-le-mul_left}
use Rattle.quotients.specs.Quotients.{electoral_quotient}
use Rattle.quotients.specs.Laws.{IsNearest}

-- the fraction is dropped, or counts as one
rounds : (valid seats : ℕ) → 1 ≤ seats
    → ((2 * (valid % seats) ≤ seats) × (electoral_quotient valid seats ≡ valid / seats)) ⊎ ((seats < 2 * (valid % seats)) × (electoral_quotient valid seats ≡ valid / seats + 1))
rounds valid seats some = grind (arith, nat_tests)

pub is_nearest : (valid seats : ℕ) → 1 ≤ seats → IsNearest valid seats (electoral_quotient valid seats)
is_nearest valid seats some =
    let parts = div-add-mod valid seats in
    let below = mod_below valid seats some in
    elim (rounds valid seats some) [
      | inl w ↦ let e = ap (λ q. seats * q) w.1 in (omega (arith, parts, below, e, w.0), omega (arith, parts, below, e, w.0))
      | inr w ↦ let e = ap (λ q. seats * q) w.1 in (omega (arith, parts, below, e, w.0), omega (arith, parts, below, e, w.0))
    ]

-- of two nearest numbers neither is greater
not_greater : (valid seats p q : ℕ) → IsNearest valid seats p → IsNearest valid seats q → q ≤ p
not_greater valid seats p q np nq = elim (cases_lt p q) [
  | inl lt ↦ let more : p + 1 ≤ q = omega arith in let products = mul-le-mul_left seats more in absurd (omega (arith, products, np.1, nq.0))
  | inr le ↦ le
]

pub only_nearest : (valid seats q : ℕ) → 1 ≤ seats → IsNearest valid seats q → q ≡ electoral_quotient valid seats
only_nearest valid seats q some n =
    let is = is_nearest valid seats some in
    let a = not_greater valid seats q (electoral_quotient valid seats) n is in
    let b = not_greater valid seats (electoral_quotient valid seats) q is n in
    omega arith

-- where the quotient is more than half the seats, one seat more than there are would need more than all votes
pub covers : (valid seats : ℕ) → 1 ≤ seats → seats < 2 * electoral_quotient valid seats → valid < (seats + 1) * electoral_quotient valid seats
covers valid seats some h = let n = is_nearest valid seats some in omega (arith, n.1, h)

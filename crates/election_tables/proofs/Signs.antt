-- Signed numbers that are natural.
use Rattle.std.proofs.Common.{◌≡◌, ◌<◌, ◌≤ℤ◌, ◌<ℤ◌, ℕ, ℤ, pos, negsuc, true, false, ◌==◌, nat_le, refl, arith}
use Rattle.std.proofs.lemmas.Int.{ints}
use Rattle.std.proofs.lemmas.Bool.{and_parts, leb-true, false≢true}
use Rattle.std.proofs.lemmas.Bool.Decides.{nat_tests}
use Rattle.std.specs.Option.{option_map_or}
use Rattle.std.specs.Ordering.{int_eq}
use Rattle.election_tables.specs.Fields.{natural, is_within}

pub int_eq_natural : (z : ℤ) (n : ℕ) → int_eq z (pos n) ≡ option_map_or (λ m. m == n) (natural z) false
int_eq_natural (pos m) n = grind (arith, nat_tests)
int_eq_natural (negsuc m) n = refl

-- a number in a range isn't negative, and lies below what is above the range
pub within_low : (low high : ℕ) (z : ℤ) → is_within low high z ≡ true → pos 0 ≤ℤ z
within_low low high (pos n) h = omega (arith, ints)
within_low low high (negsuc n) h = absurd (false≢true h)

pub within_high : (low high top : ℕ) (z : ℤ) → is_within low high z ≡ true → high < top → z <ℤ pos top
within_high low high top (pos n) h above =
    let (least, most) = and_parts (nat_le low n) (nat_le n high) h in
    let below : n < top = omega (arith, leb-true n high most) in
    omega (arith, ints)
within_high low high top (negsuc n) h above = absurd (false≢true h)

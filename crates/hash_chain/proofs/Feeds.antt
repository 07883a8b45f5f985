-- The first line feed, as a search of bytes finds it
use Rattle.std.proofs.Common.{◌≡◌, ◌<◌, ℕ, List, length, Bool, true, false, cond, Option, Some, None, nat_lt, refl, arith}
use Rattle.std.specs.List.{position}
use Rattle.std.proofs.lemmas.Bool.Decides.{nat_tests}
use Rattle.std.proofs.lemmas.List.Sums.{position_or_len_is}
use Rattle.memchr.specs.Find.{IsFirstByte}

other : (b : Bool) → (b ≡ true → ⊥) → b ≡ false
other true never = absurd (never refl)
other false passes = refl

at_none : (n k : ℕ) → k ≡ n → None ≡ cond (nat_lt k n) (Some k) None
at_none n k same = let past : nat_lt k n ≡ false = grind (arith, nat_tests) in rw past refl

at_some : (n k i : ℕ) → i ≡ k → k < n → Some k ≡ cond (nat_lt i n) (Some i) None
at_some n k i same below = let within : nat_lt i n ≡ true = grind (arith, nat_tests) in rw (within, same) refl

-- it is the first place that passes
pub first_is : (test : ℕ → Bool) (xs : List ℕ) (r : Option ℕ) → IsFirstByte test xs r → r ≡ position test xs
first_is test xs None none =
    at_none (length xs) _ (position_or_len_is test xs (length xs) 0 (omega arith) (λ k below. other _ (none k (omega arith) below)) (λ below. absurd (omega (arith, below))))
first_is test xs (Some k) found =
    let high = found.0.high in
    at_some (length xs) k _ (position_or_len_is test xs k 0 (omega (arith, high)) (λ i below. other _ (found.0.before i (omega arith) below)) (λ within. found.1)) high

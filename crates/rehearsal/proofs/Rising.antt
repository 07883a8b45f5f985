-- Numbers that rise, by a test that computes.
use Rattle.std.proofs.Common.{◌≡◌, ℕ, zero, suc, ◌+◌, ◌<◌, ◌≤◌, Bool, true, ◌&&◌, List, [], ◌∷◌, nat_le, nat_cmp, Less, refl, arith}
use Rattle.std.specs.List.{range_with_len, AllByRecursion}
use Rattle.std.specs.List.Sorted.{IsStrictlyIncreasing, IsStrictlySortedBy}
use Rattle.std.proofs.lemmas.Bool.{and_parts, leb-true, le-leb}
use Rattle.std.proofs.lemmas.Bool.Decides.{nat_tests}
use Rattle.std.proofs.lemmas.Map.Keys.{IsStrictlyIncreasing-from_sorted}
use Rattle.rehearsal.specs.Numbers.{parties, councillors, mayors}

-- each is at least this, and above those before it
abbrev pub rises_from : ℕ → List ℕ → Bool
rises_from low [] = true
rises_from low (x ∷ xs) = nat_le low x && rises_from (x + 1) xs

pub rises_from-range : (low a n : ℕ) → low ≤ a → rises_from low (range_with_len a n) ≡ true
rises_from-range low a zero h = refl
rises_from-range low a (suc n) h = rw (le-leb low a h) (rises_from-range (a + 1) (a + 1) n (omega arith))

above : (low x : ℕ) (xs : List ℕ) → x < low → rises_from low xs ≡ true → AllByRecursion (λ y. nat_cmp x y ≡ Less) xs
above low x [] h e = tt
above low x (y ∷ ys) h e =
    let (here, more) = and_parts (nat_le low y) (rises_from (y + 1) ys) e in
    let le : low ≤ y = leb-true low y here in
    (grind (arith, nat_tests), above (y + 1) x ys (omega arith) more)

sorted : (low : ℕ) (xs : List ℕ) → rises_from low xs ≡ true → IsStrictlySortedBy nat_cmp xs
unfolding IsStrictlySortedBy
sorted low [] e = tt
sorted low (x ∷ xs) e =
    let (here, more) = and_parts (nat_le low x) (rises_from (x + 1) xs) e in
    (above (x + 1) x xs (omega arith) more, sorted (x + 1) xs more)

pub increasing : (low : ℕ) (xs : List ℕ) → rises_from low xs ≡ true → IsStrictlyIncreasing xs
increasing low xs e = IsStrictlyIncreasing-from_sorted xs (sorted low xs e)

-- ---- the generated numbers

pub parties_rise : rises_from 0 parties ≡ true
unfolding parties
parties_rise = refl

pub councillors_rise : rises_from 0 councillors ≡ true
unfolding councillors parties
councillors_rise = refl

pub mayors_rise : rises_from 0 mayors ≡ true
unfolding mayors
mayors_rise = refl

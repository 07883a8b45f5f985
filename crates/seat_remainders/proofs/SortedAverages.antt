-- A sorted vector of averages never descends.
use Rattle.std.proofs.Common.{◌≡◌, ℕ, suc, ◌+◌, ◌<◌, false, List, [], ◌∷◌, length, map, get_or, ◌∙◌, sym, subst, arith}
use Rattle.std.specs.List.{AllByRecursion}
use Rattle.std.specs.List.Sorted.{IsSorted}
use Rattle.quotients.specs.Average.{comes_before}
use Rattle.quotients.specs.Order.{parts_of, average_cmp}
use Rattle.quotients.specs.declared.average.Average.{Average}
use Rattle.quotients.proofs.Averages.{is_order_of_law, not_before_all}
use Rattle.seat_remainders.specs.Sorted.{NeverDescend}

-- what doesn't come before an average doesn't come before one in front of it
none_behind : (x y : Average) (zs : List Average) → comes_before (parts_of y) (parts_of x) ≡ false → AllByRecursion (λ b. comes_before b (parts_of y) ≡ false) (map parts_of zs)
    → AllByRecursion (λ b. comes_before b (parts_of x) ≡ false) (map parts_of zs)
none_behind x y [] f all = tt
none_behind x y (z ∷ zs) f all = (not_before_all (parts_of x) (parts_of y) (parts_of z) x.some y.some z.some f all.0, none_behind x y zs f all.1)

from_neighbours : (xs : List Average) → ((k : ℕ) (d : Average) → suc k < length xs → comes_before (parts_of (get_or xs (suc k) d)) (parts_of (get_or xs k d)) ≡ false) → NeverDescend (map parts_of xs)
from_neighbours [] h = tt
from_neighbours (x ∷ []) h = (tt, tt)
from_neighbours (x ∷ y ∷ xs) h =
    let others = from_neighbours (y ∷ xs) (λ k d lt. h (suc k) d (omega arith)) in
    let first = h 0 x (omega arith) in
    ((first, none_behind x y xs first others.0), others)

pub never_descend : (xs : List Average) → IsSorted average_cmp xs → NeverDescend (map parts_of xs)
never_descend xs sorted =
    from_neighbours xs (λ k d lt.
    let next : k + 1 ≡ suc k = omega arith in
    subst (λ (n : ℕ). comes_before (parts_of (get_or xs n d)) (parts_of (get_or xs k d)) ≡ false) next
    (sym (is_order_of_law (get_or xs (k + 1) d) (get_or xs k d)) ∙ sorted k d (omega arith) (omega arith)))

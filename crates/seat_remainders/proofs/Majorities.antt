-- When nobody is elected, and when there is a second round
use Rattle.std.proofs.Common.{◌≡◌, ℕ, ◌*◌, ◌≤◌, Bool, true, false, leb, ◌&&◌, ◌==◌, List, [], ◌∷◌, inl, inr, refl, sym, arith}
use Rattle.std.specs.List.{AllByRecursion}
use Rattle.std.proofs.lemmas.Bool.{cases_Bool}
use Rattle.std.proofs.lemmas.Bool.Decides.{nat_tests}
use Rattle.std.proofs.lemmas.List.Sorted.{IsPermutation-sym}
use Rattle.std.proofs.lemmas.List.Sums.{sum_by-cons}
use Rattle.seat_remainders.specs.declared.contest.Entry.{Entry}
use Rattle.seat_remainders.specs.declared.outcome.MajorityOutcome.TheVariants.{Elected, Runoff, Nobody}
use Rattle.seat_remainders.specs.Candidates.{stands_first, in_order, AreInOrder}
use Rattle.seat_remainders.specs.Parties.{nominal_votes}
use Rattle.seat_remainders.specs.Majority.{decided, majority_outcome}
use Rattle.seat_remainders.proofs.Ordered.{are_in_order, all_moved, in_order-permutation, in_order-sum, first_votes}

sum_in_order : (xs : List Entry) → nominal_votes (in_order xs) ≡ nominal_votes xs
sum_in_order xs = in_order-sum (λ c. c.votes) xs

not_nobody_at : (total : ℕ) (absolute b : Bool) (a : Entry) (others : List Entry) → absolute && leb (2 * a.votes) total ≡ b → decided total absolute (a ∷ others) ≡ Nobody → ⊥
not_nobody_at total absolute true a [] is h = let e : Elected a.number ≡ Nobody = rw is at h in cc
not_nobody_at total absolute true a (c ∷ others) is h = let e : Runoff a.number c.number ≡ Nobody = rw is at h in cc
not_nobody_at total absolute false a others is h = let e : Elected a.number ≡ Nobody = rw is at h in cc

no_votes : (total : ℕ) (absolute : Bool) (ordered : List Entry) → nominal_votes ordered ≡ total → decided total absolute ordered ≡ Nobody → total ≡ 0
no_votes total absolute [] sum h = sym sum
no_votes total absolute (a ∷ others) sum h = absurd (not_nobody_at total absolute (absolute && leb (2 * a.votes) total) a others refl h)

pub nobody_only : (entries : List Entry) (absolute : Bool) → majority_outcome entries absolute ≡ Nobody → nominal_votes entries ≡ 0
nobody_only entries absolute h = elim (cases_Bool (nominal_votes entries == 0)) [
  | inl t ↦ grind (arith, nat_tests)
  | inr f ↦ no_votes (nominal_votes entries) absolute (in_order entries) (sum_in_order entries) (rw f at h)
]

pub nobody_then : (entries : List Entry) (absolute : Bool) → nominal_votes entries ≡ 0 → majority_outcome entries absolute ≡ Nobody
nobody_then entries absolute none = let t : (nominal_votes entries == 0) ≡ true = grind (arith, nat_tests) in rw t refl

-- the others have no more votes than the first
fewer : (a : Entry) (total : ℕ) (xs : List Entry) → AllByRecursion (λ d. stands_first a d ≡ true) xs → 2 * a.votes ≤ total → AllByRecursion (λ c. 2 * c.votes ≤ total) xs
fewer a total [] all h = tt
fewer a total (x ∷ xs) all h = (let m = first_votes a x all.0 in omega arith, fewer a total xs all.1 h)

runoff_at : (total x y : ℕ) (b : Bool) (a : Entry) (others : List Entry) → leb (2 * a.votes) total ≡ b → AreInOrder (a ∷ others) → decided total true (a ∷ others) ≡ Runoff x y → AllByRecursion (λ c. 2 * c.votes ≤ total) (a ∷ others)
runoff_at total x y true a others is order h = let le : 2 * a.votes ≤ total = grind (arith, nat_tests) in (le, fewer a total others order.0 le)
runoff_at total x y false a others is order h = let e : Elected a.number ≡ Runoff x y = rw is at h in absurd (cc)

runoff_of : (total x y : ℕ) (ordered : List Entry) → AreInOrder ordered → decided total true ordered ≡ Runoff x y → AllByRecursion (λ c. 2 * c.votes ≤ total) ordered
runoff_of total x y [] order h = tt
runoff_of total x y (a ∷ others) order h = runoff_at total x y (leb (2 * a.votes) total) a others refl order h

-- a second round only where there are votes and nobody has more than half of them
pub runoff_only : (entries : List Entry) (x y : ℕ) → majority_outcome entries true ≡ Runoff x y → (1 ≤ nominal_votes entries) × AllByRecursion (λ c. 2 * c.votes ≤ nominal_votes entries) entries
runoff_only entries x y h = elim (cases_Bool (nominal_votes entries == 0)) [
  | inl t ↦ let e : Nobody ≡ Runoff x y = rw t at h in absurd (cc)
  | inr f ↦ (grind (arith, nat_tests), all_moved (λ c. 2 * c.votes ≤ nominal_votes entries) (in_order entries) entries (IsPermutation-sym entries (in_order entries) (in_order-permutation entries)) (runoff_of (nominal_votes entries) x y (in_order entries) (are_in_order entries) (rw f at h)))
]

two_there : (total : ℕ) (ordered : List Entry) → nominal_votes ordered ≡ total → 1 ≤ total → AllByRecursion (λ c. 2 * c.votes ≤ total) ordered → (x : ℕ) × (y : ℕ) × (decided total true ordered ≡ Runoff x y)
two_there total [] sum some half = absurd (omega arith)
two_there total (a ∷ []) sum some half = let one = sum_by-cons (λ (c : Entry). c.votes) a [] in let h = half.0 in absurd (omega arith)
two_there total (a ∷ b ∷ others) sum some half = let le : leb (2 * a.votes) total ≡ true = (let h = half.0 in grind (arith, nat_tests)) in (a.number, b.number, rw le refl)

-- and then there is one
pub runoff_then : (entries : List Entry) → 1 ≤ nominal_votes entries → AllByRecursion (λ c. 2 * c.votes ≤ nominal_votes entries) entries → (x : ℕ) × (y : ℕ) × (majority_outcome entries true ≡ Runoff x y)
runoff_then entries some half =
    let f : (nominal_votes entries == 0) ≡ false = grind (arith, nat_tests) in
    let (x, y, is) = two_there (nominal_votes entries) (in_order entries) (sum_in_order entries) some (all_moved (λ c. 2 * c.votes ≤ nominal_votes entries) entries (in_order entries) (in_order-permutation entries) half) in
    (x, y, rw f is)

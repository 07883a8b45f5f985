-- Parties that rise by number: a number is that of one party.
use Rattle.std.proofs.Common.{◌≡◌, ℕ, suc, ◌<◌, Bool, cond, ◌==◌, List, [], ◌∷◌, map, get_or, sum_by, inl, inr, refl, sym, ap, ◌∙◌, subst, arith}
use Rattle.std.specs.List.{AllByRecursion, AllPairs, Contains}
use Rattle.std.proofs.lemmas.Bool.Decides.{nat_tests}
use Rattle.std.proofs.lemmas.List.{length-map, get_or-map}
use Rattle.std.proofs.lemmas.List.Kept.{AllPairs-from_increasing}
use Rattle.std.proofs.lemmas.List.Sums.{sum_by-cons}
use Rattle.seat_remainders.specs.declared.contest.Contestant.{Contestant}
use Rattle.seat_remainders.specs.Contest.{PartiesRise}
use Rattle.seat_remainders.proofs.Lists.{contains_cases, of_member, all_of_members}

-- each party has a lower number than all that are behind it
abbrev pub AreRising : List Contestant → Type 0
AreRising [] = Unit {0}
AreRising (p ∷ parties) = AllByRecursion (λ q. p.number < q.number) parties × AreRising parties

from_pairs : (parties : List Contestant) → AllPairs (λ m n. m < n) (map (λ p. p.number) parties) → AreRising parties
from_pairs [] h = tt
from_pairs (p ∷ parties) h =
    let len = length-map parties (λ (q : Contestant). q.number) in (
      all_of_members (λ q. p.number < q.number) parties (λ q (k, lt, e).
          let here : get_or (map (λ (r : Contestant). r.number) parties) k 0 ≡ q.number = get_or-map (λ (r : Contestant). r.number) parties k q 0 lt ∙ ap (λ (r : Contestant). r.number) e in
          let below = h 0 (suc k) 0 (omega arith) (omega arith) in
          omega arith),
      from_pairs parties (λ i j d lt within. h (suc i) (suc j) d (omega arith) (omega arith)),
    )

pub are_rising : (parties : List Contestant) → PartiesRise parties → AreRising parties
are_rising parties h = from_pairs parties (AllPairs-from_increasing (map (λ p. p.number) parties) h)

above : (p q : Contestant) (parties : List Contestant) → AllByRecursion (λ q. p.number < q.number) parties → Contains parties q → p.number < q.number
above p q parties all at = of_member (λ q. p.number < q.number) parties q all at

pub one_party : (p q : Contestant) (parties : List Contestant) → AreRising parties → Contains parties p → Contains parties q → p.number ≡ q.number → p ≡ q
one_party p q [] rising (k, lt, e) at is = absurd (omega arith)
one_party p q (r ∷ parties) rising here there is = elim (contains_cases r p parties here) [
  | inl e ↦ elim (contains_cases r q parties there) [
    | inl f ↦ sym e ∙ f
    | inr g ↦ let lt = above r q parties rising.0 g in let n = ap (λ (c : Contestant). c.number) e in absurd (omega arith)
  ]
  | inr h ↦ elim (contains_cases r q parties there) [
    | inl f ↦ let lt = above r p parties rising.0 h in let n = ap (λ (c : Contestant). c.number) f in absurd (omega arith)
    | inr g ↦ one_party p q parties rising.1 h g is
  ]
]

-- how many parties have this number

abbrev pub one_if : Bool → ℕ
one_if b = cond b 1 0

none_named : (n : ℕ) (parties : List Contestant) → AllByRecursion (λ q. n < q.number) parties → sum_by (λ q. one_if (n == q.number)) parties ≡ 0
none_named n [] all = refl
none_named n (q ∷ parties) all =
    let one = sum_by-cons (λ q. one_if (n == q.number)) q parties in
    let others = none_named n parties all.1 in
    let lt = all.0 in
    let not_this : one_if (n == q.number) ≡ 0 = grind (arith, nat_tests) in
    omega arith

pub one_named : (n : ℕ) (p : Contestant) (parties : List Contestant) → AreRising parties → Contains parties p → n ≡ p.number → sum_by (λ q. one_if (n == q.number)) parties ≡ 1
one_named n p [] rising (k, lt, e) is = absurd (omega arith)
one_named n p (q ∷ parties) rising at is =
    let one = sum_by-cons (λ q. one_if (n == q.number)) q parties in
    elim (contains_cases q p parties at) [
      | inl e ↦
          let same : n ≡ q.number = is ∙ ap (λ (c : Contestant). c.number) (sym e) in
          let others = none_named n parties (subst (λ (m : ℕ). AllByRecursion (λ r. m < r.number) parties) (sym same) rising.0) in
          let this : one_if (n == q.number) ≡ 1 = grind (arith, nat_tests) in
          omega arith
      | inr t ↦
          let lt = above q p parties rising.0 t in
          let others = one_named n p parties rising.1 t is in
          let this : one_if (n == q.number) ≡ 0 = grind (arith, nat_tests) in
          omega arith
    ]

-- The averages of the table, sorted, are the table.
use Rattle.std.proofs.Common.{◌≡◌, ◌≢◌, ℕ, zero, suc, ◌+◌, ◌-◌, ◌≤◌, ◌<◌, ◌⊎◌, Bool, true, false, ◌==◌, ◌&&◌, List, [], ◌∷◌, sum_by, inl, inr, refl, sym, ap, ◌∙◌, subst, arith}
use Rattle.std.specs.List.{AllByRecursion, Contains}
use Rattle.std.specs.List.Sorted.{IsPermutation}
use Rattle.std.proofs.lemmas.Bool.{cases_Bool, cases_eq}
use Rattle.std.proofs.lemmas.Bool.Decides.{nat_tests}
use Rattle.std.proofs.lemmas.List.Elements.{Contains-append_left, Contains-append_right, Contains-append_cases}
use Rattle.std.proofs.lemmas.List.Sums.{sum_by-cons, sum_by-append}
use Rattle.std.proofs.lemmas.List.Sorted.{sum_by-IsPermutation}
use Rattle.quotients.specs.Average.{AverageData, comes_before}
use Rattle.quotients.proofs.Averages.{some_order, same_average}
use Rattle.seat_remainders.specs.declared.contest.Contestant.{Contestant}
use Rattle.seat_remainders.specs.declared.outcome.Award.{Award}
use Rattle.seat_remainders.specs.Rounds.{seats_after}
use Rattle.seat_remainders.specs.Sorted.{NeverDescend}
use Rattle.seat_remainders.specs.Table.{average_over, AveragesInOrder, IsEntry, IsTable, averages_from, entries_for, entries_of}
use Rattle.seat_remainders.proofs.Lists.{contains_first, contains_there, contains_cases}
use Rattle.seat_remainders.proofs.Rising.{AreRising, one_if}

-- How often an average is there

abbrev is_same : AverageData → AverageData → Bool
is_same a b = a.votes == b.votes && (a.party == b.party && a.divisor == b.divisor)

same_true : (a b : AverageData) → is_same a b ≡ true → a ≡ b
same_true a b h = same_average a b (grind (arith, nat_tests)) (grind (arith, nat_tests)) (grind (arith, nat_tests))

same_self : (a : AverageData) → is_same a a ≡ true
same_self a = grind (arith, nat_tests)

abbrev count_of : AverageData → List AverageData → ℕ
count_of a xs = sum_by (λ b. one_if (is_same a b)) xs

count_cons : (a x : AverageData) (xs : List AverageData) → count_of a (x ∷ xs) ≡ one_if (is_same a x) + count_of a xs
count_cons a x xs = sum_by-cons (λ b. one_if (is_same a b)) x xs

count_as : (a x : AverageData) (xs : List AverageData) (b : Bool) → is_same a x ≡ b → count_of a (x ∷ xs) ≡ one_if b + count_of a xs
count_as a x xs b e = count_cons a x xs ∙ ap (λ (b : Bool). one_if b + count_of a xs) e

from_count : (a : AverageData) (xs : List AverageData) → 1 ≤ count_of a xs → Contains xs a
from_count a [] h = absurd (omega arith)
from_count a (x ∷ xs) h = elim (cases_Bool (is_same a x)) [
  | inl t ↦ contains_first x a xs (sym (same_true a x t))
  | inr f ↦ contains_there x a xs (from_count a xs (let m = count_as a x xs false f in omega arith))
]

to_count : (a : AverageData) (xs : List AverageData) → Contains xs a → 1 ≤ count_of a xs
to_count a [] (k, lt, e) = absurd (omega arith)
to_count a (x ∷ xs) at = elim (contains_cases x a xs at) [
  | inl e ↦ let m = count_as a x xs true (ap (λ (y : AverageData). is_same a y) e ∙ same_self a) in omega arith
  | inr later ↦ let m = to_count a xs later in let n = count_cons a x xs in omega arith
]

-- None is there twice

none_from : (a : AverageData) (p : Contestant) (d n : ℕ) → (a.party ≢ p.number) ⊎ (a.divisor < d) → count_of a (averages_from p d n) ≡ 0
none_from a p d zero h = refl
none_from a p d (suc n) h =
    let more = none_from a p (d + 1) n (elim h [ inl ne ↦ inl ne | inr lt ↦ inr (omega arith) ]) in
    let other : is_same a (average_over p d) ≡ false = elim h [ inl ne ↦ grind (arith, nat_tests) | inr lt ↦ grind (arith, nat_tests) ] in
    let c = count_as a (average_over p d) (averages_from p (d + 1) n) false other in
    omega arith

once_from : (a : AverageData) (p : Contestant) (d n : ℕ) → count_of a (averages_from p d n) ≤ 1
once_from a p d zero = omega arith
once_from a p d (suc n) = elim (cases_Bool (is_same a (average_over p d))) [
  | inl t ↦
      let e = ap (λ (x : AverageData). x.divisor) (same_true a (average_over p d) t) in
      let more = none_from a p (d + 1) n (inr (omega arith)) in
      let c = count_as a (average_over p d) (averages_from p (d + 1) n) true t in
      omega arith
  | inr f ↦ let more = once_from a p (d + 1) n in let c = count_as a (average_over p d) (averages_from p (d + 1) n) false f in omega arith
]

none_of_others : (a : AverageData) (qe : ℕ) (before : List Award) (limit : Contestant → ℕ) (parties : List Contestant) → AllByRecursion (λ q. a.party < q.number) parties → count_of a (entries_of qe before limit parties) ≡ 0
none_of_others a qe before limit [] all = refl
none_of_others a qe before limit (p ∷ parties) all =
    let both = sum_by-append (λ b. one_if (is_same a b)) (entries_for qe before limit p) (entries_of qe before limit parties) in
    let lt = all.0 in
    let here = none_from a p (seats_after qe before p + 1) (limit p - seats_after qe before p) (inl (λ e. omega arith)) in
    let others = none_of_others a qe before limit parties all.1 in
    omega arith

once_of_all : (a : AverageData) (qe : ℕ) (before : List Award) (limit : Contestant → ℕ) (parties : List Contestant) → AreRising parties → count_of a (entries_of qe before limit parties) ≤ 1
once_of_all a qe before limit [] rising = omega arith
once_of_all a qe before limit (p ∷ parties) rising =
    let both = sum_by-append (λ b. one_if (is_same a b)) (entries_for qe before limit p) (entries_of qe before limit parties) in
    elim (cases_eq a.party p.number) [
      | inl e ↦
          let here = once_from a p (seats_after qe before p + 1) (limit p - seats_after qe before p) in
          let others = none_of_others a qe before limit parties (subst (λ (n : ℕ). AllByRecursion (λ q. n < q.number) parties) (sym e) rising.0) in
          omega arith
      | inr ne ↦
          let here = none_from a p (seats_after qe before p + 1) (limit p - seats_after qe before p) (inl ne) in
          let others = once_of_all a qe before limit parties rising.1 in
          omega arith
    ]

-- They are the entries

from_divisors : (a : AverageData) (p : Contestant) (d n : ℕ) → Contains (averages_from p d n) a → (a ≡ average_over p a.divisor) × (d ≤ a.divisor) × (a.divisor < d + n)
from_divisors a p d zero (k, lt, e) = absurd (omega arith)
from_divisors a p d (suc n) at = elim (contains_cases (average_over p d) a (averages_from p (d + 1) n) at) [
  | inl e ↦ let same = ap (λ (x : AverageData). x.divisor) e in (sym e ∙ ap (λ (k : ℕ). average_over p k) same, omega arith, omega arith)
  | inr later ↦ let m = from_divisors a p (d + 1) n later in (m.0, omega (arith, m.1), omega (arith, m.2))
]

to_divisors : (p : Contestant) (d n k : ℕ) → d ≤ k → k < d + n → Contains (averages_from p d n) (average_over p k)
to_divisors p d zero k le lt = absurd (omega arith)
to_divisors p d (suc n) k le lt = elim (cases_eq k d) [
  | inl e ↦ contains_first (average_over p d) (average_over p k) (averages_from p (d + 1) n) (ap (λ (j : ℕ). average_over p j) (sym e))
  | inr ne ↦ contains_there (average_over p d) (average_over p k) (averages_from p (d + 1) n) (to_divisors p (d + 1) n k (omega arith) (omega arith))
]

pub only_entries : (qe : ℕ) (before : List Award) (limit : Contestant → ℕ) (parties : List Contestant) (a : AverageData) → Contains (entries_of qe before limit parties) a → IsEntry qe parties before limit a
only_entries qe before limit [] a (k, lt, is) = absurd (omega arith)
only_entries qe before limit (p ∷ parties) a at = elim (Contains-append_cases (entries_for qe before limit p) (entries_of qe before limit parties) a at) [
  | inl here ↦
      let m = from_divisors a p (seats_after qe before p + 1) (limit p - seats_after qe before p) here in
      record { party = p; stands = contains_first p p parties refl; is = m.0; above = omega (arith, m.1); within = omega (arith, m.1, m.2) }
  | inr later ↦
      let m = only_entries qe before limit parties a later in
      record { party = m.party; stands = contains_there p m.party parties m.stands; is = m.is; above = m.above; within = m.within }
]

entry_of : (qe : ℕ) (before : List Award) (limit : Contestant → ℕ) (parties : List Contestant) (p : Contestant) (d : ℕ) → Contains parties p → seats_after qe before p < d → d ≤ limit p → Contains (entries_of qe before limit parties) (average_over p d)
entry_of qe before limit [] p d (k, lt, e) above within = absurd (omega arith)
entry_of qe before limit (q ∷ parties) p d at above within =
    let first = entries_for qe before limit q in
    elim (contains_cases q p parties at) [
      | inl e ↦
          let s = ap (λ (c : Contestant). seats_after qe before c) e in
          let l = ap limit e in
          Contains-append_left first (entries_of qe before limit parties) (average_over p d)
          (subst (λ (c : Contestant). Contains first (average_over c d)) e (to_divisors q (seats_after qe before q + 1) (limit q - seats_after qe before q) d (omega arith) (omega arith)))
      | inr later ↦ Contains-append_right first (entries_of qe before limit parties) (average_over p d) (entry_of qe before limit parties p d later above within)
    ]

pub all_entries : (qe : ℕ) (before : List Award) (limit : Contestant → ℕ) (parties : List Contestant) (a : AverageData) → IsEntry qe parties before limit a → Contains (entries_of qe before limit parties) a
all_entries qe before limit parties a entry =
    subst (λ (b : AverageData). Contains (entries_of qe before limit parties) b) (sym entry.is) (entry_of qe before limit parties entry.party a.divisor entry.stands entry.above entry.within)

-- In order, strictly where none is there twice

before_other : (x b : AverageData) → comes_before b x ≡ false → (x ≡ b → ⊥) → comes_before x b ≡ true
before_other x b h ne = elim (some_order x b) [ inl t ↦ t | inr w ↦ elim w [ inl t ↦ absurd (cc) | inr e ↦ absurd (ne e) ] ]

before_others : (x : AverageData) (ys : List AverageData) → AllByRecursion (λ b. comes_before b x ≡ false) ys → ((b : AverageData) → Contains ys b → x ≡ b → ⊥) → AllByRecursion (λ b. comes_before x b ≡ true) ys
before_others x [] all ne = tt
before_others x (y ∷ ys) all ne = (before_other x y all.0 (ne y (contains_first y y ys refl)), before_others x ys all.1 (λ b at. ne b (contains_there y b ys at)))

strictly : (xs : List AverageData) → ((a : AverageData) → count_of a xs ≤ 1) → NeverDescend xs → AveragesInOrder xs
strictly [] once up = tt
strictly (x ∷ xs) once up = (
  before_others x xs up.0 (λ b at same.
      let m = to_count b xs at in
      let c = count_as b x xs true (ap (λ (y : AverageData). is_same b y) same ∙ same_self b) in
      let n = once b in
      omega arith),
  strictly xs (λ a. let n = once a in let c = count_cons a x xs in omega arith) up.1,
)

pub sorted_entries : (qe : ℕ) (before : List Award) (limit : Contestant → ℕ) (parties : List Contestant) (ys : List AverageData) → AreRising parties
    → IsPermutation (entries_of qe before limit parties) ys → NeverDescend ys → IsTable qe parties before limit ys
sorted_entries qe before limit parties ys rising moved up =
    let xs = entries_of qe before limit parties in
    let counts : (a : AverageData) → count_of a ys ≡ count_of a xs = λ a. sum_by-IsPermutation (λ b. one_if (is_same a b)) xs ys moved in
    record {
      ordered = strictly ys (λ a. let c = counts a in let o = once_of_all a qe before limit parties rising in omega arith) up;
      only = λ a at. only_entries qe before limit parties a (from_count a xs (let m = to_count a ys at in let c = counts a in omega arith));
      all = λ a entry. from_count a ys (let m = to_count a xs (all_entries qe before limit parties a entry) in let c = counts a in omega arith);
    }

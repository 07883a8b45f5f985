-- The averages as they are computed are the table.
use Rattle.std.proofs.Common.{◌≡◌, ℕ, ◌-◌, ◌≤◌, Bool, true, false, cond, List, [], ◌∷◌, inl, inr, refl, sym, ◌∙◌, subst, arith}
use Rattle.std.specs.List.{AllByRecursion, Contains}
use Rattle.std.proofs.lemmas.Bool.{true≢false}
use Rattle.quotients.specs.Average.{AverageData, comes_before}
use Rattle.quotients.proofs.Averages.{before_all_behind, some_order}
use Rattle.seat_remainders.specs.declared.contest.Contestant.{Contestant}
use Rattle.seat_remainders.specs.declared.contest.Contest.{Contest}
use Rattle.seat_remainders.specs.declared.outcome.Award.{Award}
use Rattle.seat_remainders.specs.Computed.{with_average, averages_in_order, averages_with}
use Rattle.seat_remainders.specs.Parties.{quotient_of, first_phase}
use Rattle.seat_remainders.specs.Table.{AreAverages, AveragesInOrder, IsTable, entries_of, limit_of}
use Rattle.seat_remainders.proofs.Lists.{contains_first, contains_there, contains_cases}
use Rattle.seat_remainders.proofs.TableEntries.{only_entries, all_entries}

-- averages of which neither comes before the other are one
one_average : (a b : AverageData) → comes_before a b ≡ false → comes_before b a ≡ false → a ≡ b
one_average a b f g = elim (some_order a b) [ inl t ↦ absurd (true≢false (sym t ∙ f)) | inr w ↦ elim w [ inl t ↦ absurd (true≢false (sym t ∙ g)) | inr e ↦ e ] ]

-- The same averages

to_with_at : (a b c : AverageData) (xs : List AverageData) (s t : Bool) → comes_before a b ≡ s → comes_before b a ≡ t → (Contains (a ∷ xs) c → Contains (with_average a xs) c) → Contains (a ∷ b ∷ xs) c
    → Contains (cond s (a ∷ b ∷ xs) (cond t (b ∷ with_average a xs) (b ∷ xs))) c
to_with_at a b c xs true t is is' more at = at
to_with_at a b c xs false true is is' more at = elim (contains_cases a c (b ∷ xs) at) [
  | inl e ↦ contains_there b c (with_average a xs) (more (contains_first a c xs e))
  | inr later ↦ elim (contains_cases b c xs later) [
    | inl e ↦ contains_first b c (with_average a xs) e
    | inr behind ↦ contains_there b c (with_average a xs) (more (contains_there a c xs behind))
  ]
]
to_with_at a b c xs false false is is' more at = elim (contains_cases a c (b ∷ xs) at) [
  | inl e ↦ contains_first b c xs (sym (one_average a b is is') ∙ e)
  | inr later ↦ later
]

to_with : (a c : AverageData) (xs : List AverageData) → Contains (a ∷ xs) c → Contains (with_average a xs) c
to_with a c [] at = at
to_with a c (b ∷ xs) at = to_with_at a b c xs (comes_before a b) (comes_before b a) refl refl (to_with a c xs) at

from_with_at : (a b c : AverageData) (xs : List AverageData) (s t : Bool) → (Contains (with_average a xs) c → Contains (a ∷ xs) c) → Contains (cond s (a ∷ b ∷ xs) (cond t (b ∷ with_average a xs) (b ∷ xs))) c
    → Contains (a ∷ b ∷ xs) c
from_with_at a b c xs true t more at = at
from_with_at a b c xs false true more at = elim (contains_cases b c (with_average a xs) at) [
  | inl e ↦ contains_there a c (b ∷ xs) (contains_first b c xs e)
  | inr later ↦ elim (contains_cases a c xs (more later)) [
    | inl e ↦ contains_first a c (b ∷ xs) e
    | inr behind ↦ contains_there a c (b ∷ xs) (contains_there b c xs behind)
  ]
]
from_with_at a b c xs false false more at = contains_there a c (b ∷ xs) at

from_with : (a c : AverageData) (xs : List AverageData) → Contains (with_average a xs) c → Contains (a ∷ xs) c
from_with a c [] at = at
from_with a c (b ∷ xs) at = from_with_at a b c xs (comes_before a b) (comes_before b a) (from_with a c xs) at

to_order : (xs : List AverageData) (c : AverageData) → Contains xs c → Contains (averages_in_order xs) c
to_order [] c at = at
to_order (a ∷ xs) c at = to_with a c (averages_in_order xs) (elim (contains_cases a c xs at) [
  | inl e ↦ contains_first a c (averages_in_order xs) e
  | inr later ↦ contains_there a c (averages_in_order xs) (to_order xs c later)
])

from_order : (xs : List AverageData) (c : AverageData) → Contains (averages_in_order xs) c → Contains xs c
from_order [] c at = at
from_order (a ∷ xs) c at = elim (contains_cases a c (averages_in_order xs) (from_with a c (averages_in_order xs) at)) [
  | inl e ↦ contains_first a c xs e
  | inr later ↦ contains_there a c xs (from_order xs c later)
]

-- In order

all_with_at : (P : AverageData → Type 0) (a b : AverageData) (xs : List AverageData) (s t : Bool) → P a → AllByRecursion P (b ∷ xs) → AllByRecursion P (with_average a xs) → AllByRecursion P (cond s (a ∷ b ∷ xs) (cond t (b ∷ with_average a xs) (b ∷ xs)))
all_with_at P a b xs true t h all more = (h, all)
all_with_at P a b xs false true h all more = (all.0, more)
all_with_at P a b xs false false h all more = all

all_with : (P : AverageData → Type 0) (a : AverageData) (xs : List AverageData) → P a → AllByRecursion P xs → AllByRecursion P (with_average a xs)
all_with P a [] h all = (h, tt)
all_with P a (b ∷ xs) h all = all_with_at P a b xs (comes_before a b) (comes_before b a) h all (all_with P a xs h all.1)

abbrev HaveDivisors : List AverageData → Type 0
HaveDivisors xs = AllByRecursion (λ a. 1 ≤ a.divisor) xs

divisors_in_order : (xs : List AverageData) → HaveDivisors xs → HaveDivisors (averages_in_order xs)
divisors_in_order [] all = tt
divisors_in_order (a ∷ xs) all = all_with (λ b. 1 ≤ b.divisor) a (averages_in_order xs) all.0 (divisors_in_order xs all.1)

before_all : (a b : AverageData) (xs : List AverageData) → 1 ≤ a.divisor → HaveDivisors (b ∷ xs) → comes_before a b ≡ true → AllByRecursion (λ c. comes_before b c ≡ true) xs → AllByRecursion (λ c. comes_before a c ≡ true) xs
before_all a b [] some have h all = tt
before_all a b (c ∷ xs) some have h all = (before_all_behind a b c some have.0 have.1.0 h all.0, before_all a b xs some (have.0, have.1.1) h all.1)

ordered_at : (a b : AverageData) (xs : List AverageData) (s t : Bool) → comes_before a b ≡ s → comes_before b a ≡ t → 1 ≤ a.divisor → HaveDivisors (b ∷ xs) → AveragesInOrder (b ∷ xs) → AveragesInOrder (with_average a xs)
    → AveragesInOrder (cond s (a ∷ b ∷ xs) (cond t (b ∷ with_average a xs) (b ∷ xs)))
ordered_at a b xs true t is is' some have ordered more = ((is, before_all a b xs some have is ordered.0), ordered)
ordered_at a b xs false true is is' some have ordered more = (all_with (λ c. comes_before b c ≡ true) a xs is' ordered.0, more)
ordered_at a b xs false false is is' some have ordered more = ordered

ordered_with : (a : AverageData) (xs : List AverageData) → 1 ≤ a.divisor → HaveDivisors xs → AveragesInOrder xs → AveragesInOrder (with_average a xs)
ordered_with a [] some have ordered = (tt, tt)
ordered_with a (b ∷ xs) some have ordered = ordered_at a b xs (comes_before a b) (comes_before b a) refl refl some have ordered (ordered_with a xs some have.1 ordered.1)

are_ordered : (xs : List AverageData) → HaveDivisors xs → AveragesInOrder (averages_in_order xs)
are_ordered [] have = tt
are_ordered (a ∷ xs) have = ordered_with a (averages_in_order xs) have.0 (divisors_in_order xs have.1) (are_ordered xs have.1)

have_divisors : (xs : List AverageData) → ((a : AverageData) → Contains xs a → 1 ≤ a.divisor) → HaveDivisors xs
have_divisors [] h = tt
have_divisors (a ∷ xs) h = (h a (contains_first a a xs refl), have_divisors xs (λ b at. h b (contains_there a b xs at)))

pub computed_is : (qe : ℕ) (before : List Award) (limit : Contestant → ℕ) (parties : List Contestant) → IsTable qe parties before limit (averages_in_order (entries_of qe before limit parties))
computed_is qe before limit parties =
    let entries = entries_of qe before limit parties in
    record {
      ordered = are_ordered entries (have_divisors entries (λ a at. let entry = only_entries qe before limit parties a at in omega (arith, entry.above)));
      only = λ a at. only_entries qe before limit parties a (from_order entries a at);
      all = λ a entry. to_order entries a (all_entries qe before limit parties a entry);
    }

pub computed_averages : (contest : Contest) (qe : ℕ) → qe ≡ quotient_of contest → AreAverages contest (averages_with contest qe)
computed_averages contest qe is =
    subst (λ (q : ℕ). IsTable q contest.parties [] (limit_of q 2 [] (contest.seats - first_phase q contest.parties)) (averages_with contest qe)) is
    (computed_is qe [] (limit_of qe 2 [] (contest.seats - first_phase qe contest.parties)) contest.parties)

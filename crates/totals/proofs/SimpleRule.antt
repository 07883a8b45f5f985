-- Whom the simple rule elects: the first in the order of candidates, and then whom it elects of the others
use Rattle.std.proofs.Common.{◌≡◌, ◌==◌, ◌+◌, ◌-◌, ◌<◌, ◌≤◌, ℕ, zero, suc, Bool, true, false, not, nat_lt, List, [], ◌∷◌, ◌++◌, map, filter, take, sum_by, inl, inr, ◌⊎◌, refl, sym, ap, subst, ◌∙◌, append_assoc, arith}
use Rattle.std.specs.List.{AllByRecursion}
use Rattle.std.specs.List.Sorted.{IsStrictlyIncreasing}
use Rattle.std.proofs.lemmas.Bool.{cases_Bool}
use Rattle.std.proofs.lemmas.Bool.Decides.{nat_tests}
use Rattle.std.proofs.lemmas.List.Elements.{All-filter, All-from_recursion, recursion_from_All}
use Rattle.std.proofs.lemmas.List.Filters.{sum_by-filter_both}
use Rattle.std.proofs.lemmas.List.Sums.{sum_by-cons}
use Rattle.section_intake.proofs.NumberSums.{value_at, value_at_most}
use Rattle.seat_remainders.specs.Candidates.{AreInOrder, in_order, stands_first, with_candidate}
use Rattle.seat_remainders.specs.Majority.{majority_outcome}
use Rattle.seat_remainders.specs.Parties.{nominal_votes}
use Rattle.seat_remainders.specs.declared.contest.Entry.{Entry}
use Rattle.seat_remainders.specs.declared.outcome.MajorityOutcome.TheVariants.{Elected, Nobody}
use Rattle.seat_remainders.proofs.Ordered.{all_behind, are_in_order, first_votes, in_order-sum}
use Rattle.totals.specs.Laws.{named_by}
use Rattle.totals.specs.Simple.{elected_simply}
use Rattle.totals.proofs.ContestVotes.{sum_mapped}

-- ---- some of the candidates stand in the order in which they stand among all

all_kept : (P : Entry → Type 0) (f : Entry → Bool) (cs : List Entry) → AllByRecursion P cs → AllByRecursion P (filter f cs)
all_kept P f cs all = recursion_from_All P (filter f cs) (All-filter f P cs (All-from_recursion P cs all))

put_first : (c : Entry) (cs : List Entry) → AllByRecursion (λ d. stands_first c d ≡ true) cs → with_candidate c cs ≡ c ∷ cs
put_first c [] all = refl
put_first c (d ∷ cs) all = rw all.0 refl

kept_with_at : (f : Entry → Bool) (c d : Entry) (cs : List Entry) → stands_first c d ≡ false → filter f (with_candidate c cs) ≡ with_candidate c (filter f cs)
    → filter f (d ∷ with_candidate c cs) ≡ with_candidate c (filter f (d ∷ cs))
kept_with_at f c d cs behind more = elim (cases_Bool (f d)) [
  | inl kept ↦ rw (kept, behind) (ap (λ (l : List Entry). d ∷ l) more)
  | inr out ↦ rw out more
]

-- with one more who is kept,
kept_with : (f : Entry → Bool) (c : Entry) (cs : List Entry) → AreInOrder cs → f c ≡ true → filter f (with_candidate c cs) ≡ with_candidate c (filter f cs)
kept_with f c [] order kept = rw kept refl
kept_with f c (d ∷ cs) order kept = elim (cases_Bool (stands_first c d)) [
  | inl before ↦
      let all : AllByRecursion (λ e. stands_first c e ≡ true) (d ∷ cs) = (before, all_behind c d cs before order.0) in
      rw (before, kept) (sym (put_first c (filter f (d ∷ cs)) (all_kept (λ e. stands_first c e ≡ true) f (d ∷ cs) all)))
  | inr behind ↦ rw behind (kept_with_at f c d cs behind (kept_with f c cs order.1 kept))
]

-- and with one more who is not
left_out : (f : Entry → Bool) (c : Entry) (cs : List Entry) → f c ≡ false → filter f (with_candidate c cs) ≡ filter f cs
left_out f c [] out = rw out refl
left_out f c (d ∷ cs) out = elim (cases_Bool (stands_first c d)) [
  | inl before ↦ rw (before, out) refl
  | inr behind ↦ rw behind (let more = left_out f c cs out in rw more refl)
]

in_order-filter : (f : Entry → Bool) (cs : List Entry) → in_order (filter f cs) ≡ filter f (in_order cs)
in_order-filter f [] = refl
in_order-filter f (c ∷ cs) = elim (cases_Bool (f c)) [
  | inl kept ↦ rw kept (ap (with_candidate c) (in_order-filter f cs) ∙ sym (kept_with f c (in_order cs) (are_in_order cs) kept))
  | inr out ↦ rw out (in_order-filter f cs ∙ sym (left_out f c (in_order cs) out))
]

-- some have no more votes, nor anything else, than all
pub sum_by-filter-le : {X : Type 0} (f : X → Bool) (g : X → ℕ) (xs : List X) → sum_by g (filter f xs) ≤ sum_by g xs
sum_by-filter-le f g xs = let both = sum_by-filter_both f (λ x. not (f x)) (λ x. refl) g xs in omega arith

-- ---- the others than the first

-- who has another number
abbrev pub is_other : ℕ → Entry → Bool
is_other n c = not (c.number == n)

-- a number is of one candidate at most
abbrev pub HaveOwnNumbers : List Entry → Type 0
HaveOwnNumbers cs = (n : ℕ) → sum_by (λ c. value_at n 1 c.number) cs ≤ 1

pub own_numbers : (cs : List Entry) → IsStrictlyIncreasing (map (λ c. c.number) cs) → HaveOwnNumbers cs
own_numbers cs rise n =
    let numbers = sum_mapped (value_at n 1) (λ (c : Entry). c.number) cs in
    let one = value_at_most n 1 (map (λ c. c.number) cs) rise in
    omega arith

pub others_too : (n : ℕ) (cs : List Entry) → HaveOwnNumbers cs → HaveOwnNumbers (filter (is_other n) cs)
others_too n cs own m = let less = sum_by-filter-le (is_other n) (λ c. value_at m 1 c.number) cs in let one = own m in omega arith

all_others : (n : ℕ) (cs : List Entry) → sum_by (λ c. value_at n 1 c.number) cs ≡ 0 → filter (is_other n) cs ≡ cs
all_others n [] none = refl
all_others n (c ∷ cs) none =
    let sum = sum_by-cons (λ (d : Entry). value_at n 1 d.number) c cs in
    let more = all_others n cs (omega arith) in
    let here : value_at n 1 c.number ≡ 0 = omega arith in
    let other : (c.number == n) ≡ false = grind (arith, nat_tests) in
    rw (other, more) refl

behind_first : (a : Entry) (cs : List Entry) → HaveOwnNumbers (a ∷ cs) → filter (is_other a.number) (a ∷ cs) ≡ cs
behind_first a cs own =
    let sum = sum_by-cons (λ (d : Entry). value_at a.number 1 d.number) a cs in
    let few = own a.number in
    let same : (a.number == a.number) ≡ true = grind (arith, nat_tests) in
    let one : value_at a.number 1 a.number ≡ 1 = rw same refl in
    rw same (all_others a.number cs (omega arith))

-- ---- the first, where somebody has a vote

has_no_vote : (cs : List Entry) → nominal_votes cs ≡ 0 → filter (λ c. nat_lt 0 c.votes) cs ≡ []
has_no_vote [] none = refl
has_no_vote (c ∷ cs) none =
    let sum = sum_by-cons (λ (d : Entry). d.votes) c cs in
    let more = has_no_vote cs (omega arith) in
    let test : nat_lt 0 c.votes ≡ false = grind (arith, nat_tests) in
    rw (test, more) refl

no_vote_behind : (a : Entry) (cs : List Entry) → AllByRecursion (λ d. stands_first a d ≡ true) cs → a.votes ≡ 0 → nominal_votes cs ≡ 0
no_vote_behind a [] all none = refl
no_vote_behind a (c ∷ cs) all none =
    let sum = sum_by-cons (λ (d : Entry). d.votes) c cs in
    let few = first_votes a c all.0 in
    let more = no_vote_behind a cs all.1 none in
    omega arith

-- nobody is elected to any number of seats, or the first in the order has a vote and is elected
abbrev pub First : List Entry → Type 0
First cs = ((majority_outcome cs false ≡ Nobody) × ((k : ℕ) → elected_simply k cs ≡ []))
    ⊎ ((a : Entry) × (behind : List Entry) × (in_order cs ≡ a ∷ behind) × (nat_lt 0 a.votes ≡ true)
    × (majority_outcome cs false ≡ Elected a.number) × (elected_simply 1 cs ≡ a.number ∷ []))

none_of : (k : ℕ) → map (λ (c : Entry). c.number) (take k []) ≡ []
none_of zero = refl
none_of (suc k) = refl

first_at : (cs ordered : List Entry) → in_order cs ≡ ordered → (nominal_votes cs == 0) ≡ false → First cs
first_at cs [] is some =
    let same = in_order-sum (λ c. c.votes) cs in
    let none : nominal_votes (in_order cs) ≡ 0 = ap (λ (l : List Entry). nominal_votes l) is in
    let no : nominal_votes cs ≡ 0 = omega arith in
    absurd (grind (arith, nat_tests))
first_at cs (a ∷ behind) is some = elim (cases_Bool (nat_lt 0 a.votes)) [
  | inl vote ↦ inr (a, behind, is, vote, rw (some, is) refl, rw (is, vote) refl)
  | inr none ↦
      let no : a.votes ≡ 0 = grind (arith, nat_tests) in
      let order : AreInOrder (a ∷ behind) = subst AreInOrder is (are_in_order cs) in
      let others = no_vote_behind a behind order.0 no in
      let sum = sum_by-cons (λ (d : Entry). d.votes) a behind in
      let same = in_order-sum (λ c. c.votes) cs in
      let whole : nominal_votes (in_order cs) ≡ nominal_votes (a ∷ behind) = ap (λ (l : List Entry). nominal_votes l) is in
      let all : nominal_votes cs ≡ 0 = omega arith in
      absurd (grind (arith, nat_tests))
]

pub first_is : (cs : List Entry) → First cs
first_is cs = elim (cases_Bool (nominal_votes cs == 0)) [
  | inl none ↦
      let no : nominal_votes cs ≡ 0 = grind (arith, nat_tests) in
      let nobody = has_no_vote (in_order cs) (in_order-sum (λ c. c.votes) cs ∙ no) in
      inl (rw none refl, λ k. rw nobody (none_of k))
  | inr some ↦ first_at cs (in_order cs) refl some
]

-- to one seat it elects whom the majority rule elects
pub one_seat : (cs : List Entry) → elected_simply 1 cs ≡ named_by (majority_outcome cs false)
one_seat cs = elim (first_is cs) [
  | inl (nobody, none) ↦ none 1 ∙ sym (ap named_by nobody)
  | inr (a, behind, is, vote, elected, first) ↦ first ∙ sym (ap named_by elected)
]

-- ---- to one seat more

own_in_order : (cs ordered : List Entry) → HaveOwnNumbers cs → in_order cs ≡ ordered → HaveOwnNumbers ordered
own_in_order cs ordered own is n =
    let same = in_order-sum (λ c. value_at n 1 c.number) cs in
    let whole = ap (λ (l : List Entry). sum_by (λ c. value_at n 1 c.number) l) is in
    let one = own n in
    omega arith

then_others : (k : ℕ) (cs : List Entry) (a : Entry) (behind : List Entry) → HaveOwnNumbers cs → in_order cs ≡ a ∷ behind → nat_lt 0 a.votes ≡ true
    → elected_simply (suc k) cs ≡ a.number ∷ elected_simply k (filter (is_other a.number) cs)
then_others k cs a behind own is vote =
    let rest : in_order (filter (is_other a.number) cs) ≡ behind =
    in_order-filter (is_other a.number) cs
    ∙ (ap (λ (l : List Entry). filter (is_other a.number) l) is ∙ behind_first a behind (own_in_order cs (a ∷ behind) own is)) in
    rw (is, vote, rest) refl

-- whom it elects to the first seat, and whom it elects of the others to those that are left
first_and_others : (k n : ℕ) (cs : List Entry) → HaveOwnNumbers cs → elected_simply 1 cs ≡ n ∷ [] → elected_simply (suc k) cs ≡ n ∷ elected_simply k (filter (is_other n) cs)
first_and_others k n cs own one = elim (first_is cs) [
  | inl (nobody, none) ↦ let nobody_first = none 1 in absurd (cc)
  | inr (a, behind, is, vote, elected, first) ↦
      let same : a.number ≡ n = cc in
      subst (λ (m : ℕ). elected_simply (suc k) cs ≡ m ∷ elected_simply k (filter (is_other m) cs)) same (then_others k cs a behind own is vote)
]

-- who was elected before, and of those that are left whom it elects to the other seats, with one more of them
pub one_more : (seats i n : ℕ) (cs left : List Entry) (elected : List ℕ) → HaveOwnNumbers left → i < seats → elected_simply 1 left ≡ n ∷ []
    → elected_simply seats cs ≡ elected ++ elected_simply (seats - i) left
    → elected_simply seats cs ≡ (elected ++ n ∷ []) ++ elected_simply (seats - (i + 1)) (filter (is_other n) left)
one_more seats i n cs left elected own lt one so_far =
    let seat : seats - i ≡ suc (seats - (i + 1)) = omega arith in
    let more = ap (λ (k : ℕ). elected_simply k left) seat ∙ first_and_others (seats - (i + 1)) n left own one in
    so_far ∙ (ap (λ (l : List ℕ). elected ++ l) more ∙ sym (append_assoc elected (n ∷ []) (elected_simply (seats - (i + 1)) (filter (is_other n) left))))

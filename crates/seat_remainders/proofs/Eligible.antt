-- A party is eligible while it has fewer seats than it can have at most.
use Rattle.std.proofs.Common.{◌≡◌, ℕ, zero, suc, ◌≤◌, ◌<◌, Bool, true, false, cond, ltb, ◌==◌, ◌&&◌, List, [], ◌∷◌, length, drop, count_by, inl, inr, refl, sym, ap, ◌∙◌, arith}
use Rattle.std.specs.List.{list_any}
use Rattle.std.proofs.lemmas.Bool.{cases_Bool, ltb-true}
use Rattle.std.proofs.lemmas.Bool.Decides.{nat_tests}
use Rattle.std.proofs.lemmas.List.Sums.{count_by-le-length}
use Rattle.quotients.specs.Quotients.{has_fifth, has_four_fifths}
use Rattle.seat_remainders.specs.declared.contest.Entry.{Entry}
use Rattle.seat_remainders.specs.declared.contest.Contestant.{Contestant}
use Rattle.seat_remainders.specs.declared.outcome.Award.{Award}
use Rattle.seat_remainders.specs.Candidates.{stands_first, in_order}
use Rattle.seat_remainders.specs.Parties.{votes_of}
use Rattle.seat_remainders.specs.Rounds.{seats_after, unseated, is_eligible}
use Rattle.seat_remainders.specs.Table.{fifths_of, most_in_two, most_in_three, most_seats}
use Rattle.seat_remainders.proofs.Ordered.{in_order-length, in_order-sum, are_in_order, left_pass, first_votes, never_below}

fifth_up : (qe : ℕ) (a b : Entry) → stands_first a b ≡ true → has_fifth b.votes qe ≡ true → has_fifth a.votes qe ≡ true
fifth_up qe a b h g = let more = first_votes a b h in grind (arith, nat_tests)

in_two : (qe : ℕ) (before : List Award) (p : Contestant) (b : Bool) → has_four_fifths (votes_of p) qe ≡ b
    → has_four_fifths (votes_of p) qe && list_any (λ c. has_fifth c.votes qe) (unseated qe before p) ≡ ltb (seats_after qe before p) (cond b (count_by (λ c. has_fifth c.votes qe) p.candidates) 0)
in_two qe before p true is =
    let left = left_pass (λ c. has_fifth c.votes qe) (fifth_up qe) (seats_after qe before p) (in_order p.candidates) (are_in_order p.candidates) in
    let same = in_order-sum (λ c. cond (has_fifth c.votes qe) 1 0) p.candidates in
    rw is (left ∙ ap (λ (n : ℕ). ltb (seats_after qe before p) n) same)
in_two qe before p false is = rw is (never_below (seats_after qe before p))

left_over : (n : ℕ) (xs : List Entry) → ltb 0 (length (drop n xs)) ≡ ltb n (length xs)
left_over zero [] = refl
left_over (suc n) [] = grind (arith, nat_tests)
left_over zero (x ∷ xs) = refl
left_over (suc n) (x ∷ xs) = left_over n xs ∙ grind (arith, nat_tests)

in_three : (qe : ℕ) (before : List Award) (p : Contestant) (b : Bool) → ltb 0 (votes_of p) ≡ b
    → ltb 0 (votes_of p) && ltb 0 (length (unseated qe before p)) ≡ ltb (seats_after qe before p) (cond b (length p.candidates) 0)
in_three qe before p true is =
    rw is (left_over (seats_after qe before p) (in_order p.candidates) ∙ ap (λ (n : ℕ). ltb (seats_after qe before p) n) (in_order-length p.candidates))
in_three qe before p false is = rw is (never_below (seats_after qe before p))

pub eligible_below : (qe : ℕ) (before : List Award) (phase : ℕ) (p : Contestant) → is_eligible qe before phase p ≡ ltb (seats_after qe before p) (most_seats qe phase p)
eligible_below qe before phase p = elim (cases_Bool (phase == 2)) [
  | inl t ↦ rw t (in_two qe before p (has_four_fifths (votes_of p) qe) refl)
  | inr f ↦ rw f (in_three qe before p (ltb 0 (votes_of p)) refl)
]

-- no more than it has candidates, so one is without a seat

or_none : (b : Bool) (m n : ℕ) → m ≤ n → cond b m 0 ≤ n
or_none true m n le = le
or_none false m n le = omega arith

either_le : (b : Bool) (k m n : ℕ) → k ≤ n → m ≤ n → cond b k m ≤ n
either_le true k m n le le' = le
either_le false k m n le le' = le'

most_le : (qe phase : ℕ) (p : Contestant) → most_seats qe phase p ≤ length p.candidates
most_le qe phase p =
    either_le (phase == 2) (most_in_two qe p) (most_in_three p) (length p.candidates)
    (or_none (has_four_fifths (votes_of p) qe) (fifths_of qe p) (length p.candidates) (count_by-le-length (λ c. has_fifth c.votes qe) p.candidates))
    (or_none (ltb 0 (votes_of p)) (length p.candidates) (length p.candidates) (omega arith))

pub has_unseated : (qe : ℕ) (before : List Award) (phase : ℕ) (p : Contestant) → is_eligible qe before phase p ≡ true → seats_after qe before p < length p.candidates
has_unseated qe before phase p h =
    let below = ltb-true _ _ (sym (eligible_below qe before phase p) ∙ h) in
    let most = most_le qe phase p in
    omega arith

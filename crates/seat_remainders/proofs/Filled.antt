-- Each seat of a party is filled, and all seats are given or vacant.
use Rattle.std.proofs.Common.{◌≡◌, ℕ, ◌+◌, ◌≤◌, ◌<◌, ◌==◌, List, [], ◌∷◌, ◌++◌, length, map, take, sum_by, inl, inr, refl, sym, ap, ◌∙◌, subst, length-append, append-nil, arith}
use Rattle.std.specs.List.{AllByRecursion, Contains}
use Rattle.std.proofs.lemmas.Bool.{cases_eq}
use Rattle.std.proofs.lemmas.Bool.Decides.{nat_tests}
use Rattle.std.proofs.lemmas.List.{length-map, length-take-le}
use Rattle.std.proofs.lemmas.List.Sums.{sum_by-cons, count_by-le-length}
use Rattle.quotients.specs.Quotients.{has_tenth}
use Rattle.seat_remainders.specs.declared.contest.Entry.{Entry}
use Rattle.seat_remainders.specs.declared.contest.Contestant.{Contestant}
use Rattle.seat_remainders.specs.declared.contest.Contest.{Contest}
use Rattle.seat_remainders.specs.declared.outcome.Award.{Award}
use Rattle.seat_remainders.specs.declared.outcome.PartySeats.{PartySeats}
use Rattle.seat_remainders.specs.declared.outcome.Seats.{Seats as SeatsData}
use Rattle.seat_remainders.specs.Candidates.{in_order}
use Rattle.seat_remainders.specs.Contest.{PartiesRise}
use Rattle.seat_remainders.specs.Rounds.{seats_after, EachFollows}
use Rattle.seat_remainders.specs.Outcome.{party_seats, elected_of, elected_by, AreSeats}
use Rattle.seat_remainders.proofs.Awarded.{moved_on, seats_more, sum_over, sum_none}
use Rattle.seat_remainders.proofs.Eligible.{has_unseated}
use Rattle.seat_remainders.proofs.Lists.{all_of_members}
use Rattle.seat_remainders.proofs.Ordered.{in_order-length}
use Rattle.seat_remainders.proofs.Rising.{AreRising, are_rising, one_if, one_party}

sum_listed : (qe : ℕ) (awards : List Award) (parties : List Contestant) → sum_by (λ (s : PartySeats). s.seats) (map (party_seats qe awards) parties) ≡ sum_by (seats_after qe awards) parties
sum_listed qe awards [] = refl
sum_listed qe awards (p ∷ parties) =
    let one = sum_by-cons (λ (s : PartySeats). s.seats) (party_seats qe awards p) (map (party_seats qe awards) parties) in
    let two = sum_by-cons (seats_after qe awards) p parties in
    let others = sum_listed qe awards parties in
    omega arith

pub add_up : (contest : Contest) (s : SeatsData) → PartiesRise contest.parties → AreSeats contest s → sum_by (λ p. p.seats) s.parties + s.vacant ≡ contest.seats
add_up contest s rise given =
    let listed = ap (λ (l : List PartySeats). sum_by (λ p. p.seats) l) given.parties ∙ sum_listed s.quotient s.awards contest.parties in
    let over = sum_over s.quotient contest.parties [] s.awards (are_rising contest.parties rise) given.rounds.each in
    let first = sum_none s.quotient contest.parties in
    omega (arith, given.rounds.all, given.within)

-- No party has more seats than candidates

filled_after : (qe : ℕ) (parties : List Contestant) (before awards : List Award) (p : Contestant) → AreRising parties → Contains parties p → EachFollows qe parties before awards
    → seats_after qe before p ≤ length p.candidates → seats_after qe (before ++ awards) p ≤ length p.candidates
filled_after qe parties before [] p rising at each h = subst (λ (t : List Award). seats_after qe t p ≤ length p.candidates) (sym (append-nil before)) h
filled_after qe parties before (w ∷ awards) p rising at each h =
    let t = each.0.1 in
    let more = seats_more qe before w p in
    let next : seats_after qe (before ++ w ∷ []) p ≤ length p.candidates = elim (cases_eq w.party p.number) [
      | inl e ↦
          let same : p ≡ each.0.0 = one_party p each.0.0 parties rising at t.stands (sym e ∙ t.named) in
          let unseated = subst (λ (c : Contestant). seats_after qe before c < length c.candidates) (sym same) (has_unseated qe before w.phase each.0.0 t.eligible) in
          let one : one_if (w.party == p.number) ≤ 1 = grind (arith, nat_tests) in
          omega arith
      | inr ne ↦ let none : one_if (w.party == p.number) ≡ 0 = grind (arith, nat_tests) in omega arith
    ] in
    subst (λ (t : List Award). seats_after qe t p ≤ length p.candidates) (sym (moved_on before awards w)) (filled_after qe parties (before ++ w ∷ []) awards p rising at each.1 next)

pub within_candidates : (qe : ℕ) (parties : List Contestant) (awards : List Award) (p : Contestant) → AreRising parties → Contains parties p → EachFollows qe parties [] awards → seats_after qe awards p ≤ length p.candidates
within_candidates qe parties awards p rising at each =
    filled_after qe parties [] awards p rising at each (let able = count_by-le-length (λ c. has_tenth c.votes qe) p.candidates in omega arith)

-- so as many are elected

elected_length : (qe : ℕ) (awards : List Award) (p : Contestant) → seats_after qe awards p ≤ length p.candidates → length (elected_of qe awards p) ≡ seats_after qe awards p
elected_length qe awards p h =
    let len = in_order-length p.candidates in
    length-map (take (seats_after qe awards p) (in_order p.candidates)) (λ (c : Entry). c.number) ∙ length-take-le (seats_after qe awards p) (in_order p.candidates) (omega arith)

pub elected_sum : (qe : ℕ) (awards : List Award) (parties : List Contestant) → AllByRecursion (λ p. seats_after qe awards p ≤ length p.candidates) parties
    → length (elected_by qe awards parties) ≡ sum_by (seats_after qe awards) parties
elected_sum qe awards [] all = refl
elected_sum qe awards (p ∷ parties) all =
    let one = sum_by-cons (seats_after qe awards) p parties in
    let this = elected_length qe awards p all.0 in
    let others = elected_sum qe awards parties all.1 in
    let both = length-append (elected_of qe awards p) (elected_by qe awards parties) in
    omega arith

pub filled : (contest : Contest) (s : SeatsData) → PartiesRise contest.parties → AreSeats contest s → length s.elected ≡ sum_by (λ p. p.seats) s.parties
filled contest s rise given =
    let listed = ap (λ (l : List PartySeats). sum_by (λ p. p.seats) l) given.parties ∙ sum_listed s.quotient s.awards contest.parties in
    let all = all_of_members (λ p. seats_after s.quotient s.awards p ≤ length p.candidates) contest.parties (λ p at.
    within_candidates s.quotient contest.parties s.awards p (are_rising contest.parties rise) at given.rounds.each) in
    ap length given.elected ∙ elected_sum s.quotient s.awards contest.parties all ∙ sym listed

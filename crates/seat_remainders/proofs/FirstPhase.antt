-- The first phase gives no more seats than the votes allow.
use Rattle.std.proofs.Common.{◌≡◌, ℕ, ◌+◌, ◌*◌, ◌/◌, ◌≤◌, List, [], ◌∷◌, inl, inr, ap, ◌∙◌, arith}
use Rattle.std.proofs.lemmas.Bool.{cases_lt}
use Rattle.std.proofs.lemmas.List.Sums.{sum_by-cons}
use Rattle.std.proofs.Math.Nat.{div-mul-le_self, mul-le-mul_left, mul-le-mul_right}
use Rattle.quotients.proofs.Nearest.{covers}
use Rattle.seat_remainders.specs.declared.contest.Contestant.{Contestant}
use Rattle.seat_remainders.specs.declared.contest.Contest.{Contest}
use Rattle.seat_remainders.specs.Parties.{votes_of, valid_votes, quotient_of, first_seats, first_phase}
use Rattle.seat_remainders.specs.Outcome.{IsOver}

-- each seat of the first phase has a quotient of votes
quotient_for_each : (qe : ℕ) (parties : List Contestant) → first_phase qe parties * qe ≤ valid_votes parties
quotient_for_each qe [] = omega arith
quotient_for_each qe (p ∷ parties) =
    let seats = sum_by-cons (first_seats qe) p parties in
    let votes = sum_by-cons votes_of p parties in
    let least : first_seats qe p ≤ votes_of p / qe = omega arith in
    let part = mul-le-mul_right qe least in
    let whole = div-mul-le_self (votes_of p) qe in
    let others = quotient_for_each qe parties in
    let product : first_phase qe (p ∷ parties) * qe ≡ first_seats qe p * qe + first_phase qe parties * qe = ap (λ n. n * qe) seats ∙ omega arith in
    omega arith

pub first_within : (qe : ℕ) (parties : List Contestant) → 1 ≤ qe → first_phase qe parties ≤ valid_votes parties
first_within qe parties some =
    let all = quotient_for_each qe parties in
    let one = mul-le-mul_left (first_phase qe parties) some in
    omega arith

pub over_below_half : (contest : Contest) (first seats : ℕ) → 1 ≤ contest.seats → IsOver contest first seats → quotient_of contest ≤ contest.seats / 2
over_below_half contest first seats some h = elim (cases_lt contest.seats (2 * quotient_of contest)) [
  | inr le ↦ omega arith
  | inl lt ↦
      let c = covers (valid_votes contest.parties) contest.seats some lt in
      let all = quotient_for_each (quotient_of contest) contest.parties in
      let more : contest.seats + 1 ≤ first_phase (quotient_of contest) contest.parties = omega (arith, h.over) in
      let product = mul-le-mul_right (quotient_of contest) more in
      absurd (omega (arith, c, all, product))
]

-- The certificate of given seats
use Rattle.std.proofs.Common.{◌≡◌, ℕ, zero, suc, ◌+◌, ◌≤◌, ◌<◌, List, [], ◌∷◌, ◌++◌, length, take, get_or, refl, sym, ap, ◌∙◌, subst, append-nil, length-append, arith}
use Rattle.std.proofs.lemmas.List.{length-map, take_more}
use Rattle.quotients.specs.Average.{AverageData}
use Rattle.seat_remainders.specs.declared.contest.Contest.{Contest}
use Rattle.seat_remainders.specs.declared.contest.Contestant.{Contestant}
use Rattle.seat_remainders.specs.declared.outcome.Award.{Award}
use Rattle.seat_remainders.specs.declared.outcome.Seats.{Seats as SeatsData}
use Rattle.seat_remainders.specs.Outcome.{AreSeats}
use Rattle.seat_remainders.specs.Parties.{first_phase}
use Rattle.seat_remainders.specs.Rounds.{EachFollows, NobodyLeft}
use Rattle.seat_remainders.proofs.Awarded.{moved_on}
use Rattle.seat_certificate.specs.declared.certificate.Round.{Round}
use Rattle.seat_certificate.specs.Certificate.{IsLawful, award_in, awards_in, certificate_of, competing, round_of, rounds_of}
use Rattle.seat_certificate.specs.Valid.{IsValid}
use Rattle.seat_certificate.proofs.Lawful.{EachBehind}
use Rattle.seat_certificate.proofs.Members.{some_same}
use Rattle.seat_certificate.proofs.Outcomes.{first-sum}

-- awards in a row give rounds in a row
rounds_behind : (qe : ℕ) (parties : List Contestant) (before awards : List Award) (w : Award)
    → rounds_of qe parties before (awards ++ w ∷ []) ≡ rounds_of qe parties before awards ++ round_of qe parties (before ++ awards) w ∷ []
rounds_behind qe parties before [] w = ap (λ (l : List Award). round_of qe parties l w ∷ []) (sym (append-nil before))
rounds_behind qe parties before (v ∷ awards) w =
    ap (λ (l : List Round). round_of qe parties before v ∷ l)
    (rounds_behind qe parties (before ++ v ∷ []) awards w
    ∙ ap (λ (l : List Award). rounds_of qe parties (before ++ v ∷ []) awards ++ round_of qe parties l w ∷ []) (sym (moved_on before awards v)))

-- one round more
pub rounds_more : (qe : ℕ) (parties : List Contestant) (awards : List Award) (old new : List Round) (i : ℕ) (d : Award) (averages : List AverageData) → i < length awards → old ≡ rounds_of qe parties [] (take i awards)
    → averages ≡ competing qe (take i awards) (get_or awards i d).phase parties → new ≡ old ++ (record { phase = (get_or awards i d).phase; party = (get_or awards i d).party; averages = averages }) ∷ []
    → new ≡ rounds_of qe parties [] (take (i + 1) awards)
rounds_more qe parties awards old new i d averages lt so_far compete pushed =
    let w = get_or awards i d in
    let make : List AverageData → Round = λ l. record { phase = w.phase; party = w.party; averages = l } in
    pushed
    ∙ ap (λ (l : List AverageData). old ++ make l ∷ []) compete
    ∙ ap (λ (l : List Round). l ++ round_of qe parties (take i awards) w ∷ []) so_far
    ∙ sym (rounds_behind qe parties [] (take i awards) w)
    ∙ ap (λ (l : List Award). rounds_of qe parties [] l) (sym (take_more awards i d lt))

pub awards_are : (qe : ℕ) (parties : List Contestant) (before awards : List Award) → awards_in (rounds_of qe parties before awards) ≡ awards
awards_are qe parties before [] = refl
awards_are qe parties before (w ∷ awards) = ap (λ (l : List Award). w ∷ l) (awards_are qe parties (before ++ w ∷ []) awards)

-- each of these rounds is the law's
each_behind : (contest : Contest) (qe : ℕ) (before awards : List Award) → first_phase qe contest.parties + length before + length awards ≤ contest.seats → EachFollows qe contest.parties before awards
    → EachBehind contest qe before (rounds_of qe contest.parties before awards)
each_behind contest qe before [] few each i r at = absurd (cc)
each_behind contest qe before (w ∷ awards) few each zero r at =
    let same : round_of qe contest.parties before w ≡ r = some_same _ _ at in
    let here : IsLawful contest qe before (round_of qe contest.parties before w) = record { left = omega (arith, few); award = each.0; averages = refl } in
    subst (λ (l : List Award). IsLawful contest qe l r) (sym (append-nil before)) (subst (λ (x : Round). IsLawful contest qe before x) same here)
each_behind contest qe before (w ∷ awards) few each (suc i) r at =
    let rounds = rounds_of qe contest.parties (before ++ w ∷ []) awards in
    let len = length-append before (w ∷ []) in
    let found = each_behind contest qe (before ++ w ∷ []) awards (omega (arith, few, len)) each.1 i r at in
    subst (λ (l : List Award). IsLawful contest qe l r) (sym (moved_on before (awards_in (take i rounds)) w)) found

-- the certificate of given seats is valid
pub certified : (contest : Contest) (s : SeatsData) → AreSeats contest s → IsValid contest (certificate_of contest s)
certified contest s given =
    let sum = first-sum s.quotient contest.parties in
    let awards = awards_are s.quotient contest.parties [] s.awards in
    let count : length (rounds_of s.quotient contest.parties [] s.awards) ≡ length s.awards = sym (length-map (rounds_of s.quotient contest.parties [] s.awards) award_in) ∙ ap (λ (l : List Award). length l) awards in
    record {
      quotient = record { some = omega (arith, given.some, given.quotient); told = given.quotient };
      first = refl;
      rounds = each_behind contest s.quotient [] s.awards (omega (arith, given.within, given.rounds.all)) given.rounds.each;
      all = omega (arith, sum, count, given.rounds.all, given.within);
      vacant = λ h. subst (λ (l : List Award). NobodyLeft s.quotient contest.parties l) (sym awards) (given.rounds.vacant_only h);
    }

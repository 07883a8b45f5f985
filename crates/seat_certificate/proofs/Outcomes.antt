-- A valid certificate tells the outcome of its contest.
use Rattle.std.proofs.Common.{◌≡◌, ℕ, ◌+◌, ◌==◌, cond, List, [], ◌∷◌, map, sum_by, count_by, refl, sym, ap, ◌∙◌, subst, arith}
use Rattle.std.proofs.lemmas.List.{length-map}
use Rattle.std.proofs.lemmas.List.Sums.{sum_by-cons}
use Rattle.seat_remainders.specs.declared.contest.Contest.{Contest}
use Rattle.seat_remainders.specs.declared.contest.Contestant.{Contestant}
use Rattle.seat_remainders.specs.declared.outcome.Award.{Award}
use Rattle.seat_remainders.specs.declared.outcome.Outcome.{Outcome}
use Rattle.seat_remainders.specs.declared.outcome.Outcome.TheVariants as outcome
use Rattle.seat_remainders.specs.declared.outcome.Seats.{Seats as SeatsData}
use Rattle.seat_remainders.specs.Computed.{averages_with}
use Rattle.seat_remainders.specs.Outcome.{AreSeats, IsOutcome, elected_by, party_seats}
use Rattle.seat_remainders.specs.Parties.{first_phase, first_seats}
use Rattle.seat_remainders.specs.Rounds.{seats_after}
use Rattle.seat_remainders.proofs.ComputedTable.{computed_averages}
use Rattle.seat_remainders.proofs.OneOutcome.{only_outcome}
use Rattle.seat_certificate.specs.declared.certificate.Certificate.{Certificate}
use Rattle.seat_certificate.specs.declared.certificate.FirstLine.{FirstLine}
use Rattle.seat_certificate.specs.declared.certificate.Round.{Round}
use Rattle.seat_certificate.specs.Certificate.{award_in, awards_in, first_line, first_lines}
use Rattle.seat_certificate.specs.Laws.{Tells, seats_told}
use Rattle.seat_certificate.specs.Valid.{IsValid}
use Rattle.seat_certificate.proofs.Lawful.{EachBehind, follow, same_rounds}

pub first-sum : (qe : ℕ) (parties : List Contestant) → sum_by (λ (l : FirstLine). l.seats) (first_lines qe parties) ≡ first_phase qe parties
first-sum qe [] = refl
first-sum qe (p ∷ parties) =
    let one = sum_by-cons (λ (l : FirstLine). l.seats) (first_line qe p) (first_lines qe parties) in
    let two = sum_by-cons (first_seats qe) p parties in
    let others = first-sum qe parties in
    omega arith

-- the seats that a certificate tells
abbrev seats_by : Contest → Certificate → SeatsData
seats_by contest c = record {
  quotient = c.quotient;
  parties = map (party_seats c.quotient (awards_in c.rounds)) contest.parties;
  awards = awards_in c.rounds;
  elected = elected_by c.quotient (awards_in c.rounds) contest.parties;
  vacant = c.vacant;
  averages = averages_with contest c.quotient;
}

pub gives_seats : (contest : Contest) (c : Certificate) → IsValid contest c → AreSeats contest (seats_by contest c)
gives_seats contest c v =
    let first = ap (λ (l : List FirstLine). sum_by (λ s. s.seats) l) v.first ∙ first-sum c.quotient contest.parties in
    let count = length-map c.rounds award_in in
    record {
      quotient = v.quotient.told;
      some = omega (arith, v.quotient.some, v.quotient.told);
      within = omega (arith, v.all);
      rounds = record { each = follow contest c.quotient [] c.rounds v.rounds; all = omega (arith, v.all); vacant_only = v.vacant };
      parties = refl;
      elected = refl;
      averages = computed_averages contest c.quotient v.quotient.told;
    }

-- ---- the seats of each bloc

taken : (n : ℕ) (rounds : List Round) → count_by (λ r. r.party == n) rounds ≡ count_by (λ w. w.party == n) (awards_in rounds)
taken n [] = refl
taken n (r ∷ rounds) =
    let one = sum_by-cons (λ (r : Round). cond (r.party == n) 1 0) r rounds in
    let two = sum_by-cons (λ (w : Award). cond (w.party == n) 1 0) (award_in r) (awards_in rounds) in
    one ∙ ap (λ (m : ℕ). cond (r.party == n) 1 0 + m) (taken n rounds) ∙ sym two

pub seats-same : (qe : ℕ) (rounds : List Round) (p : Contestant) → first_seats qe p + count_by (λ r. r.party == p.number) rounds ≡ seats_after qe (awards_in rounds) p
seats-same qe rounds p = ap (λ (m : ℕ). first_seats qe p + m) (taken p.number rounds)

blocs_are : (qe : ℕ) (awards : List Award) (parties : List Contestant) → map (λ (l : FirstLine). l.party) (first_lines qe parties) ≡ map (λ p. p.number) (map (party_seats qe awards) parties)
blocs_are qe awards [] = refl
blocs_are qe awards (p ∷ parties) = ap (λ (l : List ℕ). p.number ∷ l) (blocs_are qe awards parties)

seats_are : (qe : ℕ) (rounds : List Round) (parties : List Contestant)
    → map (λ (l : FirstLine). l.seats + count_by (λ r. r.party == l.party) rounds) (first_lines qe parties) ≡ map (λ p. p.seats) (map (party_seats qe (awards_in rounds)) parties)
seats_are qe rounds [] = refl
seats_are qe rounds (p ∷ parties) =
    ap (λ (n : ℕ). n ∷ map (λ (l : FirstLine). l.seats + count_by (λ r. r.party == l.party) rounds) (first_lines qe parties)) (seats-same qe rounds p)
    ∙ ap (λ (l : List ℕ). seats_after qe (awards_in rounds) p ∷ l) (seats_are qe rounds parties)

tells : (contest : Contest) (c : Certificate) → IsValid contest c → Tells c (seats_by contest c)
tells contest c v =
    record {
      quotient = refl;
      blocs = ap (λ (l : List FirstLine). map (λ l. l.party) l) v.first ∙ blocs_are c.quotient (awards_in c.rounds) contest.parties;
      seats = ap (λ (l : List FirstLine). map (seats_told c) l) v.first ∙ seats_are c.quotient c.rounds contest.parties;
      awards = refl;
      vacant = refl;
    }

pub tells_outcome : (contest : Contest) (c : Certificate) (o : Outcome) → IsValid contest c → IsOutcome contest o → (s : SeatsData) × (o ≡ outcome.Seats s) × Tells c s
tells_outcome contest c o v is =
    (seats_by contest c, only_outcome contest o is ∙ sym (only_outcome contest (outcome.Seats (seats_by contest c)) (gives_seats contest c v)), tells contest c v)

-- ---- one certificate

abbrev seats_in : SeatsData → Outcome → SeatsData
seats_in d (outcome.Seats s) = s
seats_in d (outcome.NoQuotient valid seats) = d
seats_in d (outcome.Over first seats) = d

same_certificate : (c d : Certificate) → c.quotient ≡ d.quotient → c.first ≡ d.first → c.rounds ≡ d.rounds → c.vacant ≡ d.vacant → c ≡ d
same_certificate c d e f g h =
    let make : ℕ → List FirstLine → List Round → ℕ → Certificate = λ q l r v. record { quotient = q; first = l; rounds = r; vacant = v } in
    ap (λ q. make q c.first c.rounds c.vacant) e ∙ ap (λ l. make d.quotient l c.rounds c.vacant) f ∙ ap (λ r. make d.quotient d.first r c.vacant) g ∙ ap (λ v. make d.quotient d.first d.rounds v) h

pub one_certificate : (contest : Contest) (c d : Certificate) → IsValid contest c → IsValid contest d → c ≡ d
one_certificate contest c d v w =
    let one = only_outcome contest (outcome.Seats (seats_by contest c)) (gives_seats contest c v) in
    let two = only_outcome contest (outcome.Seats (seats_by contest d)) (gives_seats contest d w) in
    let same : seats_by contest c ≡ seats_by contest d = ap (λ (o : Outcome). seats_in (seats_by contest c) o) (one ∙ sym two) in
    let quotient : c.quotient ≡ d.quotient = v.quotient.told ∙ sym w.quotient.told in
    let rounds = subst (λ (q : ℕ). EachBehind contest q [] d.rounds) (sym quotient) w.rounds in
    same_certificate c d quotient
    (v.first ∙ ap (λ (q : ℕ). first_lines q contest.parties) quotient ∙ sym w.first)
    (same_rounds contest c.quotient [] c.rounds d.rounds v.rounds rounds (ap (λ (s : SeatsData). s.awards) same))
    (ap (λ (s : SeatsData). s.vacant) same)

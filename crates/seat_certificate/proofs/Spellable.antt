-- A valid certificate of a contest of few blocs has a text.
use Rattle.std.proofs.Common.{◌≡◌, ◌⊎◌, ℕ, suc, ◌+◌, ◌*◌, ◌^◌, ◌≤◌, ◌<◌, ◌==◌, Bool, true, false, List, [], ◌∷◌, length, map, take, filter, Some, inl, inr, refl, sym, ap, ◌∙◌, subst, arith}
use Rattle.std.specs.Prelude.{slice_get, slice_index, if◌then◌else◌, nat_le, ◌%◌}
use Rattle.std.specs.List.{AllByRecursion, Contains, list_any}
use Rattle.std.proofs.lemmas.Bool.{cases_Bool}
use Rattle.std.proofs.lemmas.List.{length-map}
use Rattle.std.proofs.lemmas.List.Sums.{count_by-le-length, get_or-le-sum_by}
use Rattle.std.proofs.Math.Nat.{div-le_self}
use Rattle.election_tables.specs.Offices.{code_proportional}
use Rattle.quotients.specs.Average.{AverageData}
use Rattle.quotients.specs.Quotients.{has_tenth}
use Rattle.seat_remainders.specs.declared.contest.Contest.{Contest}
use Rattle.seat_remainders.specs.declared.contest.Contestant.{Contestant}
use Rattle.seat_remainders.specs.declared.outcome.Award.{Award}
use Rattle.seat_remainders.specs.Contest.{IsContest, PartiesRise}
use Rattle.seat_remainders.specs.Parties.{first_phase, first_seats, quotient_of, valid_votes, votes_of}
use Rattle.seat_remainders.specs.Rounds.{average_of, is_eligible, meets_minimums, next_phase}
use Rattle.seat_remainders.proofs.Lists.{all_of_members, contains_first, contains_there, of_member}
use Rattle.seat_certificate.specs.declared.certificate.Certificate.{Certificate}
use Rattle.seat_certificate.specs.declared.certificate.FirstLine.{FirstLine}
use Rattle.seat_certificate.specs.declared.certificate.Round.{Round}
use Rattle.seat_certificate.specs.Certificate.{IsLawful, awards_in, competing, first_line, first_lines}
use Rattle.seat_certificate.specs.Text.{AverageFits, HasFewBlocs, HasText, IsBloc, LineFits, RiseAbove, RoundFits}
use Rattle.seat_certificate.specs.Valid.{IsValid}
use Rattle.seat_certificate.proofs.Members.{filter_member, map_member}

-- ---- blocs rise

lower : (a b : ℕ) (ns : List ℕ) → a ≤ b → RiseAbove b ns → RiseAbove a ns
lower a b [] le rise = tt
lower a b (n ∷ ns) le rise = (omega (arith, rise.0), rise.1)

-- each is lower than the next
above : (last : ℕ) (ns : List ℕ) → ((k : ℕ) → k < length ns → slice_index (last ∷ ns) k < slice_index (last ∷ ns) (suc k)) → RiseAbove last ns
above last [] h = tt
above last (n ∷ ns) h = (h 0 (omega arith), above n ns (λ k lt. h (suc k) (omega arith)))

filtered : (f : Contestant → Bool) (last : ℕ) (parties : List Contestant) → RiseAbove last (map (λ p. p.number) parties) → RiseAbove last (map (λ p. p.number) (filter f parties))
filtered f last [] rise = tt
filtered f last (p ∷ parties) rise = elim (cases_Bool (f p)) [
  | inl t ↦ rw t (rise.0, filtered f p.number parties rise.1)
  | inr g ↦ rw g (filtered f last parties (lower last p.number (map (λ p. p.number) parties) (omega (arith, rise.0)) rise.1))
]

numbers_of_lines : (qe : ℕ) (parties : List Contestant) → map (λ (l : FirstLine). l.party) (first_lines qe parties) ≡ map (λ p. p.number) parties
numbers_of_lines qe [] = refl
numbers_of_lines qe (p ∷ parties) = ap (λ (l : List ℕ). p.number ∷ l) (numbers_of_lines qe parties)

numbers_of_averages : (qe : ℕ) (before : List Award) (parties : List Contestant) → map (λ (a : AverageData). a.party) (map (average_of qe before) parties) ≡ map (λ p. p.number) parties
numbers_of_averages qe before [] = refl
numbers_of_averages qe before (p ∷ parties) = ap (λ (l : List ℕ). p.number ∷ l) (numbers_of_averages qe before parties)

-- ---- numbers are small

votes_few : (parties : List Contestant) (p : Contestant) → Contains parties p → votes_of p ≤ valid_votes parties
votes_few parties p (i, lt, at) = omega (arith, get_or-le-sum_by votes_of parties i p lt, ap votes_of at)

first_few : (qe : ℕ) (parties : List Contestant) (p : Contestant) → Contains parties p → first_seats qe p ≤ first_phase qe parties
first_few qe parties p (i, lt, at) = omega (arith, get_or-le-sum_by (first_seats qe) parties i p lt, ap (first_seats qe) at)

line_fits : (qe : ℕ) (parties : List Contestant) (p : Contestant) → Contains parties p → IsBloc p.number → length p.candidates < 2 ^ 32 → valid_votes parties ≤ 10 ^ 12 → LineFits (first_line qe p)
line_fits qe parties p at number few votes =
    let own = votes_few parties p at in
    let quotient = div-le_self (votes_of p) qe in
    let able = count_by-le-length (λ c. has_tenth c.votes qe) p.candidates in
    record { party = number; quotient = omega arith; able = omega arith; seats = omega arith }

average_fits : (qe : ℕ) (parties : List Contestant) (before : List Award) (p : Contestant) → Contains parties p → IsBloc p.number → valid_votes parties ≤ 10 ^ 12 → first_phase qe parties + length before < 200 → AverageFits (average_of qe before p)
average_fits qe parties before p at number votes few =
    let own = votes_few parties p at in
    let first = first_few qe parties p at in
    let taken = count_by-le-length (λ w. w.party == p.number) before in
    record { party = number; votes = omega arith; some = omega arith; divisor = omega arith }

-- ---- all lines of a certificate

lines_fit : (qe : ℕ) (all parties : List Contestant) → ((p : Contestant) → Contains parties p → Contains all p) → AllByRecursion (λ p. IsBloc p.number) parties → AllByRecursion (λ p. length p.candidates < 2 ^ 32) parties → valid_votes all ≤ 10 ^ 12
    → AllByRecursion LineFits (first_lines qe parties)
lines_fit qe all [] among numbers few votes = tt
lines_fit qe all (p ∷ parties) among numbers few votes =
    (line_fits qe all p (among p (contains_first p p parties refl)) numbers.0 few.0 votes, lines_fit qe all parties (λ q at. among q (contains_there p q parties at)) numbers.1 few.1 votes)

by_place : (P : Round → Type 0) (rounds : List Round) → ((i : ℕ) (r : Round) → slice_get rounds i ≡ Some r → P r) → AllByRecursion P rounds
by_place P [] h = tt
by_place P (r ∷ rounds) h = (h 0 r refl, by_place P rounds (λ i s at. h (suc i) s at))

phase_is : (qe : ℕ) (before : List Award) (parties : List Contestant) (n : ℕ) → n ≡ next_phase qe before parties → (n ≡ 2) ⊎ (n ≡ 3)
phase_is qe before parties n is = elim (cases_Bool (list_any (meets_minimums qe before) parties)) [
  | inl t ↦ inl (let h : next_phase qe before parties ≡ 2 = rw t refl in is ∙ h)
  | inr f ↦ inr (let h : next_phase qe before parties ≡ 3 = rw f refl in is ∙ h)
]

numbers_rise : (parties : List Contestant) → AllByRecursion (λ p. IsBloc p.number) parties → PartiesRise parties → RiseAbove 0 (map (λ p. p.number) parties)
numbers_rise [] numbers rise = tt
numbers_rise (p ∷ parties) numbers rise = (omega (arith, numbers.0.0), above p.number (map (λ p. p.number) parties) (λ k lt. let next : k + 1 ≡ suc k = omega arith in let l = map (λ (p : Contestant). p.number) (p ∷ parties) in subst (λ (n : ℕ). slice_index l k < slice_index l n) next (rise k (omega arith))))

round_fits : (contest : Contest) (qe : ℕ) (before : List Award) (r : Round) → IsContest contest → HasFewBlocs contest → IsLawful contest qe before r → RoundFits r
round_fits contest qe before r is few lawful =
    let p = lawful.award.0 in
    let takes = lawful.award.1 in
    let eligible = filter (is_eligible qe before r.phase) contest.parties in
    let number : IsBloc p.number = of_member (λ p. IsBloc p.number) contest.parties p few.numbers takes.stands in
    let room : first_phase qe contest.parties + length before < 200 = omega (arith, lawful.left, is.few) in
    let fit : AllByRecursion AverageFits (competing qe before r.phase contest.parties) =
    all_of_members AverageFits (competing qe before r.phase contest.parties) (λ a at.
    let found = map_member (average_of qe before) eligible a at in
    let stands = filter_member (is_eligible qe before r.phase) contest.parties found.0 found.1 in
    let bloc : IsBloc found.0.number = of_member (λ p. IsBloc p.number) contest.parties found.0 few.numbers stands.0 in
    subst AverageFits found.2 (average_fits qe contest.parties before found.0 stands.0 bloc is.votes room)) in
    let rise : RiseAbove 0 (map (λ (a : AverageData). a.party) (competing qe before r.phase contest.parties)) =
    subst (λ (l : List ℕ). RiseAbove 0 l) (sym (numbers_of_averages qe before eligible)) (filtered (is_eligible qe before r.phase) 0 contest.parties (numbers_rise contest.parties few.numbers is.rising)) in
    record {
      phase = phase_is qe before contest.parties r.phase takes.phase;
      party = subst IsBloc (sym takes.named) number;
      averages = subst (λ (l : List AverageData). AllByRecursion AverageFits l) (sym lawful.averages) fit;
      rise = subst (λ (l : List AverageData). RiseAbove 0 (map (λ a. a.party) l)) (sym lawful.averages) rise;
    }

one_at_most : (b : Bool) → (if b then 0 else 1) ≤ 1
one_at_most true = omega arith
one_at_most false = omega arith

quotient_few : (contest : Contest) → IsContest contest → quotient_of contest < 10 ^ 18
quotient_few contest is =
    let le = div-le_self (valid_votes contest.parties) contest.seats in
    let votes = is.votes in
    let more = one_at_most (nat_le (2 * (valid_votes contest.parties % contest.seats)) contest.seats) in
    omega arith

pub valid_has_text : (contest : Contest) (c : Certificate) (code : ℕ) → IsContest contest → HasFewBlocs contest → code_proportional code ≡ true → IsValid contest c → HasText code c
valid_has_text contest c code is few office v =
    let parties = contest.parties in
    let count = ap (λ (l : List FirstLine). length l) v.first ∙ length-map parties (first_line c.quotient) in
    let quotient = quotient_few contest is in
    let all = v.all in
    record {
      office = office;
      quotient = omega (arith, quotient, v.quotient.told);
      first = subst (λ (l : List FirstLine). AllByRecursion LineFits l) (sym v.first) (lines_fit c.quotient parties parties (λ p at. at) few.numbers few.candidates is.votes);
      few_lines = omega (arith, count, few.few);
      rise = subst (λ (l : List FirstLine). RiseAbove 0 (map (λ l. l.party) l)) (sym v.first) (subst (λ (l : List ℕ). RiseAbove 0 l) (sym (numbers_of_lines c.quotient parties)) (numbers_rise parties few.numbers is.rising));
      rounds = by_place RoundFits c.rounds (λ i r at. round_fits contest c.quotient (awards_in (take i c.rounds)) r is few (v.rounds i r at));
      few_rounds = omega (arith, all, is.few);
      vacant = omega (arith, all, is.few);
    }

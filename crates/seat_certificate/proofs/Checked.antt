-- What the check of lines and rounds finds
use Rattle.std.proofs.Common.{◌≡◌, ℕ, ◌+◌, ◌^◌, ◌≤◌, ◌<◌, ◌==◌, ◌&&◌, not, true, false, List, length, take, get_or, sum_by, Option, Some, None, inl, inr, refl, sym, ap, ◌∙◌, subst, arith}
use Rattle.std.specs.Prelude.{option_map, slice_get}
use Rattle.std.proofs.lemmas.Bool.{cases_order}
use Rattle.std.proofs.lemmas.Bool.Decides.{nat_tests}
use Rattle.std.specs.List.{Contains}
use Rattle.std.proofs.lemmas.List.{length-map, length-take, take_all, take-map, take-take}
use Rattle.std.proofs.lemmas.Option.{slice_get-get_or, slice_get-map, slice_get_past, slice_get_within}
use Rattle.quotients.specs.Average.{AverageData, comes_before}
use Rattle.seat_remainders.specs.declared.contest.Contest.{Contest}
use Rattle.seat_remainders.specs.declared.contest.Contestant.{Contestant}
use Rattle.seat_remainders.specs.declared.outcome.Award.{Award}
use Rattle.seat_remainders.specs.Parties.{first_phase, quotient_of, valid_votes}
use Rattle.quotients.specs.Quotients.{electoral_quotient}
use Rattle.seat_remainders.proofs.FirstPhase.{first_within}
use Rattle.seat_remainders.specs.Rounds.{next_phase}
use Rattle.seat_remainders.proofs.Lists.{of_member}
use Rattle.seat_certificate.specs.declared.certificate.Certificate.{Certificate}
use Rattle.seat_certificate.specs.declared.certificate.FirstLine.{FirstLine}
use Rattle.seat_certificate.specs.declared.certificate.Round.{Round}
use Rattle.seat_certificate.specs.Certificate.{EachIsLawful, IsLawful, award_in, awards_in, competing, first_line, first_lines}
use Rattle.seat_certificate.specs.Blocs.{TakesSeatOf, Unbeaten}
use Rattle.seat_certificate.specs.Valid.{HasQuotient, IsFirstWrongLine, IsFirstWrongRound}
use Rattle.seat_certificate.proofs.Outcomes.{first-sum}
use Rattle.seat_certificate.proofs.Lawful.{takes_from, takes_to}
use Rattle.seat_certificate.proofs.Members.{in_front, slice_get_some, some_same}

pub stands_here : {X : Type 0} (xs : List X) (i : ℕ) (x : X) → i < length xs → x ≡ get_or xs i x → slice_get xs i ≡ Some x
stands_here xs i x lt at = slice_get-get_or xs i x lt ∙ ap (λ (y : _). Some y) (sym at)

pub line_here : {X : Type 0} (xs : List X) (i : ℕ) (d : X) → i < length xs → slice_get xs i ≡ Some (get_or xs i d)
line_here xs i d lt = slice_get-get_or xs i d lt

-- ---- equality as the code tests it

pub four_differ : (a b c d e f g h : ℕ) → true ≡ not (a == b && (c == d && (e == f && g == h))) → a ≡ b → c ≡ d → e ≡ f → g ≡ h → ⊥
four_differ a b c d e f g h test p q r s = grind (arith, nat_tests)

pub three_differ : (a b c d e f : ℕ) → true ≡ not (a == b && (c == d && e == f)) → a ≡ b → c ≡ d → e ≡ f → ⊥
three_differ a b c d e f test p q r = grind (arith, nat_tests)

pub three_same : (a b c d e f : ℕ) → false ≡ not (a == b && (c == d && e == f)) → (a ≡ b) × ((c ≡ d) × (e ≡ f))
three_same a b c d e f test = (grind (arith, nat_tests), (grind (arith, nat_tests), grind (arith, nat_tests)))

-- ---- lines

pub line_of_law : (qe : ℕ) (parties : List Contestant) (i : ℕ) (p : Contestant) → i < length parties → p ≡ get_or parties i p → slice_get (first_lines qe parties) i ≡ Some (first_line qe p)
line_of_law qe parties i p lt at =
    slice_get-map (first_line qe) parties i
    ∙ ap (λ (o : Option Contestant). option_map (first_line qe) o) (slice_get-get_or parties i p lt ∙ ap (λ (q : Contestant). Some q) (sym at))

take-law : (qe : ℕ) (parties : List Contestant) (i : ℕ) → take i (first_lines qe parties) ≡ first_lines qe (take i parties)
take-law qe parties i = take-map (first_line qe) i parties

-- a missing line
pub missing_line : (qe : ℕ) (parties : List Contestant) (lines : List FirstLine) (i : ℕ) (p : Contestant) → i < length parties → p ≡ get_or parties i p → length lines ≤ i → take i lines ≡ first_lines qe (take i parties)
    → IsFirstWrongLine (first_lines qe parties) lines (i + 1)
missing_line qe parties lines i p lt at past front =
    let here = line_of_law qe parties i p lt at in
    let none = slice_get_past lines i past in
    record { place = i; number = refl; before = front ∙ sym (take-law qe parties i); wrong = λ e. absurd (cc) }

-- another line
pub other_line : (qe : ℕ) (parties : List Contestant) (lines : List FirstLine) (i : ℕ) (p : Contestant) (l : FirstLine) → i < length parties → p ≡ get_or parties i p → slice_get lines i ≡ Some l → (l ≡ first_line qe p → ⊥)
    → take i lines ≡ first_lines qe (take i parties) → IsFirstWrongLine (first_lines qe parties) lines (i + 1)
other_line qe parties lines i p l lt at stands other front =
    let here = line_of_law qe parties i p lt at in
    record { place = i; number = refl; before = front ∙ sym (take-law qe parties i); wrong = λ e. other (let same : Some l ≡ Some (first_line qe p) = sym stands ∙ e ∙ here in cc) }

-- one line too many
pub further_line : (qe : ℕ) (parties : List Contestant) (lines : List FirstLine) (n : ℕ) → n ≡ length parties → n < length lines → take n lines ≡ first_lines qe parties → IsFirstWrongLine (first_lines qe parties) lines (n + 1)
further_line qe parties lines n count more front =
    let len = length-map parties (first_line qe) in
    let none = slice_get_past (first_lines qe parties) n (omega arith) in
    record {
      place = n;
      number = refl;
      before = front ∙ sym (take_all n (first_lines qe parties) (omega arith));
      wrong = λ e. let within = slice_get_some lines n more in absurd (let k : Some within.0 ≡ None = sym within.1 ∙ e ∙ none in cc);
    }

-- ---- rounds

no_more : (rounds : List Round) (i k : ℕ) (s : Round) → i < k → slice_get (take (i + 1) rounds) k ≡ Some s → ⊥
no_more rounds i k s lt at =
    let within = slice_get_within (take (i + 1) rounds) k s at in
    let len = length-take (i + 1) rounds in
    omega (arith, within, len)

-- one round more that is the law's
pub round_more : (contest : Contest) (qe : ℕ) (rounds : List Round) (i : ℕ) (r : Round) → slice_get rounds i ≡ Some r → EachIsLawful contest qe (take i rounds) → IsLawful contest qe (awards_in (take i rounds)) r
    → EachIsLawful contest qe (take (i + 1) rounds)
round_more contest qe rounds i r stands each here k s at = elim (cases_order k i) [
  | inl e ↦
      let same : s ≡ r = some_same s r (sym at ∙ in_front rounds (i + 1) k (Some r) (omega arith) (ap (λ (n : ℕ). slice_get rounds n) e ∙ stands)) in
      let front : take k (take (i + 1) rounds) ≡ take i rounds = take-take k (i + 1) rounds (omega arith) ∙ ap (λ (n : ℕ). take n rounds) e in
      subst (λ (l : List Round). IsLawful contest qe (awards_in l) s) (sym front) (subst (λ (x : Round). IsLawful contest qe (awards_in (take i rounds)) x) (sym same) here)
  | inr w ↦ elim w [
    | inl lt ↦
        let front : take k (take (i + 1) rounds) ≡ take k (take i rounds) = take-take k (i + 1) rounds (omega arith) ∙ sym (take-take k i rounds (omega arith)) in
        subst (λ (l : List Round). IsLawful contest qe (awards_in l) s) (sym front) (each k s (in_front rounds i k (Some s) lt (sym (in_front rounds (i + 1) k (slice_get rounds k) (omega arith) refl) ∙ at)))
    | inr gt ↦ absurd (no_more rounds i k s gt at)
  ]
]

pub wrong_round : (contest : Contest) (qe : ℕ) (rounds : List Round) (i : ℕ) (r : Round) → slice_get rounds i ≡ Some r → EachIsLawful contest qe (take i rounds) → (IsLawful contest qe (awards_in (take i rounds)) r → ⊥)
    → IsFirstWrongRound contest qe rounds (i + 1)
wrong_round contest qe rounds i r stands each wrong = record { place = i; number = refl; before = each; round = r; stands = stands; wrong = wrong }

-- ---- the seat of a round

-- a bloc's average that comes before this one
pub beaten : (averages : List AverageData) (a own : AverageData) → Contains averages a → comes_before a own ≡ true → Unbeaten averages own → ⊥
beaten averages a own at before unbeaten = let none = of_member (λ x. comes_before x own ≡ false) averages a unbeaten at in absurd (cc)

-- ---- a round

pub lawful : (contest : Contest) (qe : ℕ) (before : List Award) (r : Round) → first_phase qe contest.parties + length before < contest.seats → r.phase ≡ next_phase qe before contest.parties
    → r.averages ≡ competing qe before r.phase contest.parties → TakesSeatOf r.averages r.party → IsLawful contest qe before r
lawful contest qe before r left phase averages takes =
    record {
      left = left;
      award = takes_to qe contest.parties before (award_in r) phase (subst (λ (l : List AverageData). TakesSeatOf l r.party) averages takes);
      averages = averages;
    }

pub lawful_seat : (contest : Contest) (qe : ℕ) (before : List Award) (r : Round) → IsLawful contest qe before r → TakesSeatOf r.averages r.party
lawful_seat contest qe before r is =
    subst (λ (l : List AverageData). TakesSeatOf l r.party) (sym is.averages) (takes_from qe contest.parties before (award_in r) is.award.0 is.award.1)

pub lines_few : (qe : ℕ) (parties : List Contestant) (lines : List FirstLine) → 1 ≤ qe → valid_votes parties ≤ 10 ^ 12 → lines ≡ first_lines qe parties → (sum_by (λ l. l.seats) lines ≡ first_phase qe parties) × (sum_by (λ l. l.seats) lines ≤ 10 ^ 12)
lines_few qe parties lines some votes same =
    let sum = ap (λ (l : List FirstLine). sum_by (λ x. x.seats) l) same ∙ first-sum qe parties in
    let few = first_within qe parties some in
    (sum, omega (arith, sum, few))

-- ---- a certificate

-- what holds where neither the quotient nor a line nor a round is wrong
pub so_far : (contest : Contest) (c : Certificate) (qe valid : ℕ) (parties : List Contestant) (lines : List FirstLine) (rounds : List Round) → valid ≡ valid_votes contest.parties → qe ≡ electoral_quotient valid contest.seats → 1 ≤ qe → c.quotient ≡ qe
    → parties ≡ contest.parties → lines ≡ c.first → rounds ≡ c.rounds → lines ≡ first_lines qe parties → EachIsLawful contest qe rounds
    → HasQuotient contest c × (c.first ≡ first_lines c.quotient contest.parties) × EachIsLawful contest c.quotient c.rounds
so_far contest c qe valid parties lines rounds votes is some told blocs listed turns first each =
    let of_contest : qe ≡ quotient_of contest = is ∙ ap (λ (v : ℕ). electoral_quotient v contest.seats) votes in (
      record { some = omega (arith, some, of_contest); told = told ∙ of_contest },
      sym listed ∙ first ∙ ap (λ (l : List Contestant). first_lines qe l) blocs ∙ ap (λ (q : ℕ). first_lines q contest.parties) (sym told),
      subst (λ (q : ℕ). EachIsLawful contest q c.rounds) (sym told) (subst (λ (l : List Round). EachIsLawful contest qe l) turns each),
    )

-- the seats are added as they are told
pub added : (c : Certificate) (lines : List FirstLine) (rounds : List Round) (first vacant : ℕ) → first ≡ sum_by (λ l. l.seats) lines → vacant ≡ c.vacant → lines ≡ c.first → rounds ≡ c.rounds
    → first + length rounds + vacant ≡ sum_by (λ l. l.seats) c.first + length c.rounds + c.vacant
added c lines rounds first vacant sum left listed turns =
    let seats = sum ∙ ap (λ (l : List FirstLine). sum_by (λ x. x.seats) l) listed in
    let count = ap (λ (l : List Round). length l) turns in
    omega (arith, seats, count, left)

-- What is said rightly is what one report says: the offices and the head.
use Rattle.std.proofs.Common.{◌≡◌, ℕ, ◌+◌, ◌-◌, ◌*◌, ◌/◌, ◌%◌, ◌<◌, ◌≤◌, Bool, true, false, List, [], ◌∷◌, ◌++◌, length, map, None, refl, sym, ap, ◌∙◌, subst, inl, inr, arith, append_assoc}
use Rattle.std.specs.Prelude.{nat_lt, nat_le, if◌then◌else◌, ◌==◌, ◌&&◌}
use Rattle.std.specs.List.{AllByRecursion, flat_map, sum_by, zip}
use Rattle.std.proofs.lemmas.Bool.Decides.{nat_tests}
use Rattle.std.proofs.lemmas.Bool.{leb-true, cases_Bool, eqb-true, lt-ltb, ltb-true}
use Rattle.std.proofs.lemmas.List.Sums.{sum_by-cons}
use Rattle.std.proofs.lemmas.List.{map-append, append-nil}
use Rattle.urna_base.specs.Moment.{is_between, is_date, is_moment}
use Rattle.urna_base.proofs.DigitLaws.{both_from_and}
use Rattle.election_tables.specs.Fields.{first_two}
use Rattle.election_tables.specs.Offices.{code_proportional}
use Rattle.poll_report.specs.Report.{IsReport, IsOfficeCount, MayCount, MayLegend, MayVote, votes_of, EachAfter, digits_in, numbers_of, is_above, may_have_code}
use Rattle.poll_report.specs.declared.report.Count.{Count}
use Rattle.poll_report.specs.declared.report.OfficeCount.{OfficeCount}
use Rattle.poll_report.proofs.Totals.{votes_cons}
use Rattle.qr_text.specs.Fault.{failing}
use Rattle.qr_text.specs.Laws.{SaidIsReport}
use Rattle.qr_text.specs.Reported.{legends, told_office, told_report}
use Rattle.qr_text.specs.Said.{ReportField, Equals, Holds, IsSaid, IsSaidOffice, MayOffice, MayParty, MayVoteIn, moment, all_nominal, all_legend, codes_in, fields, head_values, head_field, vote_field, party_fields, votes_fields, sum_fields, office_fields}
use Rattle.qr_text.specs.Spelling.{said, said_office, said_parties, candidates_of_party, party_votes}
use Rattle.qr_text.specs.Table.{is_time, head_rows}
use Rattle.qr_text.specs.declared.said.Said.{Said}
use Rattle.qr_text.specs.declared.said.SaidOffice.{SaidOffice}
use Rattle.qr_text.specs.declared.said.SaidParty.{SaidParty}
use Rattle.qr_text.proofs.Regrouping.{Tells, Parties, Rising, InRange, Right, AllAbove, all_candidates, again}
use Rattle.qr_text.proofs.Reporting.{Pass}
use Rattle.qr_text.proofs.RowLaws.{time_small}
use Rattle.qr_text.proofs.Saying.{zero_of, Grouped, grouped, votes_append, above_snoc, above_front, party_numbers}

-- ---- what passed tests say

equal_from : (a b : ℕ) → failing (Equals a b ∷ []) ≡ None → a ≡ b
equal_from a b h = elim (cases_Bool (a == b)) [
  | inl e ↦ eqb-true a b e
  | inr e ↦ let wrong = rw e at h in absurd (cc)
]

both_from : (a b c : ℕ) → failing (Equals a c ∷ Equals b c ∷ []) ≡ None → (a ≡ c) × (b ≡ c)
both_from a b c h = elim (cases_Bool (a == c)) [
  | inl e ↦ let rest : failing (Equals b c ∷ []) ≡ None = rw e at h in (eqb-true a c e, equal_from b c rest)
  | inr e ↦ let wrong = rw e at h in absurd (cc)
]

order_from : (a b : ℕ) → failing (Holds (nat_le a b) ∷ []) ≡ None → a ≤ b
order_from a b h = elim (cases_Bool (nat_le a b)) [
  | inl e ↦ leb-true a b e
  | inr e ↦ let wrong = rw e at h in absurd (cc)
]

pass_left : (a b : List ReportField) → Pass (a ++ b) → Pass a × Pass b
pass_left [] b h = (tt, h)
pass_left (f ∷ a) b h = let rest = pass_left a b h.1 in ((h.0, rest.0), rest.1)

-- the sums of an office that passed its tests
record SumsRight (s : Said) (b : Bool) (o : SaidOffice) : Type 0 where
  able : s.able ≡ o.able
  nominal : all_nominal o ≡ o.nominal
  legend : b ≡ true → all_legend o ≡ o.legend
  all : o.nominal + o.legend + o.blank + o.null_votes ≡ o.total
  came : s.came * o.places ≡ o.total

sums_right : (s : Said) (b : Bool) (o : SaidOffice) → Pass (sum_fields s b o) → SumsRight s b o
sums_right s true o h =
    let total = both_from (o.nominal + o.legend + o.blank + o.null_votes) (s.came * o.places) o.total h.1.1.1.1.1.0 in
    record {
      able = equal_from s.able o.able h.0;
      nominal = equal_from (all_nominal o) o.nominal h.1.0;
      legend = λ e. equal_from (all_legend o) o.legend h.1.1.0;
      all = total.0;
      came = total.1;
    }
sums_right s false o h =
    let total = both_from (o.nominal + o.legend + o.blank + o.null_votes) (s.came * o.places) o.total h.1.1.1.1.0 in
    record {
      able = equal_from s.able o.able h.0;
      nominal = equal_from (all_nominal o) o.nominal h.1.0;
      legend = λ e. absurd (cc);
      all = total.0;
      came = total.1;
    }

parties_right : (ps : List SaidParty) → Pass (flat_map party_fields ps) → Right ps
parties_right [] h = tt
parties_right (p ∷ ps) h =
    let both = pass_left (party_fields p) (flat_map party_fields ps) h in
    let inner = pass_left (map vote_field p.candidates) _ both.0.1 in
    (equal_from (votes_of p.candidates + p.legend) p.total inner.1.1.0, parties_right ps both.1)

-- ---- parties that may stand are parties that rise

are_parties : (digits : ℕ) (before ps : List SaidParty) → EachAfter (MayParty digits) before ps → Parties digits ps
are_parties digits before [] h = tt
are_parties digits before (p ∷ ps) h = (h.0.0, are_parties digits (before ++ p ∷ []) ps h.1)

party_range : (n : ℕ) → is_between 10 99 n ≡ true → (10 ≤ n) × (n < 10 + 90)
party_range n h = let low : 10 ≤ n = grind (arith, nat_tests) in let high : n ≤ 99 = grind (arith, nat_tests) in (low, omega arith)

in_range : (digits : ℕ) (ps : List SaidParty) → Parties digits ps → InRange 10 90 ps
in_range digits [] h = tt
in_range digits (p ∷ ps) h = (party_range p.number h.0.number, in_range digits ps h.1)

above_later : (digits : ℕ) (q : SaidParty) (before ps : List SaidParty) → EachAfter (MayParty digits) before ps
    → ((n : ℕ) → is_above (party_numbers before) n ≡ true → nat_lt q.number n ≡ true) → AllAbove q.number ps
above_later digits q before [] h a = tt
above_later digits q before (p ∷ ps) h a = (
  ltb-true q.number p.number (a p.number h.0.1),
  above_later digits q (before ++ p ∷ []) ps h.1
      (λ n l. a n (above_front (party_numbers before) p.number n (rw (map-append (λ (x : SaidParty). x.number) before (p ∷ [])) at l)).0),
)

are_rising : (digits : ℕ) (before ps : List SaidParty) → EachAfter (MayParty digits) before ps → Rising ps
are_rising digits before [] h = tt
are_rising digits before (p ∷ ps) h = (
  above_later digits p (before ++ p ∷ []) ps h.1
      (λ n l. (above_front (party_numbers before) p.number n (rw (map-append (λ (x : SaidParty). x.number) before (p ∷ [])) at l)).1),
  are_rising digits (before ++ p ∷ []) ps h.1,
)

-- ---- sums of the flattened lists

votes_flat : (ps : List SaidParty) → votes_of (all_candidates ps) ≡ sum_by (λ p. votes_of p.candidates) ps
votes_flat [] = refl
votes_flat (p ∷ ps) =
    let rest = votes_flat ps in
    let both = votes_append p.candidates (all_candidates ps) in
    let cons = sum_by-cons (λ (q : SaidParty). votes_of q.candidates) p ps in
    omega arith

legends_sum : (ps : List SaidParty) → votes_of (legends ps) ≡ sum_by (λ p. p.legend) ps
legends_sum [] = refl
legends_sum (p ∷ ps) =
    let rest = legends_sum ps in
    let cons = sum_by-cons (λ (q : SaidParty). q.legend) p ps in
    elim (cases_Bool (nat_lt 0 p.legend)) [
      | inl e ↦ let one = votes_cons (record { number = p.number; votes = p.legend }) (legends ps) in rw e (omega arith)
      | inr e ↦ let none = zero_of p.legend e in rw e (omega arith)
    ]

-- ---- an office again

-- an office with the same parts
same_office : (o : SaidOffice) (candidates : List Count) (parties : List SaidParty) (able nominal legend total : ℕ)
    → candidates ≡ o.candidates → parties ≡ o.parties → able ≡ o.able → nominal ≡ o.nominal → legend ≡ o.legend → total ≡ o.total
    → record {
      code = o.code;
      places = o.places;
      candidates = candidates;
      parties = parties;
      able = able;
      nominal = nominal;
      legend = legend;
      blank = o.blank;
      null_votes = o.null_votes;
      total = total;
    } ≡ o
same_office o candidates parties able nominal legend total c p a n l t =
    ap (λ (x : List Count). record o
    { candidates = x; parties = parties; able = able; nominal = nominal; legend = legend; total = total }) c
    ∙ (ap (λ (x : List SaidParty). record o { parties = x; able = able; nominal = nominal; legend = legend; total = total }) p
    ∙ (ap (λ (x : ℕ). record o { able = x; nominal = nominal; legend = legend; total = total }) a
    ∙ (ap (λ (x : ℕ). record o { nominal = x; legend = legend; total = total }) n
    ∙ (ap (λ (x : ℕ). record o { legend = x; total = total }) l
    ∙ ap (λ (x : ℕ). record o { total = x }) t))))

-- what the flattened office says, of this kind and with so many voters
abbrev again_of : Bool → ℕ → SaidOffice → SaidOffice
again_of b able o =
    let c : OfficeCount = told_office o in
    record {
      code = o.code;
      places = o.places;
      candidates = if b then [] else c.nominal;
      parties = if b then said_parties c else [];
      able = able;
      nominal = votes_of c.nominal;
      legend = votes_of c.parties;
      blank = o.blank;
      null_votes = o.null_votes;
      total = votes_of c.nominal + votes_of c.parties + o.blank + o.null_votes;
    }

nominal_of : (o : SaidOffice) → votes_of (told_office o).nominal ≡ all_nominal o
nominal_of o = let both = votes_append o.candidates (all_candidates o.parties) in let flat = votes_flat o.parties in omega arith

-- and that is the office
office_again : (s : Said) (o : SaidOffice) (b : Bool) → IsSaidOffice o → code_proportional o.code ≡ b → Pass (votes_fields b o)
    → SumsRight s b o → again_of b s.able o ≡ o
office_again s o true h e votes sums =
    let digits : ℕ = digits_in o.code in
    let none = h.proportional e in
    let are = are_parties digits [] o.parties h.parties in
    let flat : (told_office o).nominal ≡ all_candidates o.parties = ap (λ (l : List Count). l ++ all_candidates o.parties) none in
    let tells : Tells digits (λ k. candidates_of_party digits k (told_office o).nominal) (λ k. party_votes k (legends o.parties)) 10 o.parties =
    λ k l. (ap (λ (x : List Count). candidates_of_party digits k x) flat, refl) in
    let parties = again digits (λ k. candidates_of_party digits k (told_office o).nominal) (λ k. party_votes k (legends o.parties)) 90 10 o.parties
    tells are (parties_right o.parties votes) (are_rising digits [] o.parties h.parties) (in_range digits o.parties are) in
    let nominal = nominal_of o ∙ sums.nominal in
    let legend = legends_sum o.parties ∙ sums.legend refl in
    let all = sums.all in
    same_office o [] (said_parties (told_office o)) s.able _ _ _ (sym none) parties sums.able nominal legend (omega arith)
office_again s o false h e votes sums =
    let none = h.majority e in
    let nominal = nominal_of o ∙ sums.nominal in
    let legend : votes_of (legends o.parties) ≡ o.legend = ap (λ (ps : List SaidParty). votes_of (legends ps)) none.0 ∙ sym none.1 in
    let all = sums.all in
    let candidates = ap (λ (ps : List SaidParty). o.candidates ++ all_candidates ps) none.0 ∙ append-nil o.candidates in
    same_office o (told_office o).nominal [] s.able _ _ _ candidates (sym none.0) sums.able nominal legend (omega arith)

-- ---- the flattened office is an office of a report

-- all before are below the numbers that begin with k or more
abbrev Below : ℕ → ℕ → List Count → Type 0
Below digits k before = (n : ℕ) → k ≤ first_two digits n → is_above (numbers_of before) n ≡ true

numbers_append : (a b : List Count) → numbers_of (a ++ b) ≡ numbers_of a ++ numbers_of b
numbers_append [] b = refl
numbers_append (c ∷ a) b = ap (λ (l : List ℕ). c.number ∷ l) (numbers_append a b)

above_both : (a b : List ℕ) (n : ℕ) → is_above a n ≡ true → is_above b n ≡ true → is_above (a ++ b) n ≡ true
above_both [] b n h g = g
above_both (x ∷ a) b n h g = let both = both_from_and (nat_lt x n) (is_above a n) h in rw (both.0, above_both a b n both.1 g) refl

not_less : (m n : ℕ) → nat_lt m n ≡ false → n ≤ m
not_less m n e = grind (arith, nat_tests)

strictly_less : (m n : ℕ) → (m == n) ≡ false → m ≤ n → m < n
strictly_less m n e h = grind (arith, nat_tests)

later_or_same : (digits : ℕ) → Grouped digits → (m n : ℕ) → m ≤ n → first_two digits m ≤ first_two digits n
later_or_same digits g m n h = elim (cases_Bool (m == n)) [
  | inl e ↦ let same = ap (λ (k : ℕ). first_two digits k) (eqb-true m n e) in omega arith
  | inr e ↦ g.ascends m n (strictly_less m n e h)
]

backwards : (digits : ℕ) → Grouped digits → (m n : ℕ) → first_two digits m < first_two digits n → nat_lt m n ≡ false → ⊥
backwards digits g m n h e = let back = later_or_same digits g n m (not_less m n e) in omega arith

not_above : (digits : ℕ) → Grouped digits → (m n : ℕ) → first_two digits m < first_two digits n → nat_lt m n ≡ true
not_above digits g m n h = elim (cases_Bool (nat_lt m n)) [
  | inl e ↦ e
  | inr e ↦ absurd (backwards digits g m n h e)
]

-- through the candidates of one party
flat_party : (digits k : ℕ) → Grouped digits → (before inner cs rest : List Count) → Below digits k before
    → EachAfter (MayVoteIn digits k) inner cs
    → ((all : List Count) → all ≡ inner ++ cs → EachAfter (MayVote digits) (before ++ all) rest)
    → EachAfter (MayVote digits) (before ++ inner) (cs ++ rest)
flat_party digits k g before inner [] rest b h next = next inner (sym (append-nil inner))
flat_party digits k g before inner (c ∷ cs) rest b h next =
    let from : k ≤ first_two digits c.number = let same = h.0.0 in omega arith in
    let here : is_above (numbers_of (before ++ inner)) c.number ≡ true =
    rw (numbers_append before inner) (above_both (numbers_of before) (numbers_of inner) c.number (b c.number from) h.0.1.1) in
    let P : List Count → Type 0 = λ l. EachAfter (MayVote digits) l (cs ++ rest) in (
      (h.0.1.0, here),
      subst P (sym (append_assoc before inner (c ∷ [])))
          (flat_party digits k g before (inner ++ c ∷ []) cs rest b h.1 (λ all e. next all (e ∙ append_assoc inner (c ∷ []) cs))),
    )

-- the candidates of a party are below those of later ones
below_later : (digits k j : ℕ) → Grouped digits → (inner cs : List Count) → k < j → EachAfter (MayVoteIn digits k) inner cs → (n : ℕ)
    → j ≤ first_two digits n → is_above (numbers_of cs) n ≡ true
below_later digits k j g inner [] less h n l = refl
below_later digits k j g inner (c ∷ cs) less h n l =
    let same = h.0.0 in
    let here = not_above digits g c.number n (omega arith) in
    rw (here, below_later digits k j g (inner ++ c ∷ []) cs less h.1 n l) refl

-- before parties that are all from k on
abbrev From : ℕ → List SaidParty → Type 0
From k ps = AllByRecursion (λ p. k ≤ p.number) ps

next_from : (k : ℕ) (ps : List SaidParty) → AllAbove k ps → From (k + 1) ps
next_from k [] h = tt
next_from k (p ∷ ps) h = (let l = h.0 in omega arith, next_from k ps h.1)

flat_may : (digits : ℕ) → Grouped digits → (k : ℕ) (before : List Count) (ps : List SaidParty) → Below digits k before → From k ps
    → Parties digits ps → Rising ps → EachAfter (MayVote digits) before (all_candidates ps)
flat_may digits g k before [] b f h r = tt
flat_may digits g k before (p ∷ ps) b f h r =
    let P : List Count → Type 0 = λ l. EachAfter (MayVote digits) l (p.candidates ++ all_candidates ps) in
    let here : Below digits p.number before = λ n l. b n (let from = f.0 in omega arith) in
    subst P (append-nil before)
    (flat_party digits p.number g before [] p.candidates (all_candidates ps) here h.0.candidates
    (λ all e. let Q : List Count → Type 0 = λ l. EachAfter (MayVote digits) (before ++ l) (all_candidates ps) in
    subst Q (sym e) (flat_may digits g (p.number + 1) (before ++ p.candidates) ps
    (λ n l. rw (numbers_append before p.candidates)
    (above_both (numbers_of before) (numbers_of p.candidates) n (here n (omega arith))
    (below_later digits p.number (p.number + 1) g [] p.candidates (omega arith) h.0.candidates n l)))
    (next_from p.number ps r.0) h.1 r.1)))

vote_range : (n : ℕ) → nat_lt 0 n ≡ true → is_between 0 9999 n ≡ true → is_between 1 9999 n ≡ true
vote_range n h g = grind (arith, nat_tests)

still_above : (before : List Count) (c : Count) (ps : List SaidParty) → AllAbove c.number ps
    → AllByRecursion (λ p. is_above (numbers_of before) p.number ≡ true) ps
    → AllByRecursion (λ p. is_above (numbers_of (before ++ c ∷ [])) p.number ≡ true) ps
still_above before c [] l a = tt
still_above before c (p ∷ ps) l a = (
  rw (map-append (λ (x : Count). x.number) before (c ∷ []))
      (above_snoc (numbers_of before) c.number p.number a.0 (lt-ltb c.number p.number l.0)),
  still_above before c ps l.1 a.1,
)

legends_may : (digits : ℕ) (before : List Count) (ps : List SaidParty) → Parties digits ps → Rising ps
    → AllByRecursion (λ p. is_above (numbers_of before) p.number ≡ true) ps → EachAfter MayLegend before (legends ps)
legends_may digits before [] h r a = tt
legends_may digits before (p ∷ ps) h r a =
    elim (cases_Bool (nat_lt 0 p.legend)) [
      | inl e ↦
          let c : Count = record { number = p.number; votes = p.legend } in
          rw e (
            (h.0.number, vote_range p.legend e h.0.legend, a.0),
            legends_may digits (before ++ c ∷ []) ps h.1 r.1 (still_above before c ps r.0 a.1),
          )
      | inr e ↦ rw e (legends_may digits before ps h.1 r.1 a.1)
    ]

none_before : (ps : List SaidParty) → AllByRecursion (λ p. is_above [] p.number ≡ true) ps
none_before [] = tt
none_before (p ∷ ps) = (refl, none_before ps)

from_ten : (digits : ℕ) (ps : List SaidParty) → Parties digits ps → From 0 ps
from_ten digits [] h = tt
from_ten digits (p ∷ ps) h = (omega arith, from_ten digits ps h.1)

at_most_9999 : (n : ℕ) → is_between 0 9999 n ≡ true → n ≤ 9999
at_most_9999 n h = grind (arith, nat_tests)

-- the flattened office is one that a report can have
count_is : (s : Said) (o : SaidOffice) (b : Bool) → IsSaidOffice o → code_proportional o.code ≡ b → SumsRight s b o
    → IsOfficeCount s.came (told_office o)
count_is s o true h e sums =
    let digits : ℕ = digits_in o.code in
    let are = are_parties digits [] o.parties h.parties in
    let rising = are_rising digits [] o.parties h.parties in
    let P : List Count → Type 0 = λ l. EachAfter (MayVote digits) [] (l ++ all_candidates o.parties) in
    let nominal = nominal_of o ∙ sums.nominal in
    let legend = legends_sum o.parties ∙ sums.legend refl in
    let all = sums.all in let came = sums.came in
    record {
      nominal = subst P (sym (h.proportional e))
          (flat_may digits (grouped o.code e) 0 [] o.parties (λ n l. refl) (from_ten digits o.parties are) are rising);
      parties = legends_may digits [] o.parties are rising (none_before o.parties);
      majority = λ other. let clash : true ≡ false = sym e ∙ other in absurd (cc);
      places = h.places;
      total = omega arith;
      few = let most = at_most_9999 o.total h.total in omega arith;
    }
count_is s o false h e sums =
    let none = h.majority e in
    let digits : ℕ = digits_in o.code in
    let P : List Count → Type 0 = λ l. EachAfter (MayVote digits) [] l in
    let candidates : (told_office o).nominal ≡ o.candidates = ap (λ (ps : List SaidParty). o.candidates ++ all_candidates ps) none.0
    ∙ append-nil o.candidates in
    let parties : legends o.parties ≡ [] = ap (λ (ps : List SaidParty). legends ps) none.0 in
    let Q : List Count → Type 0 = λ l. EachAfter MayLegend [] l in
    let nominal = nominal_of o ∙ sums.nominal in
    let legend : votes_of (legends o.parties) ≡ o.legend = ap (λ (l : List Count). votes_of l) parties ∙ sym none.1 in
    let all = sums.all in let came = sums.came in
    record {
      nominal = subst P (sym candidates) h.candidates;
      parties = subst Q (sym parties) tt;
      majority = λ other. parties;
      places = h.places;
      total = omega arith;
      few = let most = at_most_9999 o.total h.total in omega arith;
    }

-- ---- all offices

codes_same : (os : List SaidOffice) → map (λ c. c.code) (map told_office os) ≡ codes_in os
codes_same [] = refl
codes_same (o ∷ os) = ap (λ (l : List ℕ). o.code ∷ l) (codes_same os)

-- the tests of an office pass
record OfficePass (s : Said) (o : SaidOffice) : Type 0 where
  votes : Pass (votes_fields (code_proportional o.code) o)
  sums : SumsRight s (code_proportional o.code) o

office_pass : (s : Said) (o : SaidOffice) → Pass (office_fields s o) → OfficePass s o
office_pass s o h =
    let both = pass_left (votes_fields (code_proportional o.code) o) (sum_fields s (code_proportional o.code) o) h.1.1 in
    record { votes = both.0; sums = sums_right s (code_proportional o.code) o both.1 }

offices_are : (s : Said) (before os : List SaidOffice) → EachAfter MayOffice before os → Pass (flat_map (office_fields s) os)
    → EachAfter (MayCount s.came) (map told_office before) (map told_office os)
offices_are s before [] h p = tt
offices_are s before (o ∷ os) h p =
    let both = pass_left (office_fields s o) (flat_map (office_fields s) os) p in
    let here = office_pass s o both.0 in
    let P : List ℕ → Type 0 = λ l. may_have_code l o.code ≡ true in
    let Q : List OfficeCount → Type 0 = λ l. EachAfter (MayCount s.came) l (map told_office os) in (
      (subst P (sym (codes_same before)) h.0.0, count_is s o (code_proportional o.code) h.0.1 refl here.sums),
      subst Q (map-append told_office before (o ∷ [])) (offices_are s (before ++ o ∷ []) os h.1 both.1),
    )

offices_again : (s : Said) (before os : List SaidOffice) → EachAfter MayOffice before os → Pass (flat_map (office_fields s) os)
    → map (said_office (told_report s)) (map told_office os) ≡ os
offices_again s before [] h p = refl
offices_again s before (o ∷ os) h p =
    let both = pass_left (office_fields s o) (flat_map (office_fields s) os) p in
    let here = office_pass s o both.0 in
    ap (λ (l : List SaidOffice). said_office (told_report s) (told_office o) ∷ l) (offices_again s (before ++ o ∷ []) os h.1 both.1)
    ∙ ap (λ (x : SaidOffice). x ∷ os) (office_again s o (code_proportional o.code) h.0.1 refl here.votes here.sums)

-- ---- the head

date_back : (d t : ℕ) → t < 1000000 → moment d t / 1000000 ≡ d
date_back d t h = omega arith

time_back : (d t : ℕ) → t < 1000000 → moment d t % 1000000 ≡ t
time_back d t h = omega arith

all_true : (a b c d : Bool) → a ≡ true → b ≡ true → c ≡ true → d ≡ true → (a && b && c && d) ≡ true
all_true true true true true p q r s = refl
all_true true true true false p q r s = absurd (cc)
all_true true true false d p q r s = absurd (cc)
all_true true false c d p q r s = absurd (cc)
all_true false b c d p q r s = absurd (cc)

three_true : (b c d : Bool) → (b && c && d) ≡ true → (b ≡ true) × (c ≡ true) × (d ≡ true)
three_true true true true h = (refl, refl, refl)
three_true true true false h = absurd (cc)
three_true true false d h = absurd (cc)
three_true false c d h = absurd (cc)

moment_is : (d t : ℕ) → is_date d ≡ true → is_time t ≡ true → is_moment (moment d t) ≡ true
unfolding is_moment
moment_is d t hd ht =
    let small = time_small t ht in
    let parts = three_true (is_between 0 23 (t / 10000)) (is_between 0 59 (t / 100 % 100)) (is_between 0 59 (t % 100)) ht in
    let day : moment d t / 1000000 ≡ d = date_back d t small in
    let hours : moment d t / 10000 % 100 ≡ t / 10000 = omega arith in
    let minutes : moment d t / 100 % 100 ≡ t / 100 % 100 = omega arith in
    let seconds : moment d t % 100 ≡ t % 100 = omega arith in
    all_true (is_date (moment d t / 1000000)) (is_between 0 23 (moment d t / 10000 % 100)) (is_between 0 59 (moment d t / 100 % 100))
    (is_between 0 59 (moment d t % 100))
    (ap (λ (n : ℕ). is_date n) day ∙ hd) (ap (λ (n : ℕ). is_between 0 23 n) hours ∙ parts.0)
    (ap (λ (n : ℕ). is_between 0 59 n) minutes ∙ parts.1) (ap (λ (n : ℕ). is_between 0 59 n) seconds ∙ parts.2)

-- the tests before the offices pass
record HeadRight (s : Said) : Type 0 where
  voters : s.came + s.missed ≡ s.able
  order : moment s.open_date s.open_time ≤ moment s.close_date s.close_time

head_right : (s : Said) → Pass (map (head_field s) (zip head_rows (head_values s))) → HeadRight s
unfolding head_rows
head_right s h = record {
  voters = equal_from (s.came + s.missed) s.able h.1.1.1.1.1.1.1.1.0;
  order = order_from _ _ h.1.1.1.1.1.1.1.1.1.1.1.1.0;
}

some_counts : (os : List SaidOffice) → 0 < length os → 0 < length (map told_office os)
some_counts [] h = h
some_counts (o ∷ os) h = omega arith

-- the report that was said can be spelled
report_is : (s : Said) → IsSaid s → HeadRight s → Pass (flat_map (office_fields s) s.offices) → IsReport (told_report s)
unfolding head_rows
report_is s h right pass =
    let f = h.head in
    let voters = right.voters in
    record {
      process = f.1.0;
      date = f.1.1.0;
      turn = f.1.1.1.0;
      zone = f.1.1.1.1.0;
      section = f.1.1.1.1.1.0;
      able = at_most_9999 s.able f.1.1.1.1.1.1.0;
      came = omega arith;
      opened = moment_is s.open_date s.open_time f.1.1.1.1.1.1.1.1.1.0 f.1.1.1.1.1.1.1.1.1.1.0;
      closed = moment_is s.close_date s.close_time f.1.1.1.1.1.1.1.1.1.1.1.0 f.1.1.1.1.1.1.1.1.1.1.1.1.0;
      order = right.order;
      some = some_counts s.offices h.some;
      offices = offices_are s [] s.offices h.offices pass;
    }

-- and says the same
said_again : (s : Said) → IsSaid s → HeadRight s → Pass (flat_map (office_fields s) s.offices) → said (told_report s) ≡ s
unfolding said head_rows
said_again s h right pass =
    let f = h.head in
    let voters = right.voters in
    let missed : s.able - s.came ≡ s.missed = omega arith in
    let opens = time_small s.open_time f.1.1.1.1.1.1.1.1.1.1.0 in
    let closes = time_small s.close_time f.1.1.1.1.1.1.1.1.1.1.1.1.0 in
    let m1 : ℕ = moment s.open_date s.open_time in
    let m2 : ℕ = moment s.close_date s.close_time in
    let os : List SaidOffice = map (said_office (told_report s)) (map told_office s.offices) in
    ap (λ (n : ℕ). record s {
      missed = n;
      open_date = m1 / 1000000;
      open_time = m1 % 1000000;
      close_date = m2 / 1000000;
      close_time = m2 % 1000000;
      offices = os;
    }) missed
    ∙ (ap (λ (n : ℕ). record s {
      open_date = n;
      open_time = m1 % 1000000;
      close_date = m2 / 1000000;
      close_time = m2 % 1000000;
      offices = os;
    }) (date_back s.open_date s.open_time opens)
    ∙ (ap (λ (n : ℕ). record s { open_time = n; close_date = m2 / 1000000; close_time = m2 % 1000000; offices = os })
    (time_back s.open_date s.open_time opens)
    ∙ (ap (λ (n : ℕ). record s { close_date = n; close_time = m2 % 1000000; offices = os }) (date_back s.close_date s.close_time closes)
    ∙ (ap (λ (n : ℕ). record s { close_time = n; offices = os }) (time_back s.close_date s.close_time closes)
    ∙ ap (λ (l : List SaidOffice). record s { offices = l }) (offices_again s [] s.offices h.offices pass)))))

pub said_is_report : SaidIsReport
unfolding fields
said_is_report s bytes says =
    let both = pass_left (map (head_field s) (zip head_rows (head_values s))) (flat_map (office_fields s) s.offices) says.sums in
    let right = head_right s both.0 in
    (told_report s, report_is s says.said right both.1, said_again s says.said right both.1)

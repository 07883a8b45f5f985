-- A report comes back from what it says.
use Rattle.std.proofs.Common.{◌≡◌, ℕ, ◌+◌, ◌/◌, ◌%◌, ◌<◌, ◌≤◌, Bool, true, false, List, [], ◌∷◌, ◌++◌, map, refl, sym, ap, ◌∙◌, subst, inl, inr, arith}
use Rattle.std.specs.Prelude.{nat_lt, ◌==◌}
use Rattle.std.specs.List.{AllByRecursion, flat_map, filter, range_with_len}
use Rattle.std.proofs.lemmas.Bool.Decides.{nat_tests}
use Rattle.std.proofs.lemmas.Bool.{cases_Bool, eqb-true, ltb-true}
use Rattle.std.proofs.lemmas.List.{map-append, append-nil}
use Rattle.urna_base.specs.Moment.{is_between}
use Rattle.urna_base.proofs.DigitLaws.{both_from_and}
use Rattle.election_tables.specs.Fields.{has_digits, first_two}
use Rattle.election_tables.specs.Offices.{code_proportional}
use Rattle.poll_report.specs.Report.{IsReport, IsOfficeCount, MayCount, MayLegend, MayVote, votes_of, EachAfter, digits_in, numbers_of, is_some_votes}
use Rattle.poll_report.specs.declared.report.Count.{Count}
use Rattle.poll_report.specs.declared.report.OfficeCount.{OfficeCount}
use Rattle.poll_report.specs.declared.report.Report.{Report}
use Rattle.poll_report.proofs.Totals.{votes_cons}
use Rattle.qr_text.specs.Laws.{OneReport}
use Rattle.qr_text.specs.Reported.{legends, told_office, told_report}
use Rattle.qr_text.specs.Said.{moment}
use Rattle.qr_text.specs.Spelling.{said, said_office, said_party, candidates_of_party, party_votes}
use Rattle.qr_text.specs.declared.said.Said.{Said}
use Rattle.qr_text.proofs.Grouping.{regroup, none_has}
use Rattle.qr_text.proofs.Reporting.{office_of, whole_moment}
use Rattle.qr_text.proofs.Saying.{zero_of, grouped, some_votes, within_by, ascends_by, within_parties, ascends_parties, numbers_later, above_front, no_votes}

-- ---- candidates

pub some_of : (n : ℕ) → is_between 1 9999 n ≡ true → 1 ≤ n
some_of n h = grind (arith, nat_tests)

-- where the candidates that pass have no votes there are none
no_candidates : (digits : ℕ) (p : Count → Bool) (before ns : List Count) → EachAfter (MayVote digits) before ns
    → votes_of (filter p ns) ≡ 0 → filter p ns ≡ []
no_candidates digits p before [] h z = refl
no_candidates digits p before (c ∷ ns) h z =
    let has = both_from_and (has_digits digits c.number) (is_some_votes c.votes) h.0.0 in
    elim (cases_Bool (p c)) [
      | inl e ↦
          let one = votes_cons c (filter p ns) in
          let none : votes_of (c ∷ filter p ns) ≡ 0 = rw e at z in
          let some = some_of c.votes has.1 in
          absurd (omega arith)
      | inr e ↦ let rest : votes_of (filter p ns) ≡ 0 = rw e at z in rw e (no_candidates digits p (before ++ c ∷ []) ns h.1 rest)
    ]

-- parties that are left out have no candidates
kept_candidates : (digits : ℕ) (o : OfficeCount) (ks : List ℕ) → EachAfter (MayVote digits) [] o.nominal
    → flat_map (λ p. p.candidates) (filter some_votes (map (said_party digits o) ks)) ≡ flat_map (λ k. candidates_of_party digits k o.nominal) ks
kept_candidates digits o [] h = refl
kept_candidates digits o (k ∷ ks) h =
    let rest = kept_candidates digits o ks h in
    elim (cases_Bool (some_votes (said_party digits o k))) [
      | inl e ↦ rw e (ap (λ (l : List Count). candidates_of_party digits k o.nominal ++ l) rest)
      | inr e ↦
          let none = no_candidates digits (λ c. first_two digits c.number == k) [] o.nominal h
          (no_votes (votes_of (candidates_of_party digits k o.nominal)) (party_votes k o.parties) e).0 in
          rw (e, none) rest
    ]

-- ---- party votes

-- the party votes of a party are one entry or none
single : (before ps : List Count) (k : ℕ) → EachAfter MayLegend before ps → (party_votes k ps ≡ 0 → filter (λ c. c.number == k) ps ≡ [])
    × (0 < party_votes k ps → filter (λ c. c.number == k) ps ≡ record { number = k; votes = party_votes k ps } ∷ [])
single before [] k h = (λ z. refl, λ s. absurd (omega arith))
single before (c ∷ ps) k h =
    let later = numbers_later c (before ++ c ∷ []) ps h.1
    (λ n a. (above_front (numbers_of before) c.number n (rw (map-append (λ (x : Count). x.number) before (c ∷ [])) at a)).1) in
    elim (cases_Bool (c.number == k)) [
      | inl e ↦
          let same : c.number ≡ k = eqb-true c.number k e in
          let P : ℕ → Type 0 = λ n. AllByRecursion (λ d. n < d.number) ps in
          let none = none_has (λ (d : Count). d.number) k ps (subst P same later) in
          let some = some_of c.votes h.0.1 in
          let one : c ∷ [] ≡ record { number = k; votes = c.votes } ∷ [] =
          ap (λ (n : ℕ). record { number = n; votes = c.votes } ∷ []) same in
          rw (e, none) (λ z. absurd (omega arith), λ s. one)
      | inr e ↦ rw e (single (before ++ c ∷ []) ps k h.1)
    ]

more_votes : (m n : ℕ) → nat_lt 0 n ≡ true → nat_lt 0 (m + n) ≡ true
more_votes m n h = grind (arith, nat_tests)

-- and no party votes
kept_legends : (digits : ℕ) (o : OfficeCount) (ks : List ℕ) → EachAfter MayLegend [] o.parties
    → legends (filter some_votes (map (said_party digits o) ks)) ≡ flat_map (λ k. filter (λ c. c.number == k) o.parties) ks
kept_legends digits o [] h = refl
kept_legends digits o (k ∷ ks) h =
    let rest = kept_legends digits o ks h in
    let one = single [] o.parties k h in
    elim (cases_Bool (nat_lt 0 (party_votes k o.parties))) [
      | inl e ↦
          let keep = more_votes (votes_of (candidates_of_party digits k o.nominal)) (party_votes k o.parties) e in
          rw (keep, e, one.1 (ltb-true 0 (party_votes k o.parties) e))
          (ap (λ (l : List Count). record { number = k; votes = party_votes k o.parties } ∷ l) rest)
      | inr e ↦
          let none = one.0 (zero_of (party_votes k o.parties) e) in
          elim (cases_Bool (some_votes (said_party digits o k))) [
            | inl d ↦ rw (d, e, none) rest
            | inr d ↦ rw (d, none) rest
          ]
    ]

-- ---- offices and reports

rebuilt : (o : OfficeCount) (nominal parties : List Count) → nominal ≡ o.nominal → parties ≡ o.parties
    → record { code = o.code; places = o.places; nominal = nominal; parties = parties; blank = o.blank; null_votes = o.null_votes } ≡ o
rebuilt o nominal parties a b = ap (λ (l : List Count). record o { nominal = l; parties = parties }) a ∙ ap (λ (l : List Count). record o { parties = l }) b

-- an office comes back from what it says
office_back : (r : Report) (o : OfficeCount) (b : Bool) → IsOfficeCount r.came o → code_proportional o.code ≡ b
    → told_office (office_of b r o) ≡ o
office_back r o true h e =
    let digits : ℕ = digits_in o.code in
    let g = grouped o.code e in
    rebuilt o _ _
    (kept_candidates digits o (range_with_len 10 90) h.nominal
    ∙ regroup (λ (c : Count). first_two digits c.number) 90 10 o.nominal (within_by digits g [] o.nominal h.nominal)
    (ascends_by digits g [] o.nominal h.nominal))
    (kept_legends digits o (range_with_len 10 90) h.parties
    ∙ regroup (λ (c : Count). c.number) 90 10 o.parties (within_parties [] o.parties h.parties)
    (ascends_parties [] o.parties h.parties))
office_back r o false h e = rebuilt o (o.nominal ++ []) [] (append-nil o.nominal) (sym (h.majority e))

offices_back : (r : Report) (before os : List OfficeCount) → EachAfter (MayCount r.came) before os
    → map told_office (map (said_office r) os) ≡ os
offices_back r before [] h = refl
offices_back r before (o ∷ os) h =
    ap (λ (l : List OfficeCount). told_office (said_office r o) ∷ l) (offices_back r (before ++ o ∷ []) os h.1)
    ∙ ap (λ (n : OfficeCount). n ∷ os) (office_back r o (code_proportional o.code) h.0.1 refl)

-- and so does a report
pub report_back : (r : Report) → IsReport r → told_report (said r) ≡ r
unfolding said
report_back r h =
    ap (λ (n : ℕ). record r {
      opened = n;
      closed = moment (r.closed / 1000000) (r.closed % 1000000);
      offices = map told_office (map (said_office r) r.offices);
    }) (whole_moment r.opened)
    ∙ (ap (λ (n : ℕ). record r { closed = n; offices = map told_office (map (said_office r) r.offices) }) (whole_moment r.closed)
    ∙ ap (λ (l : List OfficeCount). record r { offices = l }) (offices_back r [] r.offices h.offices))

pub one_report : OneReport
one_report r q hr hq e = sym (report_back r hr) ∙ (ap (λ (s : Said). told_report s) e ∙ report_back q hq)

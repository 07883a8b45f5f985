-- The text of a report says what the report says.
use Rattle.std.proofs.Common.{◌≡◌, ℕ, ◌+◌, ◌-◌, ◌*◌, ◌/◌, ◌%◌, ◌<◌, ◌≤◌, Bool, true, false, List, [], ◌∷◌, ◌++◌, length, map, None, refl, sym, ap, ◌∙◌, subst, inl, inr, arith, lit≤}
use Rattle.std.specs.Prelude.{nat_le, ◌==◌, if◌then◌else◌}
use Rattle.std.specs.List.{AllByRecursion, flat_map, filter, range_with_len, zip}
use Rattle.std.proofs.lemmas.Bool.{cases_Bool, eq-eqb, le-leb}
use Rattle.std.proofs.lemmas.List.{map-append}
use Rattle.election_tables.specs.Offices.{code_proportional}
use Rattle.poll_report.specs.Report.{IsReport, IsOfficeCount, MayCount, votes_of, EachAfter, digits_in, may_have_code}
use Rattle.poll_report.specs.declared.report.Count.{Count}
use Rattle.poll_report.specs.declared.report.OfficeCount.{OfficeCount}
use Rattle.poll_report.specs.declared.report.Report.{Report}
use Rattle.qr_text.specs.Fault.{failing}
use Rattle.qr_text.specs.Said.{ReportField, Equals, Holds, IsSaid, IsSaidOffice, MayOffice, codes_in, fields, head_values, head_field, vote_field, party_fields, places_fields, votes_fields, sum_fields, office_fields, all_nominal, all_legend, moment}
use Rattle.qr_text.specs.Spelling.{said, said_office, said_party, said_parties}
use Rattle.qr_text.specs.Table.{head_rows}
use Rattle.qr_text.specs.declared.said.Said.{Said}
use Rattle.qr_text.specs.declared.said.SaidOffice.{SaidOffice}
use Rattle.qr_text.specs.declared.said.SaidParty.{SaidParty}
use Rattle.qr_text.proofs.Saying.{head_fits, few, parties_may, grouped, nominal_groups, legend_groups, kept_sums, some_votes}

abbrev pub Pass : List ReportField → Type 0
Pass fs = AllByRecursion (λ f. failing f.tests ≡ None) fs

-- ---- offices are well formed

abbrev pub office_of : Bool → Report → OfficeCount → SaidOffice
office_of proportional r o = record {
  code = o.code;
  places = o.places;
  candidates = if proportional then [] else o.nominal;
  parties = if proportional then said_parties o else [];
  able = r.able;
  nominal = votes_of o.nominal;
  legend = votes_of o.parties;
  blank = o.blank;
  null_votes = o.null_votes;
  total = votes_of o.nominal + votes_of o.parties + o.blank + o.null_votes;
}

pub is_office : (r : Report) (o : OfficeCount) (b : Bool) → r.able ≤ 9999 → r.came ≤ r.able → IsOfficeCount r.came o
    → code_proportional o.code ≡ b → IsSaidOffice (office_of b r o)
is_office r o true able came h e =
    let all = h.few in
    record {
      places = h.places;
      candidates = tt;
      parties = parties_may (digits_in o.code) o 90 10 [] h.nominal (omega arith) (lit≤ tt) (lit≤ tt) (λ k l. refl);
      proportional = λ yes. refl;
      majority = λ other. let clash : true ≡ false = sym e ∙ other in absurd (cc);
      able = few r.able able;
      nominal = few (votes_of o.nominal) (omega arith);
      legend = few (votes_of o.parties) (omega arith);
      blank = few o.blank (omega arith);
      null_votes = few o.null_votes (omega arith);
      total = few (votes_of o.nominal + votes_of o.parties + o.blank + o.null_votes) (omega arith);
    }
is_office r o false able came h e =
    let all = h.few in
    record {
      places = h.places;
      candidates = h.nominal;
      parties = tt;
      proportional = λ yes. let clash : true ≡ false = sym yes ∙ e in absurd (cc);
      majority = λ other. (refl, ap (λ (l : List Count). votes_of l) (h.majority e));
      able = few r.able able;
      nominal = few (votes_of o.nominal) (omega arith);
      legend = few (votes_of o.parties) (omega arith);
      blank = few o.blank (omega arith);
      null_votes = few o.null_votes (omega arith);
      total = few (votes_of o.nominal + votes_of o.parties + o.blank + o.null_votes) (omega arith);
    }

codes_same : (r : Report) (os : List OfficeCount) → codes_in (map (said_office r) os) ≡ map (λ c. c.code) os
codes_same r [] = refl
codes_same r (o ∷ os) = ap (λ (l : List ℕ). o.code ∷ l) (codes_same r os)

offices_may : (r : Report) (before os : List OfficeCount) → r.able ≤ 9999 → r.came ≤ r.able → EachAfter (MayCount r.came) before os
    → EachAfter MayOffice (map (said_office r) before) (map (said_office r) os)
offices_may r before [] able came h = tt
offices_may r before (o ∷ os) able came h =
    let P : List ℕ → Type 0 = λ l. may_have_code l o.code ≡ true in
    let Q : List SaidOffice → Type 0 = λ l. EachAfter MayOffice l (map (said_office r) os) in (
      (subst P (sym (codes_same r before)) h.0.0, is_office r o (code_proportional o.code) able came h.0.1 refl),
      subst Q (map-append (said_office r) before (o ∷ [])) (offices_may r (before ++ o ∷ []) os able came h.1),
    )

some_map : (r : Report) (os : List OfficeCount) → 0 < length os → 0 < length (map (said_office r) os)
some_map r [] h = h
some_map r (o ∷ os) h = omega arith

pub is_said : (r : Report) → IsReport r → IsSaid (said r)
unfolding said
is_said r h = record {
  head = head_fits r h;
  some = some_map r r.offices h.some;
  offices = offices_may r [] r.offices h.able h.came h.offices;
}

-- ---- its tests pass

equal_passes : (a b : ℕ) → a ≡ b → failing (Equals a b ∷ []) ≡ None
equal_passes a b e = rw (eq-eqb a b e) refl

pass_append : (a b : List ReportField) → Pass a → Pass b → Pass (a ++ b)
pass_append [] b h g = g
pass_append (f ∷ a) b h g = (h.0, pass_append a b h.1 g)

pass_votes : (cs : List Count) → Pass (map vote_field cs)
pass_votes [] = tt
pass_votes (c ∷ cs) = (refl, pass_votes cs)

pass_places : (places : ℕ) → Pass (places_fields places)
pass_places places = elim (cases_Bool (places == 1)) [
  | inl one ↦ rw one tt
  | inr other ↦ rw other (refl, tt)
]

pass_party : (digits : ℕ) (o : OfficeCount) (k : ℕ) → Pass (party_fields (said_party digits o k))
pass_party digits o k =
    let p : SaidParty = said_party digits o k in (
      refl,
      pass_append (map vote_field p.candidates) _ (pass_votes p.candidates)
          (refl, (equal_passes (votes_of p.candidates + p.legend) p.total refl, tt)),
    )

pass_parties : (digits : ℕ) (o : OfficeCount) (ks : List ℕ)
    → Pass (flat_map party_fields (filter some_votes (map (said_party digits o) ks)))
pass_parties digits o [] = tt
pass_parties digits o (k ∷ ks) = elim (cases_Bool (some_votes (said_party digits o k))) [
  | inl e ↦ rw e (pass_append (party_fields (said_party digits o k)) _ (pass_party digits o k) (pass_parties digits o ks))
  | inr e ↦ rw e (pass_parties digits o ks)
]

total_passes : (a b c : ℕ) → a ≡ c → b ≡ c → failing (Equals a c ∷ Equals b c ∷ []) ≡ None
total_passes a b c e d = rw (eq-eqb a c e, eq-eqb b c d) refl

-- an office whose sums are right
pass_sums : (s : Said) (b : Bool) (o : SaidOffice) → s.able ≡ o.able → all_nominal o ≡ o.nominal → all_legend o ≡ o.legend
    → o.nominal + o.legend + o.blank + o.null_votes ≡ o.total → s.came * o.places ≡ o.total → Pass (sum_fields s b o)
pass_sums s true o able nominal legend total came = (
  equal_passes s.able o.able able,
  (
    equal_passes (all_nominal o) o.nominal nominal,
    (equal_passes (all_legend o) o.legend legend, (refl, (refl, (total_passes _ (s.came * o.places) o.total total came, tt)))),
  ),
)
pass_sums s false o able nominal legend total came = (
  equal_passes s.able o.able able,
  (equal_passes (all_nominal o) o.nominal nominal, (refl, (refl, (total_passes _ (s.came * o.places) o.total total came, tt)))),
)

pass_office : (s : Said) (r : Report) (o : OfficeCount) (b : Bool) → s.able ≡ r.able → s.came ≡ r.came → IsOfficeCount r.came o
    → code_proportional o.code ≡ b
    → Pass (votes_fields b (office_of b r o) ++ sum_fields s b (office_of b r o))
pass_office s r o true able came h e =
    let n : SaidOffice = office_of true r o in
    let kept = kept_sums (digits_in o.code) o (range_with_len 10 90) in
    let candidates = kept.0 ∙ nominal_groups (digits_in o.code) (grouped o.code e) o.nominal h.nominal in
    let nominal : all_nominal n ≡ votes_of o.nominal = omega arith in
    let legend : all_legend n ≡ votes_of o.parties = kept.1 ∙ legend_groups o.parties h.parties in
    pass_append (flat_map party_fields (said_parties o)) (sum_fields s true n) (pass_parties (digits_in o.code) o (range_with_len 10 90))
    (pass_sums s true n able nominal legend refl (ap (λ (k : ℕ). k * o.places) came ∙ sym h.total))
pass_office s r o false able came h e =
    let n : SaidOffice = office_of false r o in
    let legend : all_legend n ≡ votes_of o.parties = sym (ap (λ (l : List Count). votes_of l) (h.majority e)) in
    pass_append (votes_fields false n) (sum_fields s false n)
    (pass_append (places_fields o.places) (map vote_field o.nominal) (pass_places o.places) (pass_votes o.nominal))
    (pass_sums s false n able (omega arith) legend refl (ap (λ (k : ℕ). k * o.places) came ∙ sym h.total))

pass_offices : (s : Said) (r : Report) (before os : List OfficeCount) → s.able ≡ r.able → s.came ≡ r.came
    → EachAfter (MayCount r.came) before os → Pass (flat_map (office_fields s) (map (said_office r) os))
pass_offices s r before [] able came h = tt
pass_offices s r before (o ∷ os) able came h =
    pass_append (office_fields s (said_office r o)) (flat_map (office_fields s) (map (said_office r) os))
    (refl, (refl, pass_office s r o (code_proportional o.code) able came h.0.1 refl))
    (pass_offices s r (before ++ o ∷ []) os able came h.1)

pub whole_moment : (n : ℕ) → moment (n / 1000000) (n % 1000000) ≡ n
whole_moment n = omega arith

order_passes : (a b : ℕ) → a ≤ b → failing (Holds (nat_le a b) ∷ []) ≡ None
order_passes a b h = rw (le-leb a b h) refl

pass_head : (r : Report) → IsReport r → Pass (map (head_field (said r)) (zip head_rows (head_values (said r))))
unfolding said head_rows
pass_head r h =
    let opened = whole_moment r.opened in
    let closed = whole_moment r.closed in
    let before = h.order in
    let within = h.came in
    let voters = equal_passes (r.came + (r.able - r.came)) r.able (omega arith) in
    let order = order_passes (moment (r.opened / 1000000) (r.opened % 1000000)) (moment (r.closed / 1000000) (r.closed % 1000000))
    (omega arith) in
    (refl, (refl, (refl, (refl, (refl, (refl, (refl, (refl, (voters, (refl, (refl, (refl, (order, tt)))))))))))))

pub passes : (r : Report) → IsReport r → Pass (fields (said r))
unfolding fields said
passes r h = pass_append _ (flat_map (office_fields (said r)) (said r).offices) (pass_head r h)
    (pass_offices (said r) r [] r.offices refl refl h.offices)

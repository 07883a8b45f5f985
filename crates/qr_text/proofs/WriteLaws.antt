-- The pieces of a report's text, joined.
use Rattle.std.proofs.Common.{◌≡◌, ℕ, ◌+◌, ◌-◌, ◌≤◌, ◌<◌, Bool, true, false, List, [], ◌∷◌, ◌++◌, length, map, take, get_or, zero, suc, append_assoc, refl, sym, ap, subst, ◌∙◌, arith, inl, inr}
use Rattle.std.specs.Prelude.{if◌then◌else◌, ◌/◌, ◌^◌, ◌==◌}
use Rattle.std.specs.List.{flat_map, filter, range_with_len, join_with_byte}
use Rattle.std.proofs.lemmas.Bool.{cases_Bool}
use Rattle.std.proofs.lemmas.Grind.{flat_map-append}
use Rattle.std.proofs.lemmas.List.Folds.{flat_map-map}
use Rattle.std.proofs.lemmas.List.FromFn.{map-range_with_len_more}
use Rattle.std.proofs.lemmas.List.{append-nil, map-append, take_more}
use Rattle.urna_base.proofs.MomentLaws.{is_date-below}
use Rattle.election_tables.specs.Fields.{first_two}
use Rattle.election_tables.specs.Offices.{code_proportional}
use Rattle.poll_report.specs.Report.{greatest_count, votes_of, IsOfficeCount, IsReport, MayCount, EachAfter, digits_in, IsCounted}
use Rattle.poll_report.specs.declared.report.Count.{Count}
use Rattle.poll_report.specs.declared.report.OfficeCount.{OfficeCount}
use Rattle.poll_report.specs.declared.report.Report.{Report}
use Rattle.qr_text.specs.Said.{ReportField, fields, vote_field, party_field, office_field, kind_number, party_fields, places_fields, votes_fields, sum_fields, office_fields, texts}
use Rattle.qr_text.specs.Spelling.{candidates_of_party, party_votes, said, said_office, said_party, report_fields, report_text}
use Rattle.qr_text.specs.Table.{head_rows, row_text}
use Rattle.qr_text.specs.Writing.{with_fields, with_total, head_texts, spaced_vote, spaced_votes, spaced_party, spaced_parties, spaced_places, spaced_office_votes, with_code, with_sums, with_last, with_office, spaced, spaced_office}
use Rattle.qr_text.specs.declared.said.Said.{Said}
use Rattle.qr_text.specs.declared.said.SaidOffice.{SaidOffice}
use Rattle.qr_text.specs.declared.said.SaidParty.{SaidParty}
use Rattle.qr_text.specs.declared.table.TheConstants.{TABLE}
use Rattle.qr_text.proofs.Grouping.{RestFrom, rest_of_all}
use Rattle.qr_text.proofs.Reporting.{office_of}
use Rattle.qr_text.proofs.Saying.{ascends_by, ascends_parties, date_of, grouped, legend_of, part_votes, some_votes, within_by, within_parties}

-- the dates of a report have eight digits
pub date_small_of : (r : Report) → IsReport r → r.date < 10 ^ 8
date_small_of r h = is_date-below r.date h.date

pub moments_small : (r : Report) → IsReport r → (r.opened / 1000000 < 10 ^ 8) × (r.closed / 1000000 < 10 ^ 8)
moments_small r h = (is_date-below _ (date_of r.opened h.opened), is_date-below _ (date_of r.closed h.closed))

pub with_fields_spaced : (text : List ℕ) (fs : List (List ℕ)) → with_fields text fs ≡ text ++ spaced fs
with_fields_spaced text [] = sym (append-nil text)
with_fields_spaced text (f ∷ fs) = with_fields_spaced (text ++ 32 ∷ f) fs ∙ append_assoc text (32 ∷ f) (spaced fs)

-- fields written one behind the other are joined by single spaces
pub spaced_joins : (text : List ℕ) (fs : List (List ℕ)) → text ++ spaced fs ≡ join_with_byte 32 (text ∷ fs)
spaced_joins text [] = append-nil text
spaced_joins text (f ∷ fs) = ap (λ (t : List ℕ). text ++ 32 ∷ t) (spaced_joins f fs)

pub spaced_texts : (a b : List ReportField) → spaced (texts (a ++ b)) ≡ spaced (texts a) ++ spaced (texts b)
spaced_texts a b = ap (λ (x : List (List ℕ)). spaced x) (map-append (λ (f : ReportField). f.text) a b)
    ∙ flat_map-append (λ (t : List ℕ). 32 ∷ t) (texts a) (texts b)

votes_spaced : (cs : List Count) → spaced_votes cs ≡ spaced (texts (map vote_field cs))
votes_spaced [] = refl
votes_spaced (c ∷ cs) = ap (λ (t : List ℕ). spaced_vote c ++ t) (votes_spaced cs)

office_joined : (text : List ℕ) (a p s : List ReportField) (v : List ℕ) → v ≡ spaced (texts p)
    → with_fields (with_fields text (texts a) ++ v) (texts s) ≡ text ++ spaced (texts (a ++ (p ++ s)))
office_joined text a p s v h =
    with_fields_spaced (with_fields text (texts a) ++ v) (texts s)
    ∙ (ap (λ (x : List ℕ). (x ++ v) ++ spaced (texts s)) (with_fields_spaced text (texts a))
    ∙ (append_assoc (text ++ spaced (texts a)) v (spaced (texts s))
    ∙ (append_assoc text (spaced (texts a)) (v ++ spaced (texts s))
    ∙ (ap (λ (x : List ℕ). text ++ (spaced (texts a) ++ (x ++ spaced (texts s)))) h
    ∙ sym (ap (λ (x : List ℕ). text ++ x) (spaced_texts a (p ++ s) ∙ ap (λ (x : List ℕ). spaced (texts a) ++ x) (spaced_texts p s)))))))

party_spaced : (p : SaidParty)
    → (32 ∷ row_text TABLE.party p.number) ++ spaced_votes
    p.candidates ++ (32 ∷ row_text TABLE.party_legend p.legend) ++ (32 ∷ row_text TABLE.party_total p.total)
    ≡ spaced (texts (party_fields p))
party_spaced p =
    office_joined [] (party_field p TABLE.party p.number ∷ []) (map vote_field p.candidates)
    (party_field p TABLE.party_legend p.legend ∷ party_field p TABLE.party_total p.total ∷ []) (spaced_votes p.candidates)
    (votes_spaced p.candidates)

-- the party of a number in an office
abbrev pub spaced_at : OfficeCount → ℕ → List ℕ
spaced_at o k = spaced_party (said_party (digits_in o.code) o k)

parties_spaced : (o : OfficeCount) (ks : List ℕ)
    → flat_map (spaced_at o) ks ≡ spaced (texts (flat_map party_fields (filter some_votes (map (said_party (digits_in o.code) o) ks))))
parties_spaced o [] = refl
parties_spaced o (k ∷ ks) =
    let rest = parties_spaced o ks in
    let p : SaidParty = said_party (digits_in o.code) o k in
    elim (cases_Bool (some_votes p)) [
      | inl e ↦
          let later : List ReportField = flat_map party_fields (filter some_votes (map (said_party (digits_in o.code) o) ks)) in
          rw e (ap (λ (t : List ℕ). t ++ flat_map (spaced_at o) ks) (party_spaced p)
          ∙ (ap (λ (t : List ℕ). spaced (texts (party_fields p)) ++ t) rest ∙ sym (spaced_texts (party_fields p) later)))
      | inr e ↦ rw e rest
    ]

parties_are_spaced : (o : OfficeCount) (n : ℕ)
    → spaced_parties o n ≡ spaced (texts
    (flat_map party_fields (filter some_votes (map (said_party (digits_in o.code) o) (range_with_len 10 n)))))
unfolding spaced_parties
parties_are_spaced o n = parties_spaced o (range_with_len 10 n)

places_spaced : (places : ℕ) → spaced_places places ≡ spaced (texts (places_fields places))
places_spaced places = elim (cases_Bool (places == 1)) [
  | inl one ↦ rw one refl
  | inr other ↦ rw other (sym (append-nil (32 ∷ row_text TABLE.places places)))
]

votes_are : (b : Bool) (r : Report) (o : OfficeCount)
    → (if b then spaced_parties o 90 else spaced_places o.places ++ spaced_votes o.nominal) ≡ spaced (texts (votes_fields b (office_of b r o)))
votes_are true r o = parties_are_spaced o 90
votes_are false r o =
    ap (λ (t : List ℕ). t ++ spaced_votes o.nominal) (places_spaced o.places)
    ∙ (ap (λ (t : List ℕ). spaced (texts (places_fields o.places)) ++ t) (votes_spaced o.nominal)
    ∙ sym (spaced_texts (places_fields o.places) (map vote_field o.nominal)))

office_by : (b : Bool) (text : List ℕ) (s : Said) (q : SaidOffice) (v : List ℕ) (p : List ReportField) → v ≡ spaced (texts p)
    → with_last q.blank q.null_votes q.total (with_sums q.able b q.nominal q.legend (with_code q.code b text ++ v))
    ≡ text ++ spaced (texts (office_field s q TABLE.office q.code ∷ office_field s q TABLE.kind (kind_number b) ∷ (p ++ sum_fields s b q)))
unfolding with_last with_sums with_code
office_by true text s q v p h =
    office_joined text (office_field s q TABLE.office q.code ∷ office_field s q TABLE.kind 1 ∷ []) p (sum_fields s true q) v h
office_by false text s q v p h =
    office_joined text (office_field s q TABLE.office q.code ∷ office_field s q TABLE.kind 0 ∷ []) p (sum_fields s false q) v h

pub office_is_spaced : (r : Report) (text : List ℕ) (o : OfficeCount) → with_office r text o ≡ text ++ spaced_office r o
unfolding with_office spaced_office spaced_office_votes
office_is_spaced r text o =
    office_by (code_proportional o.code) text (said r) (said_office r o) (spaced_office_votes o)
    (votes_fields (code_proportional o.code) (said_office r o)) (votes_are (code_proportional o.code) r o)

offices_spaced : (r : Report) (os : List OfficeCount)
    → flat_map (spaced_office r) os ≡ spaced (texts (flat_map (office_fields (said r)) (map (said_office r) os)))
unfolding spaced_office
offices_spaced r [] = refl
offices_spaced r (o ∷ os) =
    ap (λ (t : List ℕ). spaced_office r o ++ t) (offices_spaced r os)
    ∙ sym (spaced_texts (office_fields (said r) (said_office r o)) (flat_map (office_fields (said r)) (map (said_office r) os)))

-- what is written is the text of the report
pub written : (r : Report) → with_fields (row_text TABLE.orig 0) (head_texts r) ++ flat_map (spaced_office r) r.offices ≡ report_text r
unfolding report_text report_fields fields head_rows said
written r =
    let all : List (List ℕ) = texts (flat_map (office_fields (said r)) (map (said_office r) r.offices)) in
    let orig : List ℕ = row_text TABLE.orig 0 in
    ap (λ (t : List ℕ). t ++ flat_map (spaced_office r) r.offices) (with_fields_spaced orig (head_texts r))
    ∙ (append_assoc orig (spaced (head_texts r)) (flat_map (spaced_office r) r.offices)
    ∙ (ap (λ (t : List ℕ). orig ++ (spaced (head_texts r) ++ t)) (offices_spaced r r.offices)
    ∙ (ap (λ (t : List ℕ). orig ++ t) (sym (flat_map-append (λ (t : List ℕ). 32 ∷ t) (head_texts r) all))
    ∙ spaced_joins orig (head_texts r ++ all))))

pub parties_more : (o : OfficeCount) (n k : ℕ) → 10 + n ≡ k → spaced_parties o (n + 1) ≡ spaced_parties o n ++ spaced_at o k
unfolding spaced_parties
parties_more o n k h =
    let f : ℕ → List ℕ = spaced_at o in
    let same : ℕ → ℕ = λ x. x in
    sym (flat_map-map f same (range_with_len 10 (n + 1)))
    ∙ (ap (λ (l : List ℕ). flat_map f l) (map-range_with_len_more same 10 n k h)
    ∙ (flat_map-append f (map same (range_with_len 10 n)) (k ∷ [])
    ∙ (ap (λ (l : List ℕ). l ++ (f k ++ [])) (flat_map-map f same (range_with_len 10 n))
    ∙ ap (λ (l : List ℕ). flat_map f (range_with_len 10 n) ++ l) (append-nil (f k)))))

counted_at : (came : ℕ) (before os : List OfficeCount) (k : ℕ) (d : OfficeCount) → EachAfter (MayCount came) before os → k < length os
    → IsOfficeCount came (get_or os k d)
counted_at came before [] k d h w = absurd (omega arith)
counted_at came before (o ∷ os) zero d h w = h.0.1
counted_at came before (o ∷ os) (suc k) d h w = counted_at came (before ++ o ∷ []) os k d h.1 (omega arith)

-- each office of a report is counted
pub counted_item : (r : Report) (items : List OfficeCount) (k : ℕ) (x : OfficeCount) → IsReport r → items ≡ r.offices → k < length items
    → x ≡ get_or items k x → IsCounted x
counted_item r items k x is e w h =
    let P : List OfficeCount → Type 0 = λ l. k < length l in
    let Q : OfficeCount → Type 0 = λ y. IsOfficeCount r.came y in
    let same : x ≡ get_or r.offices k x = h ∙ ap (λ (l : List OfficeCount). get_or l k x) e in
    (r.came, subst Q (sym same) (counted_at r.came [] r.offices k x is.offices (subst P e w)))

-- ---- party after party

-- the party of a candidate of an office
abbrev pub by_party : OfficeCount → Count → ℕ
by_party o c = first_two (digits_in o.code) c.number

-- the party of an entry
abbrev pub by_number : Count → ℕ
by_number c = c.number

pub all_candidates_left : (o : OfficeCount) (cs : List Count) → IsCounted o → code_proportional o.code ≡ true → cs ≡ o.nominal
    → RestFrom (by_party o) 10 o.nominal cs
all_candidates_left o cs h e same =
    let digits : ℕ = digits_in o.code in
    let g = grouped o.code e in
    rest_of_all (by_party o) 10 90 o.nominal cs same (within_by digits g [] o.nominal h.1.nominal)
    (ascends_by digits g [] o.nominal h.1.nominal)

pub all_entries_left : (o : OfficeCount) (ps : List Count) → IsCounted o → ps ≡ o.parties → RestFrom by_number 10 o.parties ps
all_entries_left o ps h same =
    rest_of_all by_number 10 90 o.parties ps same (within_parties [] o.parties h.1.parties) (ascends_parties [] o.parties h.1.parties)

-- the candidates and the entry of a party have no more votes than a report can tell
pub few_in_party : (o : OfficeCount) (k : ℕ) (own entry : List Count) → IsCounted o → own ≡ filter (λ c. by_party o c == k) o.nominal
    → entry ≡ filter (λ c. by_number c == k) o.parties → votes_of own + votes_of entry ≤ greatest_count
few_in_party o k own entry h own_is entry_is =
    let nominal = ap (λ (l : List Count). votes_of l) own_is in
    let nominal_part = part_votes (λ c. by_party o c == k) o.nominal in
    let legend = ap (λ (l : List Count). votes_of l) entry_is in
    let legend_part = part_votes (λ c. by_number c == k) o.parties in
    let few = h.1.few in
    omega (arith, nominal, nominal_part, legend, legend_part, few)

pub parties_step : (o : OfficeCount) (k : ℕ) (own entry : List Count) (start out new : List ℕ) → IsCounted o → 10 ≤ k
    → own ≡ filter (λ c. by_party o c == k) o.nominal → entry ≡ filter (λ c. by_number c == k) o.parties
    → out ≡ start ++ spaced_parties o (k - 10) → new ≡ out ++ spaced_party (with_total k own (votes_of entry))
    → new ≡ start ++ spaced_parties o (k + 1 - 10)
parties_step o k own entry start out new h low own_is entry_is e put =
    let step : k + 1 - 10 ≡ k - 10 + 1 = omega arith in
    let more = parties_more o (k - 10) k (omega arith) in
    let legend : votes_of entry ≡ party_votes k o.parties = ap (λ (l : List Count). votes_of l) entry_is
    ∙ sym (legend_of [] o.parties k h.1.parties) in
    put ∙ (ap (λ (l : List Count). out ++ spaced_party (with_total k l (votes_of entry))) own_is
    ∙ (ap (λ (v : ℕ). out ++ spaced_party (with_total k (candidates_of_party (digits_in o.code) k o.nominal) v)) legend
    ∙ (ap (λ (t : List ℕ). t ++ spaced_at o k) e
    ∙ (append_assoc start (spaced_parties o (k - 10)) (spaced_at o k)
    ∙ (ap (λ (t : List ℕ). start ++ t) (sym more) ∙ ap (λ (j : ℕ). start ++ spaced_parties o j) (sym step))))))

-- ---- office after office

pub offices_step : (r : Report) (items os : List OfficeCount) (k : ℕ) (x : OfficeCount) (start out new : List ℕ) → items ≡ os
    → k < length items → x ≡ get_or items k x
    → out ≡ start ++ flat_map (spaced_office r) (take k os) → new ≡ with_office r out x
    → new ≡ start ++ flat_map (spaced_office r) (take (k + 1) os)
offices_step r items os k x start out new e w h far put =
    let P : List OfficeCount → Type 0 = λ l. k < length l in
    let f : OfficeCount → List ℕ = spaced_office r in
    let lt = subst P e w in
    let same : x ≡ get_or os k x = h ∙ ap (λ (l : List OfficeCount). get_or l k x) e in
    let more : flat_map f (take (k + 1) os) ≡ flat_map f (take k os) ++ f x =
    ap (λ (l : List OfficeCount). flat_map f l) (take_more os k x lt)
    ∙ (flat_map-append f (take k os) (get_or os k x ∷ [])
    ∙ ap (λ (l : List ℕ). flat_map f (take k os) ++ l) (append-nil (f (get_or os k x)) ∙ ap f (sym same))) in
    put ∙ (office_is_spaced r out x
    ∙ (ap (λ (t : List ℕ). t ++ f x) far
    ∙ (append_assoc start (flat_map f (take k os)) (f x) ∙ ap (λ (t : List ℕ). start ++ t) (sym more))))

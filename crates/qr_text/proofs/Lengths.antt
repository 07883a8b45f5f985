-- How long the fields of a report are, and so its text.
use Rattle.std.proofs.Common.{◌≡◌, ℕ, ◌+◌, ◌*◌, ◌<◌, ◌≤◌, ◌^◌, Bool, true, false, List, [], ◌∷◌, ◌++◌, length, map, length-append, refl, ap, ◌∙◌, inl, inr, arith, lit≤}
use Rattle.std.specs.Prelude.{nat_le, nat_lt, ◌&&◌, ◌==◌, if◌then◌else◌}
use Rattle.std.specs.Fmt.{decimal}
use Rattle.std.specs.List.{AllByRecursion, flat_map, filter, join_with_byte, list_all, range_with_len, sum_by, zip}
use Rattle.std.proofs.Math.Nat.{mul-le-mul_left, pow-le-pow_right}
use Rattle.std.proofs.lemmas.Bool.{cases_Bool, eqb-true, leb-true, ltb-true}
use Rattle.std.proofs.lemmas.Fmt.{length-decimal-le}
use Rattle.std.proofs.lemmas.List.Sums.{sum_by-cons}
use Rattle.urna_base.proofs.DigitLaws.{both_from_and, length-padded}
use Rattle.election_tables.specs.Fields.{has_digits}
use Rattle.election_tables.specs.Offices.{code_proportional}
use Rattle.election_tables.proofs.Kept.{has_digits-below}
use Rattle.election_tables.proofs.PlacesOfPanels.{may_have-few}
use Rattle.poll_report.specs.Report.{EachAfter, IsOfficeCount, IsReport, MayCount, MayVote, digits_in, is_some_votes, is_vote, may_have_code, total_of, votes_of}
use Rattle.poll_report.specs.declared.report.Count.{Count}
use Rattle.poll_report.specs.declared.report.OfficeCount.{OfficeCount}
use Rattle.poll_report.specs.declared.report.Report.{Report}
use Rattle.poll_report.proofs.Totals.{votes_cons}
use Rattle.qr_text.specs.Laws.{ShortByVotes, TextIsShort}
use Rattle.qr_text.specs.Said.{ReportField, IsSaidOffice, IsSaidParty, MayParty, MayVoteIn, fields, head_field, head_values, kind_number, last_fields, office_field, office_fields, party_field, party_fields, places_fields, sum_fields, texts, vote_field, votes_fields}
use Rattle.qr_text.specs.Spelling.{report_fields, report_text, said, said_office, said_parties, said_party}
use Rattle.qr_text.specs.Table.{row_text, fits, head_rows, value_text}
use Rattle.qr_text.specs.Writing.{spaced}
use Rattle.qr_text.specs.declared.said.Said.{Said}
use Rattle.qr_text.specs.declared.said.SaidOffice.{SaidOffice}
use Rattle.qr_text.specs.declared.said.SaidParty.{SaidParty}
use Rattle.qr_text.specs.declared.table.Form.TheVariants.{Vota, Between, Date, Time}
use Rattle.qr_text.specs.declared.table.Form.{Form}
use Rattle.qr_text.specs.declared.table.Row.{Row}
use Rattle.qr_text.specs.declared.table.TheConstants.{TABLE}
use Rattle.qr_text.proofs.Codes.{code_fits, other_fits}
use Rattle.poll_report.proofs.Digits.{digits_few}
use Rattle.qr_text.proofs.Flattening.{some_of}
use Rattle.qr_text.proofs.Following.{kind_fits}
use Rattle.qr_text.proofs.Regrouping.{Right}
use Rattle.qr_text.proofs.Reporting.{is_office, is_said, office_of}
use Rattle.qr_text.proofs.Saying.{grouped, kept_sums, legend_groups, nominal_groups, some_votes}
use Rattle.qr_text.proofs.Telling.{few_offices}
use Rattle.qr_text.proofs.WriteLaws.{spaced_joins, spaced_texts}

-- ---- one field

-- the form writes its numbers in at most k bytes
abbrev pub fits_in : ℕ → Form → Bool
fits_in k Vota = nat_le 4 k
fits_in k (Between low high) = (nat_le 1 k && nat_le k 8) && nat_lt high (10 ^ k)
fits_in k Date = nat_le 8 k
fits_in k Time = nat_le 6 k

decimal_length : (k v : ℕ) → 1 ≤ k → k ≤ 8 → v < 10 ^ k → length (decimal v) ≤ k
decimal_length k v some few h =
    let up : 10 ^ k ≤ 10 ^ 8 = pow-le-pow_right {n = 10} (omega arith) few in
    length-decimal-le k v (omega arith) h (omega arith)

value_length : (k : ℕ) (form : Form) (v : ℕ) → fits_in k form ≡ true → fits form v ≡ true → length (value_text form v) ≤ k
value_length k Vota v s h = leb-true 4 k s
value_length k (Between low high) v s h =
    let both = both_from_and (nat_le 1 k && nat_le k 8) (nat_lt high (10 ^ k)) s in
    let range = both_from_and (nat_le 1 k) (nat_le k 8) both.0 in
    let top = ltb-true high (10 ^ k) both.1 in
    let most = leb-true v high (both_from_and (nat_le low v) (nat_le v high) h).1 in
    decimal_length k v (leb-true 1 k range.0) (leb-true k 8 range.1) (omega arith)
value_length k Date v s h = let l = length-padded 8 v in let m = leb-true 8 k s in omega arith
value_length k Time v s h = let l = length-padded 6 v in let m = leb-true 6 k s in omega arith

-- the key has four bytes, and the number at most k
abbrev pub is_short : ℕ → Row → Bool
is_short k r = length r.key == 4 && fits_in k r.form

pub short_field : (k : ℕ) (r : Row) (v : ℕ) → is_short k r ≡ true → fits r.form v ≡ true → length (row_text r v) ≤ 5 + k
short_field k r v s h =
    let both = both_from_and (length r.key == 4) (fits_in k r.form) s in
    let key = eqb-true (length r.key) 4 both.0 in
    let value = value_length k r.form v both.1 h in
    let whole = length-append r.key (58 ∷ value_text r.form v) in
    omega arith

-- ---- the field of a candidate

-- each is a candidate's number with its votes
abbrev pub AreVotes : ℕ → List Count → Type 0
AreVotes digits cs = AllByRecursion (λ c. is_vote digits c ≡ true) cs

pub are_votes : (digits : ℕ) (before cs : List Count) → EachAfter (MayVote digits) before cs → AreVotes digits cs
are_votes digits before [] h = tt
are_votes digits before (c ∷ cs) h = (h.0.0, are_votes digits (before ++ c ∷ []) cs h.1)

pub are_party_votes : (digits party : ℕ) (before cs : List Count) → EachAfter (MayVoteIn digits party) before cs → AreVotes digits cs
are_party_votes digits party before [] h = tt
are_party_votes digits party before (c ∷ cs) h = (h.0.1.0, are_party_votes digits party (before ++ c ∷ []) cs h.1)

pub vote_length : (code : ℕ) (c : Count) → is_vote (digits_in code) c ≡ true → length (vote_field c).text ≤ 10
vote_length code c h =
    let both = both_from_and (has_digits (digits_in code) c.number) (is_some_votes c.votes) h in
    let few = has_digits-below (digits_in code) c.number (digits_few code) both.0 in
    let number = decimal_length 5 c.number (lit≤ tt) (lit≤ tt) (omega arith) in
    let votes = value_length 4 TABLE.votes c.votes refl both.1 in
    let whole = length-append (decimal c.number) (58 ∷ value_text TABLE.votes c.votes) in
    omega arith

-- ---- many fields

-- the bytes of fields, each behind a space
abbrev pub size : List ReportField → ℕ
size fs = length (spaced (texts fs))

size_cons : (f : ReportField) (fs : List ReportField) → size (f ∷ fs) ≡ 1 + length f.text + size fs
size_cons f fs = let whole = length-append (32 ∷ f.text) (spaced (texts fs)) in omega arith

size_append : (a b : List ReportField) → size (a ++ b) ≡ size a + size b
size_append a b = ap (λ (t : List ℕ). length t) (spaced_texts a b) ∙ length-append (spaced (texts a)) (spaced (texts b))

-- each candidate has a vote
votes_size : (code : ℕ) (cs : List Count) → AreVotes (digits_in code) cs → size (map vote_field cs) ≤ 11 * votes_of cs
votes_size code [] h = lit≤ tt
votes_size code (c ∷ cs) h =
    let rest = votes_size code cs h.1 in
    let here = vote_length code c h.0 in
    let some = some_of c.votes (both_from_and (has_digits (digits_in code) c.number) (is_some_votes c.votes) h.0).1 in
    let whole = size_cons (vote_field c) (map vote_field cs) in
    let all = votes_cons c cs in
    omega (arith, rest, here, some, whole, all)

-- and so has each party
party_size : (code : ℕ) (p : SaidParty) → IsSaidParty (digits_in code) p → votes_of p.candidates + p.legend ≡ p.total
    → size (party_fields p) ≤ 39 * p.total
party_size code p h right =
    let first = short_field 2 TABLE.party p.number refl h.number in
    let legend = short_field 4 TABLE.party_legend p.legend refl h.legend in
    let total = short_field 4 TABLE.party_total p.total refl h.total in
    let some = some_of p.total h.total in
    let votes = votes_size code p.candidates (are_party_votes (digits_in code) p.number [] p.candidates h.candidates) in
    let last : List ReportField = party_field p TABLE.party_legend p.legend ∷ party_field p TABLE.party_total p.total ∷ [] in
    let a = size_cons (party_field p TABLE.party p.number) (map vote_field p.candidates ++ last) in
    let b = size_append (map vote_field p.candidates) last in
    let c = size_cons (party_field p TABLE.party_legend p.legend) (party_field p TABLE.party_total p.total ∷ []) in
    let d = size_cons (party_field p TABLE.party_total p.total) [] in
    omega (arith, first, legend, total, some, votes, a, b, c, d, right)

abbrev total_votes : List SaidParty → ℕ
total_votes ps = sum_by (λ p. p.total) ps

parties_size : (code : ℕ) (before ps : List SaidParty) → EachAfter (MayParty (digits_in code)) before ps → Right ps
    → size (flat_map party_fields ps) ≤ 39 * total_votes ps
parties_size code before [] h right = lit≤ tt
parties_size code before (p ∷ ps) h right =
    let here = party_size code p h.0.0 right.0 in
    let rest = parties_size code (before ++ p ∷ []) ps h.1 right.1 in
    let whole = size_append (party_fields p) (flat_map party_fields ps) in
    let all = sum_by-cons (λ (q : SaidParty). q.total) p ps in
    omega (arith, here, rest, whole, all)

-- ---- the votes of the parties

right_parties : (digits : ℕ) (o : OfficeCount) (ks : List ℕ) → Right (filter some_votes (map (said_party digits o) ks))
right_parties digits o [] = tt
right_parties digits o (k ∷ ks) = elim (cases_Bool (some_votes (said_party digits o k))) [
  | inl e ↦ rw e (refl, right_parties digits o ks)
  | inr e ↦ rw e (right_parties digits o ks)
]

totals_are : (ps : List SaidParty) → Right ps → total_votes ps ≡ sum_by (λ p. votes_of p.candidates) ps + sum_by (λ p. p.legend) ps
totals_are [] right = refl
totals_are (p ∷ ps) right =
    let rest = totals_are ps right.1 in
    let here = right.0 in
    let a = sum_by-cons (λ (q : SaidParty). q.total) p ps in
    let b = sum_by-cons (λ (q : SaidParty). votes_of q.candidates) p ps in
    let c = sum_by-cons (λ (q : SaidParty). q.legend) p ps in
    omega (arith, rest, here, a, b, c)

parties_votes : (came : ℕ) (o : OfficeCount) → IsOfficeCount came o → code_proportional o.code ≡ true
    → total_votes (said_parties o) ≡ votes_of o.nominal + votes_of o.parties
parties_votes came o h e =
    let digits : ℕ = digits_in o.code in
    let kept = kept_sums digits o (range_with_len 10 90) in
    let candidates = kept.0 ∙ nominal_groups digits (grouped o.code e) o.nominal h.nominal in
    let legends = kept.1 ∙ legend_groups o.parties h.parties in
    let totals = totals_are (said_parties o) (right_parties digits o (range_with_len 10 90)) in
    omega (arith, candidates, legends, totals)

-- ---- an office

places_size : {came : ℕ} (o : OfficeCount) → IsOfficeCount came o → size (places_fields o.places) ≤ 7
places_size o h = elim (cases_Bool (o.places == 1)) [
  | inl one ↦ rw one (lit≤ tt)
  | inr other ↦
      let f : ReportField = record { text = row_text TABLE.places o.places; tests = [] } in
      let short = short_field 1 TABLE.places o.places refl (other_fits o.code o.places h.places other) in
      rw other (omega (arith, short, size_cons f []))
]

votes_fields_size : (r : Report) (o : OfficeCount) (b : Bool) → r.able ≤ 9999 → r.came ≤ r.able → IsOfficeCount r.came o
    → code_proportional o.code ≡ b → size (votes_fields b (office_of b r o)) ≤ 7 + 39 * total_of o
votes_fields_size r o true able came h e =
    let is = is_office r o true able came h e in
    let size_is = parties_size o.code [] (said_parties o) is.parties (right_parties (digits_in o.code) o (range_with_len 10 90)) in
    let votes = parties_votes r.came o h e in
    omega (arith, size_is, votes)
votes_fields_size r o false able came h e =
    let size_is = votes_size o.code o.nominal (are_votes (digits_in o.code) [] o.nominal h.nominal) in
    let both = size_append (places_fields o.places) (map vote_field o.nominal) in
    omega (arith, size_is, both, places_size o h)

last_size : (s : Said) (o : SaidOffice) → IsSaidOffice o → size (last_fields s o) ≤ 30
last_size s o h =
    let blank = short_field 4 TABLE.blank o.blank refl h.blank in
    let null_votes = short_field 4 TABLE.null_votes o.null_votes refl h.null_votes in
    let total = short_field 4 TABLE.total o.total refl h.total in
    let a = size_cons (office_field s o TABLE.blank o.blank)
    (office_field s o TABLE.null_votes o.null_votes ∷ office_field s o TABLE.total o.total ∷ []) in
    let b = size_cons (office_field s o TABLE.null_votes o.null_votes) (office_field s o TABLE.total o.total ∷ []) in
    let c = size_cons (office_field s o TABLE.total o.total) [] in
    omega (arith, blank, null_votes, total, a, b, c)

legend_size : (s : Said) (o : SaidOffice) (b : Bool) → IsSaidOffice o
    → size (if b then office_field s o TABLE.legend o.legend ∷ [] else []) ≤ 10
legend_size s o true h =
    let legend = short_field 4 TABLE.legend o.legend refl h.legend in
    let a = size_cons (office_field s o TABLE.legend o.legend) [] in
    omega (arith, legend, a)
legend_size s o false h = lit≤ tt

sums_size : (s : Said) (o : SaidOffice) (b : Bool) → IsSaidOffice o → size (sum_fields s b o) ≤ 60
sums_size s o b h =
    let able = short_field 4 TABLE.office_able o.able refl h.able in
    let nominal = short_field 4 TABLE.nominal o.nominal refl h.nominal in
    let legend_fields : List ReportField = if b then office_field s o TABLE.legend o.legend ∷ [] else [] in
    let legend = legend_size s o b h in
    let last = last_size s o h in
    let a = size_cons (office_field s o TABLE.office_able o.able)
    (office_field s o TABLE.nominal o.nominal ∷ (legend_fields ++ last_fields s o)) in
    let c = size_cons (office_field s o TABLE.nominal o.nominal) (legend_fields ++ last_fields s o) in
    let d = size_append legend_fields (last_fields s o) in
    omega (arith, able, nominal, legend, last, a, c, d)

office_size : (r : Report) (before : List ℕ) (o : OfficeCount) → r.able ≤ 9999 → r.came ≤ r.able → may_have_code before o.code ≡ true
    → IsOfficeCount r.came o → size (office_fields (said r) (said_office r o)) ≤ 82 + 39 * total_of o
office_size r before o able came may h =
    let s : Said = said r in
    let q : SaidOffice = said_office r o in
    let b : Bool = code_proportional o.code in
    let code = short_field 2 TABLE.office o.code refl (code_fits before o.code may) in
    let kind = short_field 1 TABLE.kind (kind_number b) refl (kind_fits b) in
    let votes = votes_fields_size r o b able came h refl in
    let sums = sums_size s q b (is_office r o b able came h refl) in
    let a = size_cons (office_field s q TABLE.office o.code)
    (office_field s q TABLE.kind (kind_number b) ∷ (votes_fields b q ++ sum_fields s b q)) in
    let c = size_cons (office_field s q TABLE.kind (kind_number b)) (votes_fields b q ++ sum_fields s b q) in
    let d = size_append (votes_fields b q) (sum_fields s b q) in
    omega (arith, code, kind, votes, sums, a, c, d)

offices_size : (r : Report) (before os : List OfficeCount) → r.able ≤ 9999 → r.came ≤ r.able → EachAfter (MayCount r.came) before os
    → size (flat_map (office_fields (said r)) (map (said_office r) os)) ≤ 82 * length os + 39 * sum_by total_of os
offices_size r before [] able came h = lit≤ tt
offices_size r before (o ∷ os) able came h =
    let here = office_size r (map (λ c. c.code) before) o able came h.0.0 h.0.1 in
    let rest = offices_size r (before ++ o ∷ []) os able came h.1 in
    let whole = size_append (office_fields (said r) (said_office r o)) (flat_map (office_fields (said r)) (map (said_office r) os)) in
    let all = sum_by-cons (λ (x : OfficeCount). total_of x) o os in
    omega (arith, here, rest, whole, all)

-- ---- a report

rows_size : (s : Said) (rows : List Row) (vs : List ℕ) → list_all (is_short 8) rows ≡ true
    → AllByRecursion (λ x. fits x.0.form x.1 ≡ true) (zip rows vs) → size (map (head_field s) (zip rows vs)) ≤ 14 * length rows
rows_size s [] vs p h = lit≤ tt
rows_size s (r ∷ rows) [] p h = omega arith
rows_size s (r ∷ rows) (v ∷ vs) p h =
    let both = both_from_and (is_short 8 r) (list_all (is_short 8) rows) p in
    let here = short_field 8 r v both.0 h.0 in
    let rest = rows_size s rows vs both.1 h.1 in
    let whole = size_cons (head_field s (r, v)) (map (head_field s) (zip rows vs)) in
    omega (arith, here, rest, whole)

head_size : (s : Said) → AllByRecursion (λ x. fits x.0.form x.1 ≡ true) (zip head_rows (head_values s))
    → size (map (head_field s) (zip head_rows (head_values s))) ≤ 182
unfolding head_rows
head_size s h = rows_size s head_rows (head_values s) refl h

fields_size : (r : Report) → IsReport r → size (fields (said r)) ≤ 1000 + 39 * sum_by total_of r.offices
unfolding fields said
fields_size r h =
    let head = head_size (said r) (is_said r h).head in
    let offices = offices_size r [] r.offices h.able h.came h.offices in
    let few = few_offices r.came [] r.offices (lit≤ tt) h.offices in
    let whole = size_append (map (head_field (said r)) (zip head_rows (head_values (said r))))
    (flat_map (office_fields (said r)) (said r).offices) in
    omega (arith, head, offices, few, whole)

joined_length : (ts : List (List ℕ)) → length (join_with_byte 32 ts) ≤ length (spaced ts)
joined_length [] = lit≤ tt
joined_length (t ∷ ts) =
    let joined = ap (λ (l : List ℕ). length l) (spaced_joins t ts) in
    let a = length-append t (spaced ts) in
    let b = length-append (32 ∷ t) (spaced ts) in
    omega (arith, joined, a, b)

pub short_by_votes : ShortByVotes
unfolding report_text report_fields
short_by_votes r h =
    let joined = joined_length (texts (fields (said r))) in
    let all = fields_size r h in
    omega (arith, joined, all)

-- each who came has at most two votes for each office
votes_came : (came : ℕ) (before os : List OfficeCount) → EachAfter (MayCount came) before os → sum_by total_of os ≤ length os * (2 * came)
votes_came came before [] h = omega arith
votes_came came before (o ∷ os) h =
    let rest = votes_came came (before ++ o ∷ []) os h.1 in
    let two = mul-le-mul_left came (may_have-few o.code o.places h.0.1.places).1 in
    let here = h.0.1.total in
    let all = sum_by-cons (λ (x : OfficeCount). total_of x) o os in
    omega (arith, rest, here, two, all)

pub text_is_short : TextIsShort
text_is_short r h =
    let bound = short_by_votes r h in
    let votes = votes_came r.came [] r.offices h.offices in
    let few = few_offices r.came [] r.offices (lit≤ tt) h.offices in
    let most = mul-le-mul_left (2 * r.came) few in
    omega (arith, bound, votes, most)

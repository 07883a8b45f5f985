-- The fields of a report are plain.
use Rattle.std.proofs.Common.{◌≡◌, ℕ, ◌<◌, ◌^◌, Bool, true, false, List, [], ◌∷◌, ◌++◌, length, map, Option, Some, None, length-append, refl, sym, inl, inr, arith}
use Rattle.std.specs.Prelude.{◌&&◌, ◌==◌, not, is_some, codes, nat_le, nat_lt}
use Rattle.std.specs.Fmt.{decimal}
use Rattle.std.specs.List.{AllByRecursion, flat_map, list_all, zip}
use Rattle.std.proofs.lemmas.Bool.Decides.{nat_tests}
use Rattle.std.proofs.lemmas.Bool.{cases_Bool, eqb-true, leb-true, ltb-true}
use Rattle.std.proofs.lemmas.Fmt.{decimal_nonempty}
use Rattle.urna_base.specs.Digits.{is_digit, padded}
use Rattle.urna_base.specs.Moment.{is_between}
use Rattle.urna_base.specs.Words.{after_word}
use Rattle.urna_base.proofs.DigitLaws.{all_digits-padded, both_from_and}
use Rattle.urna_base.proofs.DecimalLaws.{all_digits}
use Rattle.election_tables.specs.Fields.{has_digits}
use Rattle.election_tables.specs.Offices.{code_proportional}
use Rattle.election_tables.proofs.Kept.{has_digits-below}
use Rattle.poll_report.specs.Report.{EachAfter, digits_in, is_some_votes, is_vote}
use Rattle.poll_report.specs.declared.report.Count.{Count}
use Rattle.qr_text.specs.Laws.{FieldsArePlain, IsPlain}
use Rattle.qr_text.specs.Said.{ReportField, IsSaid, IsSaidOffice, MayOffice, MayParty, codes_in, fields, head_field, head_values, kind_number, last_fields, office_fields, party_fields, places_fields, sum_fields, texts, vote_field, votes_fields}
use Rattle.qr_text.specs.Spelling.{report_fields, said}
use Rattle.qr_text.specs.Table.{row_text, fits, head_rows, value_text}
use Rattle.qr_text.specs.declared.said.Said.{Said}
use Rattle.qr_text.specs.declared.said.SaidOffice.{SaidOffice}
use Rattle.qr_text.specs.declared.said.SaidParty.{SaidParty}
use Rattle.qr_text.specs.declared.table.Form.TheVariants.{Vota, Between, Date, Time}
use Rattle.qr_text.specs.declared.table.Form.{Form}
use Rattle.qr_text.specs.declared.table.Row.{Row}
use Rattle.qr_text.specs.declared.table.TheConstants.{TABLE}
use Rattle.qr_text.proofs.Codes.{code_fits, other_fits}
use Rattle.poll_report.proofs.Digits.{digits_few}
use Rattle.qr_text.proofs.Following.{kind_fits}
use Rattle.qr_text.proofs.Lengths.{AreVotes, are_party_votes, are_votes, fits_in, is_short, short_field, vote_length}
use Rattle.qr_text.proofs.Reporting.{is_said}
use Rattle.qr_text.proofs.RowLaws.{digits_first, number_small}

-- ---- bytes that are seen

abbrev seen : ℕ → Bool
seen b = is_between 0x21 0x7E b

abbrev Seen : List ℕ → Type 0
Seen t = list_all seen t ≡ true

seen_append : (a b : List ℕ) → Seen a → Seen b → Seen (a ++ b)
seen_append [] b h g = g
seen_append (x ∷ a) b h g = let both = both_from_and (seen x) (list_all seen a) h in rw (both.0, seen_append a b both.1 g) refl

digit_seen : (x : ℕ) → is_digit x ≡ true → seen x ≡ true
digit_seen x h = grind (arith, nat_tests)

seen_digits : (t : List ℕ) → list_all is_digit t ≡ true → Seen t
seen_digits [] h = refl
seen_digits (x ∷ t) h = let both = both_from_and (is_digit x) (list_all is_digit t) h in rw (digit_seen x both.0, seen_digits t both.1) refl

-- a number of the form is one that decimals can write
small_number : (low high v : ℕ) → fits_in 8 (Between low high) ≡ true → is_between low high v ≡ true → v < 10 ^ 18
small_number low high v w h =
    let top = ltb-true high (10 ^ 8) (both_from_and (nat_le 1 8 && nat_le 8 8) (nat_lt high (10 ^ 8)) w).1 in
    let most = leb-true v high (both_from_and (nat_le low v) (nat_le v high) h).1 in
    omega arith

seen_value : (form : Form) (v : ℕ) → fits_in 8 form ≡ true → fits form v ≡ true → Seen (value_text form v)
seen_value Vota v w h = refl
seen_value (Between low high) v w h = seen_digits (decimal v) (all_digits v (small_number low high v w h))
seen_value Date v w h = seen_digits (padded 8 v) (all_digits-padded 8 v)
seen_value Time v w h = seen_digits (padded 6 v) (all_digits-padded 6 v)

-- ---- one field

-- what doesn't begin with a word doesn't begin with one that is longer
no_longer_word : (w more key rest : List ℕ) → length w ≡ length key → after_word w key ≡ None → after_word (w ++ more) (key ++ rest) ≡ None
no_longer_word [] more [] rest l h = absurd (cc)
no_longer_word [] more (k ∷ key) rest l h = absurd (omega arith)
no_longer_word (a ∷ w) more [] rest l h = absurd (omega arith)
no_longer_word (a ∷ w) more (k ∷ key) rest l h = elim (cases_Bool (k == a)) [
  | inl e ↦ rw e (no_longer_word w more key rest (omega arith) (rw e at h))
  | inr e ↦ rw e refl
]

none_of : {A : Type 0} (o : Option A) → not (is_some o) ≡ true → o ≡ None
none_of None h = refl
none_of (Some x) h = absurd (cc)

-- the row's key is seen and isn't that of a hash, and its numbers are short
abbrev pub is_plain : Row → Bool
is_plain r = is_short 8 r && (list_all seen r.key && not (is_some (after_word (codes "HASH") r.key)))

pub plain_field : (r : Row) (v : ℕ) → is_plain r ≡ true → fits r.form v ≡ true → IsPlain (row_text r v)
plain_field r v p h =
    let both = both_from_and (is_short 8 r) (list_all seen r.key && not (is_some (after_word (codes "HASH") r.key))) p in
    let short = both_from_and (length r.key == 4) (fits_in 8 r.form) both.0 in
    let key = both_from_and (list_all seen r.key) (not (is_some (after_word (codes "HASH") r.key))) both.1 in
    let four : length r.key ≡ 4 = eqb-true (length r.key) 4 short.0 in
    let whole = length-append r.key (58 ∷ value_text r.form v) in
    record {
      some = omega (arith, whole);
      short = short_field 8 r v both.0 h;
      seen = seen_append r.key (58 ∷ value_text r.form v) key.0 (seen_value r.form v short.1 h);
      no_hash = no_longer_word (codes "HASH") (58 ∷ []) r.key (58 ∷ value_text r.form v) (sym four)
          (none_of (after_word (codes "HASH") r.key) key.1);
    }

plain_vote : (code : ℕ) (c : Count) → is_vote (digits_in code) c ≡ true → IsPlain (vote_field c).text
plain_vote code c h =
    let both = both_from_and (has_digits (digits_in code) c.number) (is_some_votes c.votes) h in
    let digits = all_digits c.number (number_small code c h) in
    let few = has_digits-below (digits_in code) c.number (digits_few code) both.0 in
    let some = decimal_nonempty c.number (omega arith) in
    let value : List ℕ = 58 ∷ value_text TABLE.votes c.votes in
    let whole = length-append (decimal c.number) value in
    let length_is = vote_length code c h in
    record {
      some = omega (arith, whole);
      short = omega (arith, length_is);
      seen = seen_append (decimal c.number) value (seen_digits (decimal c.number) digits) (seen_value TABLE.votes c.votes refl both.1);
      no_hash = digits_first 72 (codes "ASH:") (decimal c.number) value refl some digits;
    }

-- ---- each field

abbrev pub Plains : List ReportField → Type 0
Plains fs = AllByRecursion (λ f. IsPlain f.text) fs

plains_append : (a b : List ReportField) → Plains a → Plains b → Plains (a ++ b)
plains_append [] b h g = g
plains_append (f ∷ a) b h g = (h.0, plains_append a b h.1 g)

plain_votes : (code : ℕ) (cs : List Count) → AreVotes (digits_in code) cs → Plains (map vote_field cs)
plain_votes code [] h = tt
plain_votes code (c ∷ cs) h = (plain_vote code c h.0, plain_votes code cs h.1)

plain_parties : (code : ℕ) (before ps : List SaidParty) → EachAfter (MayParty (digits_in code)) before ps
    → Plains (flat_map party_fields ps)
plain_parties code before [] h = tt
plain_parties code before (p ∷ ps) h =
    plains_append (party_fields p) (flat_map party_fields ps) (
      plain_field TABLE.party p.number refl h.0.0.number,
      plains_append (map vote_field p.candidates) _
          (plain_votes code p.candidates (are_party_votes (digits_in code) p.number [] p.candidates h.0.0.candidates)) (
            plain_field TABLE.party_legend p.legend refl h.0.0.legend,
            (plain_field TABLE.party_total p.total refl h.0.0.total, tt),
          ),
    )
    (plain_parties code (before ++ p ∷ []) ps h.1)

plain_last : (s : Said) (o : SaidOffice) → IsSaidOffice o → Plains (last_fields s o)
plain_last s o h = (
  plain_field TABLE.blank o.blank refl h.blank,
  (plain_field TABLE.null_votes o.null_votes refl h.null_votes, (plain_field TABLE.total o.total refl h.total, tt)),
)

plain_places : (o : SaidOffice) → IsSaidOffice o → Plains (places_fields o.places)
plain_places o h = elim (cases_Bool (o.places == 1)) [
  | inl one ↦ rw one tt
  | inr other ↦ rw other (plain_field TABLE.places o.places refl (other_fits o.code o.places h.places other), tt)
]

plain_behind : (s : Said) (o : SaidOffice) (b : Bool) → IsSaidOffice o → Plains (votes_fields b o ++ sum_fields s b o)
plain_behind s o true h =
    plains_append (flat_map party_fields o.parties) (sum_fields s true o) (plain_parties o.code [] o.parties h.parties) (
      plain_field TABLE.office_able o.able refl h.able,
      (
        plain_field TABLE.nominal o.nominal refl h.nominal,
        (plain_field TABLE.legend o.legend refl h.legend, plain_last s o h),
      ),
    )
plain_behind s o false h =
    plains_append (votes_fields false o) (sum_fields s false o)
    (plains_append (places_fields o.places) (map vote_field o.candidates) (plain_places o h)
    (plain_votes o.code o.candidates (are_votes (digits_in o.code) [] o.candidates h.candidates))) (
      plain_field TABLE.office_able o.able refl h.able,
      (plain_field TABLE.nominal o.nominal refl h.nominal, plain_last s o h),
    )

plain_offices : (s : Said) (before os : List SaidOffice) → EachAfter MayOffice before os → Plains (flat_map (office_fields s) os)
plain_offices s before [] h = tt
plain_offices s before (o ∷ os) h =
    plains_append (office_fields s o) (flat_map (office_fields s) os) (
      plain_field TABLE.office o.code refl (code_fits (codes_in before) o.code h.0.0),
      (
        plain_field TABLE.kind (kind_number (code_proportional o.code)) refl (kind_fits (code_proportional o.code)),
        plain_behind s o (code_proportional o.code) h.0.1,
      ),
    )
    (plain_offices s (before ++ o ∷ []) os h.1)

plain_rows : (s : Said) (rows : List Row) (vs : List ℕ) → list_all is_plain rows ≡ true
    → AllByRecursion (λ x. fits x.0.form x.1 ≡ true) (zip rows vs) → Plains (map (head_field s) (zip rows vs))
plain_rows s [] vs p h = tt
plain_rows s (r ∷ rows) [] p h = tt
plain_rows s (r ∷ rows) (v ∷ vs) p h =
    let both = both_from_and (is_plain r) (list_all is_plain rows) p in
    (plain_field r v both.0 h.0, plain_rows s rows vs both.1 h.1)

plain_head : (s : Said) → AllByRecursion (λ x. fits x.0.form x.1 ≡ true) (zip head_rows (head_values s))
    → Plains (map (head_field s) (zip head_rows (head_values s)))
unfolding head_rows
plain_head s h = plain_rows s head_rows (head_values s) refl h

plain_texts : (fs : List ReportField) → Plains fs → AllByRecursion IsPlain (texts fs)
plain_texts [] h = tt
plain_texts (f ∷ fs) h = (h.0, plain_texts fs h.1)

-- the fields of what may be said are plain
pub plain_said : (s : Said) → IsSaid s → AllByRecursion IsPlain (texts (fields s))
unfolding fields
plain_said s h = plain_texts (fields s)
    (plains_append (map (head_field s) (zip head_rows (head_values s))) (flat_map (office_fields s) s.offices)
    (plain_head s h.head) (plain_offices s [] s.offices h.offices))

pub fields_are_plain : FieldsArePlain
unfolding report_fields
fields_are_plain r h = plain_said (said r) (is_said r h)

-- What a document that keeps the rules from 4 on has, and that its entries fit the types of the tables.
use Rattle.std.proofs.Common.{◌≡◌, ℕ, ℤ, pos, negsuc, ◌-◌, ◌^◌, ◌<◌, ◌≤◌, ◌==◌, Bool, true, false, ◌&&◌, List, [], ◌∷◌, length, map, nat_le, nat_lt, Option, Some, None, is_some, option_map, refl, sym, ◌∙◌, subst, inl, inr, arith}
use Rattle.std.specs.List.{All, list_all, list_any}
use Rattle.std.specs.Option.{option_map_or}
use Rattle.std.specs.Ordering.{int_eq}
use Rattle.std.proofs.lemmas.Bool.{and_parts, and_from, cases_Bool, eqb-true, leb-true, ltb-true, le-leb, false≢true}
use Rattle.std.proofs.lemmas.Bool.Decides.{Decides-int_eq}
use Rattle.std.proofs.lemmas.List.Elements.{All-nil, All-cons}
use Rattle.std.proofs.lemmas.List.Folds.{list_all-append}
use Rattle.std.proofs.Math.Nat.{pow-le-pow_right}
use Rattle.urna_base.proofs.MomentLaws.{is_date-below}
use Rattle.election_tables.specs.declared.document.FederationEntry.{FederationEntry}
use Rattle.election_tables.specs.declared.document.PartyEntry.{PartyEntry}
use Rattle.election_tables.specs.declared.office.Kind.{Kind}
use Rattle.election_tables.specs.DocumentData.{DocumentData}
use Rattle.election_tables.specs.Fields.{natural, is_within, is_valid_date, is_name, has_digits}
use Rattle.election_tables.specs.Fitting.{office_fits, party_fits, candidate_fits, federation_fits}
use Rattle.election_tables.specs.declared.office.OfficeRow.{OfficeRow}
use Rattle.election_tables.specs.Limits.{most_offices, most_parties, most_candidates, most_sections, most_federations, proportional_seats, greatest_process}
use Rattle.election_tables.specs.Offices.{code_digits, greatest_code, most_seats, office_rows, row_of}
use Rattle.election_tables.specs.Rules.{first_broken, typed_rules, digits_by_code, kind_fits, seats_in_range, section_in_range, counts_in_range, head_in_range, names_in_range, has_office, are_distinct, rule_4, rule_5, rule_6, rule_7, rule_8, rule_9, rule_10, rule_11, rule_12, rule_13, rule_14, rule_15, rule_16, rule_17, all_members}
use Rattle.election_tables.proofs.Breaks.{all_hold}
use Rattle.election_tables.proofs.Rising.{find_all, find_passes}

pub record Kept (d : DocumentData) : Type 0 where
  pub ranges : rule_4 d ≡ true
  pub codes : rule_5 d ≡ true
  pub kinds : rule_6 d ≡ true
  pub party_numbers : rule_7 d ≡ true
  pub parties_differ : rule_8 d ≡ true
  pub have_office : rule_9 d ≡ true
  pub have_party : rule_10 d ≡ true
  pub candidates_differ : rule_11 d ≡ true
  pub births : rule_12 d ≡ true
  pub sections_differ : rule_13 d ≡ true
  pub seats : rule_14 d ≡ true
  pub member_counts : rule_15 d ≡ true
  pub members_are_parties : rule_16 d ≡ true
  pub members_differ : rule_17 d ≡ true

pub kept : (d : DocumentData) → first_broken 4 (typed_rules d) ≡ None → Kept d
unfolding typed_rules
kept d e =
    let h = all_hold 4 (typed_rules d) e in
    record {
      ranges = h.0;
      codes = h.1.0;
      kinds = h.1.1.0;
      party_numbers = h.1.1.1.0;
      parties_differ = h.1.1.1.1.0;
      have_office = h.1.1.1.1.1.0;
      have_party = h.1.1.1.1.1.1.0;
      candidates_differ = h.1.1.1.1.1.1.1.0;
      births = h.1.1.1.1.1.1.1.1.0;
      sections_differ = h.1.1.1.1.1.1.1.1.1.0;
      seats = h.1.1.1.1.1.1.1.1.1.1.0;
      member_counts = h.1.1.1.1.1.1.1.1.1.1.1.0;
      members_are_parties = h.1.1.1.1.1.1.1.1.1.1.1.1.0;
      members_differ = h.1.1.1.1.1.1.1.1.1.1.1.1.1.0;
    }

-- ---- tests of every element

pub all_true : {X : Type 0} (p : X → Bool) (xs : List X) → list_all p xs ≡ true → All (λ x. p x ≡ true) xs
all_true p [] e = All-nil (λ x. p x ≡ true)
all_true p (x ∷ xs) e =
    let (here, more) = and_parts (p x) (list_all p xs) e in
    All-cons (λ y. p y ≡ true) x xs here (all_true p xs more)

all_from_two : {X : Type 0} (p q r : X → Bool) → ((x : X) → p x ≡ true → q x ≡ true → r x ≡ true) → (xs : List X)
    → list_all p xs ≡ true → list_all q xs ≡ true → list_all r xs ≡ true
all_from_two p q r gives [] e f = refl
all_from_two p q r gives (x ∷ xs) e f =
    let (a, as') = and_parts (p x) (list_all p xs) e in
    let (b, bs) = and_parts (q x) (list_all q xs) f in
    and_from (r x) (list_all r xs) (gives x a b) (all_from_two p q r gives xs as' bs)

-- ---- codes and digits

-- the code, the digits and the seats of a row are in their ranges
abbrev row_in_range : OfficeRow → Bool
row_in_range row = is_within 1 greatest_code (pos row.code) && ((nat_le 2 row.digits && nat_le row.digits 5) && nat_le row.most_seats proportional_seats)

found_row : (n : ℕ) (row : OfficeRow) → row_of n ≡ Some row → (n ≡ row.code) × (row_in_range row ≡ true)
unfolding row_of
found_row n row e = (
  eqb-true n row.code (find_passes (λ r. n == r.code) office_rows row e),
  find_all (λ r. row_in_range r ≡ true) (λ r. n == r.code) office_rows row (all_true row_in_range office_rows refl) e,
)

code_of_row : (n : ℕ) (o : Option OfficeRow) → row_of n ≡ o → is_some (option_map (λ r. r.digits) o) ≡ true → is_within 1 greatest_code (pos n) ≡ true
code_of_row n None f e = absurd (false≢true e)
code_of_row n (Some row) f e =
    let (same, fits) = found_row n row f in
    rw same (and_parts (is_within 1 greatest_code (pos row.code)) _ fits).0

pub code_in_range : (n : ℕ) → is_some (code_digits n) ≡ true → is_within 1 greatest_code (pos n) ≡ true
code_in_range n e = code_of_row n (row_of n) refl e

digits_of_row : (n digits : ℕ) (o : Option OfficeRow) → row_of n ≡ o → option_map (λ r. r.digits) o ≡ Some digits → (2 ≤ digits) × (digits ≤ 5)
digits_of_row n digits None f e = absurd (cc)
digits_of_row n digits (Some row) f e =
    let (_, rest) = and_parts (is_within 1 greatest_code (pos row.code)) _ (found_row n row f).1 in
    let (range, _) = and_parts (nat_le 2 row.digits && nat_le row.digits 5) _ rest in
    let (least, most) = and_parts (nat_le 2 row.digits) (nat_le row.digits 5) range in
    let same : row.digits ≡ digits = cc in
    let P : ℕ → Type 0 = λ n. (2 ≤ n) × (n ≤ 5) in
    subst P same (leb-true 2 row.digits least, leb-true row.digits 5 most)

pub code_digits-range : (n digits : ℕ) → code_digits n ≡ Some digits → (2 ≤ digits) × (digits ≤ 5)
code_digits-range n digits e = digits_of_row n digits (row_of n) refl e

pub has_digits-below : (digits n : ℕ) → digits ≤ 5 → has_digits digits n ≡ true → n ≤ 99999
has_digits-below digits n few h =
    let (_, high) = and_parts (nat_le (10 ^ (digits - 1)) n) (nat_lt n (10 ^ digits)) h in
    let below : n < 10 ^ digits = ltb-true n (10 ^ digits) high in
    let up : 10 ^ digits ≤ 10 ^ 5 = pow-le-pow_right {n = 10} (omega arith) few in
    omega arith

-- ---- entries that fit

seats_of_row : (n : ℕ) (o : Option OfficeRow) → row_of n ≡ o → option_map_or (λ r. r.most_seats) o 0 ≤ proportional_seats
seats_of_row n None f = omega arith
seats_of_row n (Some row) f =
    let (_, rest) = and_parts (is_within 1 greatest_code (pos row.code)) _ (found_row n row f).1 in
    leb-true row.most_seats proportional_seats (and_parts (nat_le 2 row.digits && nat_le row.digits 5) _ rest).1

seats_few : (code : ℕ) (seats : ℤ) → is_within 1 (most_seats code) seats ≡ true → is_within 1 proportional_seats seats ≡ true
seats_few code (negsuc n) h = absurd (false≢true h)
seats_few code (pos n) h =
    let (least, most) = and_parts (nat_le 1 n) (nat_le n (most_seats code)) h in
    let few : n ≤ most_seats code = leb-true n (most_seats code) most in
    and_from _ _ least (le-leb n proportional_seats (omega (arith, seats_of_row code (row_of code) refl)))

office_parts_fit : (code : ℤ) (kind : Option Kind) (seats : ℤ) → is_some (digits_by_code code) ≡ true → kind_fits code kind ≡ true
    → option_map_or (λ c. is_within 1 (most_seats c) seats) (natural code) false ≡ true
    → ((is_within 1 greatest_code code && is_some (digits_by_code code)) && (is_some kind && is_within 1 proportional_seats seats)) ≡ true
office_parts_fit (negsuc n) kind seats known fits few = absurd (false≢true known)
office_parts_fit (pos n) None seats known fits few = absurd (false≢true fits)
office_parts_fit (pos n) (Some kind) seats known fits few = and_from _ _ (and_from _ _ (code_in_range n known) known) (seats_few n seats few)

pub offices_fit : (d : DocumentData) → Kept d → list_all office_fits d.offices ≡ true
offices_fit d k =
    let (known, _) = and_parts (list_all (λ o. is_some (digits_by_code o.code)) d.offices) (are_distinct int_eq (map (λ o. o.code) d.offices)) k.codes in
    all_from_two (λ o. is_some (digits_by_code o.code)) (λ o. kind_fits o.code o.kind && seats_in_range o) office_fits
    (λ o h both. let (fits, few) = and_parts (kind_fits o.code o.kind) (seats_in_range o) both in office_parts_fit o.code o.kind o.seats h fits few)
    d.offices known
    (all_from_two (λ o. kind_fits o.code o.kind) seats_in_range (λ o. kind_fits o.code o.kind && seats_in_range o) (λ o a b. and_from _ _ a b) d.offices k.kinds k.seats)

pub parties_fit : (d : DocumentData) → Kept d → list_all party_fits d.parties ≡ true
parties_fit d k = k.party_numbers

-- the number has the digits, if it has those of an office
abbrev has_digits_of : Option ℕ → ℤ → Bool
has_digits_of o number = option_map_or (λ digits. option_map_or (has_digits digits) (natural number) false) o false

number_fits_at : (n : ℕ) (o : Option ℕ) (number : ℤ) → code_digits n ≡ o → has_digits_of o number ≡ true → is_within 0 99999 number ≡ true
number_fits_at n None number f e = absurd (false≢true e)
number_fits_at n (Some digits) (negsuc m) f e = absurd (false≢true e)
number_fits_at n (Some digits) (pos m) f e =
    and_from (nat_le 0 m) (nat_le m 99999) (le-leb 0 m (omega arith)) (le-leb m 99999 (has_digits-below digits m (code_digits-range n digits f).1 e))

number_fits : (office number : ℤ) → has_digits_of (digits_by_code office) number ≡ true → is_within 0 99999 number ≡ true
number_fits (negsuc n) number e = absurd (false≢true e)
number_fits (pos n) number e = number_fits_at n (code_digits n) number refl e

birth_fits : (birth : ℤ) → is_valid_date birth ≡ true → is_within 0 99999999 birth ≡ true
birth_fits (negsuc n) h = absurd (false≢true h)
birth_fits (pos n) h = and_from (nat_le 0 n) (nat_le n 99999999) (le-leb 0 n (omega arith)) (le-leb n 99999999 (omega (arith, is_date-below n h)))

pub candidates_fit : (d : DocumentData) → Kept d → list_all candidate_fits d.candidates ≡ true
candidates_fit d k =
    all_from_two (has_office d.offices) (λ c. is_valid_date c.birth) candidate_fits
    (λ c office birth. (
    let (_, digits) = and_parts (list_any (λ o. int_eq o.code c.office) d.offices) (has_digits_of (digits_by_code c.office) c.number) office in
    and_from _ _ (number_fits c.office c.number digits) (birth_fits c.birth birth)))
    d.candidates k.have_office k.births

-- ---- rule 4 by its parts

counts : (d : DocumentData) → Kept d → counts_in_range d ≡ true
counts d k = (and_parts (counts_in_range d) (head_in_range d) (and_parts (counts_in_range d && head_in_range d) _ k.ranges).0).0

pub offices_few : (d : DocumentData) → Kept d → (1 ≤ length d.offices) × (length d.offices ≤ most_offices)
offices_few d k =
    let (h, _) = and_parts _ _ (counts d k) in
    let (least, most) = and_parts (nat_le 1 (length d.offices)) (nat_le (length d.offices) most_offices) h in
    (leb-true 1 (length d.offices) least, leb-true (length d.offices) most_offices most)

pub parties_few : (d : DocumentData) → Kept d → (1 ≤ length d.parties) × (length d.parties ≤ most_parties)
parties_few d k =
    let (_, rest) = and_parts (nat_le 1 (length d.offices) && nat_le (length d.offices) most_offices) _ (counts d k) in
    let (h, _) = and_parts (nat_le 1 (length d.parties) && nat_le (length d.parties) most_parties) _ rest in
    let (least, most) = and_parts (nat_le 1 (length d.parties)) (nat_le (length d.parties) most_parties) h in
    (leb-true 1 (length d.parties) least, leb-true (length d.parties) most_parties most)

lists_few : (d : DocumentData) → Kept d
    → (nat_le (length d.candidates) most_candidates && ((nat_le 1 (length d.sections) && nat_le (length d.sections) most_sections) && nat_le (length d.federations) most_federations)) ≡ true
lists_few d k =
    let (_, rest) = and_parts (nat_le 1 (length d.offices) && nat_le (length d.offices) most_offices) _ (counts d k) in
    (and_parts (nat_le 1 (length d.parties) && nat_le (length d.parties) most_parties) _ rest).1

pub candidates_few : (d : DocumentData) → Kept d → length d.candidates ≤ most_candidates
candidates_few d k = leb-true (length d.candidates) most_candidates (and_parts (nat_le (length d.candidates) most_candidates) _ (lists_few d k)).0

pub sections_few : (d : DocumentData) → Kept d → (1 ≤ length d.sections) × (length d.sections ≤ most_sections)
sections_few d k =
    let (_, rest) = and_parts (nat_le (length d.candidates) most_candidates) _ (lists_few d k) in
    let (h, _) = and_parts (nat_le 1 (length d.sections) && nat_le (length d.sections) most_sections) (nat_le (length d.federations) most_federations) rest in
    let (least, most) = and_parts (nat_le 1 (length d.sections)) (nat_le (length d.sections) most_sections) h in
    (leb-true 1 (length d.sections) least, leb-true (length d.sections) most_sections most)

pub federations_few : (d : DocumentData) → Kept d → length d.federations ≤ most_federations
federations_few d k =
    let (_, rest) = and_parts (nat_le (length d.candidates) most_candidates) _ (lists_few d k) in
    let (_, h) = and_parts (nat_le 1 (length d.sections) && nat_le (length d.sections) most_sections) (nat_le (length d.federations) most_federations) rest in
    leb-true (length d.federations) most_federations h

heads : (d : DocumentData) → Kept d → head_in_range d ≡ true
heads d k = (and_parts (counts_in_range d) (head_in_range d) (and_parts (counts_in_range d && head_in_range d) _ k.ranges).0).1

pub process_in_range : (d : DocumentData) → Kept d → is_within 1 greatest_process d.process ≡ true
process_in_range d k = (and_parts (is_within 1 greatest_process d.process) _ (heads d k)).0

pub date_is_valid : (d : DocumentData) → Kept d → is_valid_date d.date ≡ true
date_is_valid d k = (and_parts (is_valid_date d.date) (is_within 1 2 d.turn) (and_parts (is_within 1 greatest_process d.process) _ (heads d k)).1).0

pub date_fits : (d : DocumentData) → Kept d → is_within 0 99999999 d.date ≡ true
date_fits d k = birth_fits d.date (date_is_valid d k)

pub turn_in_range : (d : DocumentData) → Kept d → is_within 1 2 d.turn ≡ true
turn_in_range d k = (and_parts (is_valid_date d.date) (is_within 1 2 d.turn) (and_parts (is_within 1 greatest_process d.process) _ (heads d k)).1).1

pub sections_in_range : (d : DocumentData) → Kept d → list_all section_in_range d.sections ≡ true
sections_in_range d k = (and_parts (list_all section_in_range d.sections) (names_in_range d) (and_parts (counts_in_range d && head_in_range d) _ k.ranges).1).0

names : (d : DocumentData) → Kept d → names_in_range d ≡ true
names d k = (and_parts (list_all section_in_range d.sections) (names_in_range d) (and_parts (counts_in_range d && head_in_range d) _ k.ranges).1).1

pub party_names : (d : DocumentData) → Kept d → list_all (λ p. is_name p.name) d.parties ≡ true
party_names d k = (and_parts (list_all (λ p. is_name p.name) d.parties) _ (names d k)).0

pub candidate_names : (d : DocumentData) → Kept d → list_all (λ c. is_name c.name) d.candidates ≡ true
candidate_names d k =
    let (_, rest) = and_parts (list_all (λ p. is_name p.name) d.parties) _ (names d k) in
    (and_parts (list_all (λ c. is_name c.name) d.candidates) (list_all (λ f. is_name f.name) d.federations) rest).0

pub federation_names : (d : DocumentData) → Kept d → list_all (λ f. is_name f.name) d.federations ≡ true
federation_names d k =
    let (_, rest) = and_parts (list_all (λ p. is_name p.name) d.parties) _ (names d k) in
    (and_parts (list_all (λ c. is_name c.name) d.candidates) (list_all (λ f. is_name f.name) d.federations) rest).1

pub codes_differ : (d : DocumentData) → Kept d → are_distinct int_eq (map (λ o. o.code) d.offices) ≡ true
codes_differ d k = (and_parts (list_all (λ o. is_some (digits_by_code o.code)) d.offices) (are_distinct int_eq (map (λ o. o.code) d.offices)) k.codes).1

-- ---- federations

-- what is so of all numbers together is so of each federation's
pub of_each : (test : ℤ → Bool) (fs : List FederationEntry) → list_all test (all_members fs) ≡ true → list_all (λ f. list_all test f.parties) fs ≡ true
of_each test [] e = refl
of_each test (f ∷ fs) e =
    let (here, more) = and_parts (list_all test f.parties) (list_all test (all_members fs)) (sym (list_all-append test f.parties (all_members fs)) ∙ e) in
    and_from _ _ here (of_each test fs more)

pub members_of_each : (d : DocumentData) → Kept d → list_all (λ f. list_all (λ n. list_any (λ p. int_eq p.number n) d.parties) f.parties) d.federations ≡ true
members_of_each d k = of_each (λ n. list_any (λ p. int_eq p.number n) d.parties) d.federations k.members_are_parties

-- a number of the parties has their range
party_number : (n : ℤ) (ps : List PartyEntry) → list_all (λ p. is_within 10 99 p.number) ps ≡ true → list_any (λ p. int_eq p.number n) ps ≡ true → is_within 10 99 n ≡ true
party_number n [] range e = absurd (false≢true e)
party_number n (p ∷ ps) range e =
    let (here, more) = and_parts (is_within 10 99 p.number) (list_all (λ q. is_within 10 99 q.number) ps) range in
    elim (cases_Bool (int_eq p.number n)) [
      | inl same ↦ (let is : p.number ≡ n = (Decides-int_eq p.number n).0 same in rw is at here)
      | inr other ↦ party_number n ps more (rw other at e)
    ]

pub federations_fit : (d : DocumentData) → Kept d → list_all federation_fits d.federations ≡ true
federations_fit d k =
    let there = λ (n : ℤ). list_any (λ p. int_eq p.number n) d.parties in
    of_each (is_within 10 99) d.federations
    (all_from_two there there (is_within 10 99) (λ n e _. party_number n d.parties k.party_numbers e) (all_members d.federations) k.members_are_parties k.members_are_parties)

-- What the code of an office gives: it fits its field, and its numbers have few digits, four or five where the office is proportional.
use Rattle.std.proofs.Common.{◌≡◌, ℕ, Bool, true, false, List, [], ◌∷◌, length, Option, Some, None, ◌⊎◌, inl, inr, refl, arith}
use Rattle.std.specs.Prelude.{if◌then◌else◌, nat_lt, ◌&&◌, ◌||◌, ◌==◌, not, is_some, unwrap_or, option_map, pos}
use Rattle.std.specs.List.{find, list_all, list_any}
use Rattle.std.specs.Option.{option_map_or}
use Rattle.std.proofs.lemmas.Bool.Decides.{nat_tests}
use Rattle.urna_base.specs.Moment.{is_between}
use Rattle.urna_base.proofs.DigitLaws.{both_from_and}
use Rattle.election_tables.specs.Fields.{is_within}
use Rattle.election_tables.specs.Limits.{most_offices}
use Rattle.election_tables.proofs.PlacesOfPanels.{may_have-few, one_may_have}
use Rattle.election_tables.specs.Offices.{code_digits, code_proportional, may_have_places, greatest_code, kinds_allow, office_rows, row_of}
use Rattle.election_tables.specs.declared.office.Kind.TheVariants as kind
use Rattle.election_tables.proofs.Kept.{code_in_range}
use Rattle.poll_report.specs.Report.{digits_in, may_have_code}
use Rattle.qr_text.specs.Table.{fits}
use Rattle.qr_text.specs.declared.table.TheConstants.{TABLE}

two_digits : (n : ℕ) → is_within 1 greatest_code (pos n) ≡ true → is_between 1 99 n ≡ true
two_digits n h = grind (arith, nat_tests)

-- a code that an office may have fits its field
pub code_fits : (before : List ℕ) (code : ℕ) → may_have_code before code ≡ true → fits TABLE.office.form code ≡ true
code_fits before code h =
    let behind = (both_from_and (nat_lt (length before) most_offices)
    (is_some (code_digits code) && not (list_any (λ (c : ℕ). c == code) before)) h).1 in
    two_digits code (code_in_range code
    (both_from_and (is_some (code_digits code)) (not (list_any (λ (c : ℕ). c == code) before)) behind).0)

-- an office that may stand has one place at least
pub one_place : (before : List ℕ) (code : ℕ) → may_have_code before code ≡ true → may_have_places code 1 ≡ true
one_place before code h =
    let behind = (both_from_and (nat_lt (length before) most_offices)
    (is_some (code_digits code) && not (list_any (λ (c : ℕ). c == code) before)) h).1 in
    one_may_have code (both_from_and (is_some (code_digits code)) (not (list_any (λ (c : ℕ). c == code) before)) behind).0

-- one place isn't said
pub not_one : (places : ℕ) → fits TABLE.places.form places ≡ true → (places == 1) ≡ false
not_one places h = grind (arith, nat_tests)

-- and two, if any, is
pub other_fits : (code places : ℕ) → may_have_places code places ≡ true → (places == 1) ≡ false → fits TABLE.places.form places ≡ true
other_fits code places may other = let few = may_have-few code places may in grind (arith, nat_tests)

-- ---- four or five digits

-- what is so of each element is so of the one that is found
found_has : {A : Type 0} (has p : A → Bool) (xs : List A) → list_all has xs ≡ true → option_map_or has (find p xs) true ≡ true
found_has has p [] h = refl
found_has has p (x ∷ xs) h = let both = both_from_and (has x) (list_all has xs) h in at (p x) both.0 (found_has has p xs both.1)
  where
    at : (b : Bool) → has x ≡ true → option_map_or has (find p xs) true ≡ true
        → option_map_or has (if b then Some x else find p xs) true ≡ true
    at true here rest = here
    at false here rest = rest

either : (digits : ℕ) (a b : Bool) → (a || b) ≡ true → (a ≡ true → digits ≡ 4) → (b ≡ true → digits ≡ 5) → (digits ≡ 4) ⊎ (digits ≡ 5)
either digits true b h f g = inl (f refl)
either digits false b h f g = inr (g h)

four_or_five : (digits : ℕ) (b : Bool) → (not b || (digits == 4 || digits == 5)) ≡ true → b ≡ true → (digits ≡ 4) ⊎ (digits ≡ 5)
four_or_five digits false h e = absurd (cc)
four_or_five digits true h e = either digits (digits == 4) (digits == 5) h (λ x. grind (arith, nat_tests)) (λ x. grind (arith, nat_tests))

-- a row allows the kind, and so has these digits; a code without a row allows none
of_row : {R : Type 0} (digits : R → ℕ) (allows_it : R → Bool) (o : Option R)
    → option_map_or (λ r. not (allows_it r) || (digits r == 4 || digits r == 5)) o true ≡ true
    → option_map_or allows_it o false ≡ true
    → (unwrap_or (option_map digits o) 0 ≡ 4) ⊎ (unwrap_or (option_map digits o) 0 ≡ 5)
of_row digits allows_it None all h = absurd (cc)
of_row digits allows_it (Some r) all h = four_or_five (digits r) (allows_it r) all h

pub proportional_digits : (code : ℕ) → code_proportional code ≡ true → (digits_in code ≡ 4) ⊎ (digits_in code ≡ 5)
unfolding row_of
proportional_digits code h =
    of_row (λ r. r.digits) (λ r. kinds_allow r.kinds kind.Proportional) (row_of code)
    (found_has (λ r. not (kinds_allow r.kinds kind.Proportional) || (r.digits == 4 || r.digits == 5)) (λ r. code == r.code)
    office_rows refl) h

-- Laws of a number's shortest digits.
use Rattle.std.proofs.Common.{◌≡◌, ℕ, ◌<◌, ◌≤◌, ◌^◌, true, List, length, get_or, refl, ap, ◌∙◌, length-append, ◌⊎◌, inl, inr, arith, rules, Some, sym}
use Rattle.std.specs.Prelude.{if◌then◌else◌, None}
use Rattle.std.specs.Fmt.{decimal}
use Rattle.std.specs.List.{list_all}
use Rattle.std.proofs.lemmas.Fmt.{length-decimal-le, decimal_nonempty, decimal_digit, first_decimal, digits_decimal, digits_value-decimal, decimal-digits_value}
use Rattle.std.proofs.lemmas.Str.Parse.{IsDigitsTest, IsNumeralModel, numerals_by_weight}
use Rattle.std.proofs.lemmas.Bool.{cases_eq}
use Rattle.std.proofs.lemmas.Bool.Decides.{nat_tests}
use Rattle.std.proofs.Math.Nat.{pow-le-pow_right}
use Rattle.urna_base.specs.Digits.{is_digit, value_of_digits, is_decimal, decimal_value, decimal_within}
use Rattle.urna_base.specs.Moment.{is_between}
use Rattle.urna_base.proofs.Cases.{and_then_some}
use Rattle.urna_base.proofs.DigitLaws.{both_from_and, some_from_test, is_digit-true, is_digit-from, value_of_digits-below, length-padded}

-- a number of 64 bits has at most 20 digits
pub length-decimal-le_20 : (v : ℕ) → v < 2 ^ 64 → length (decimal v) ≤ 20
length-decimal-le_20 v h = length-decimal-le 20 v (omega arith) (omega arith) h

-- a number of 32 bits has at most 10
pub length-decimal-le_10 : (v : ℕ) → v < 2 ^ 32 → length (decimal v) ≤ 10
length-decimal-le_10 v h = length-decimal-le 10 v (omega arith) (omega arith) (omega arith)

tells_digits : IsDigitsTest (λ ds. list_all is_digit ds ≡ true)
tells_digits =
    record {
      empty = refl;
      parts = λ c cs all.
          let both = both_from_and (is_digit c) (list_all is_digit cs) all in
          let digit : (48 ≤ c) × (c ≤ 57) = is_digit-true c both.0 in
          ((digit.0, digit.1), both.1);
      more = λ c cs digit all. rw (is_digit-from c (omega arith) (omega arith)) all;
    }

-- std's words on digits are ours
own : IsNumeralModel (λ ds. list_all is_digit ds ≡ true) value_of_digits
own = numerals_by_weight _ tells_digits value_of_digits (search rules)

-- the digits of a number, and its value
decimal_digits : (v : ℕ) → v < 2 ^ 64 → list_all is_digit (decimal v) ≡ true
decimal_digits v h = digits_decimal own v h

value_of_digits-decimal : (v : ℕ) → v < 2 ^ 64 → value_of_digits (decimal v) ≡ v
value_of_digits-decimal v h = digits_value-decimal own v h

pub all_digits : (v : ℕ) → v < 10 ^ 18 → list_all is_digit (decimal v) ≡ true
all_digits v h = decimal_digits v (omega arith)

-- only 0 begins with a 0
no_leading_zero : (v : ℕ) → v < 2 ^ 64 → (length (decimal v) ≡ 1) ⊎ (48 < get_or (decimal v) 0 0)
no_leading_zero v h =
    elim (cases_eq v 0) [
      | inl zero ↦ inl (ap (λ n. length (decimal n)) zero ∙ ap length (decimal_digit 0 (omega arith)))
      | inr other ↦ inr (first_decimal v (omega arith) h)
    ]

-- the parts of a decimal's test
is_decimal-from : (bytes : List ℕ) → 1 ≤ length bytes → length bytes ≤ 18 → list_all is_digit bytes ≡ true → (length bytes ≡ 1) ⊎ (48 < get_or bytes 0 0) → is_decimal bytes ≡ true
is_decimal-from bytes some few all first = rw all (elim first [ inl one ↦ grind (arith, nat_tests) | inr high ↦ grind (arith, nat_tests) ])

pub record IsDecimal (bytes : List ℕ) : Type 0 where
  pub some : 1 ≤ length bytes
  pub few : length bytes ≤ 18
  pub all : list_all is_digit bytes ≡ true
  pub first : get_or bytes 0 0 ≡ 48 → length bytes ≡ 1

pub is_decimal-true : (bytes : List ℕ) → is_decimal bytes ≡ true → IsDecimal bytes
is_decimal-true bytes e =
    let front = both_from_and _ _ e in
    let three = both_from_and _ (list_all is_digit bytes) front.0 in
    record { some = grind (arith, nat_tests); few = grind (arith, nat_tests); all = three.1; first = λ zero. grind (arith, nat_tests) }

-- what `decimal` prints reads back
pub decimal_value-decimal : (v : ℕ) → v < 10 ^ 18 → decimal_value (decimal v) ≡ Some v
unfolding decimal_value
decimal_value-decimal v h =
    let big : v < 2 ^ 64 = omega arith in
    let test : is_decimal (decimal v) ≡ true =
    is_decimal-from (decimal v) (decimal_nonempty v big) (length-decimal-le 18 v (omega arith) h big) (decimal_digits v big) (no_leading_zero v big)
    in
    rw (test, value_of_digits-decimal v big) refl

-- what `decimal_value` reads: 1 to 18 digits without a leading zero, of that value
pub decimal_value-some : (bytes : List ℕ) (v : ℕ) → decimal_value bytes ≡ Some v → IsDecimal bytes × (value_of_digits bytes ≡ v)
unfolding decimal_value
decimal_value-some bytes v e =
    let test = some_from_test _ (value_of_digits bytes) v e in
    (is_decimal-true bytes test.0, test.1)

pub decimal_value-below : (bytes : List ℕ) (v : ℕ) → decimal_value bytes ≡ Some v → v < 10 ^ 18
decimal_value-below bytes v e =
    let parts = decimal_value-some bytes v e in
    let below : value_of_digits bytes < 10 ^ length bytes = value_of_digits-below bytes parts.0.all in
    let most : 10 ^ length bytes ≤ 10 ^ 18 =
    pow-le-pow_right {n = 10} (omega arith) {i = length bytes} {j = 18} parts.0.few
    in
    omega (arith, parts.1)

-- what is read prints back
pub decimal-decimal_value : (bytes : List ℕ) (v : ℕ) → decimal_value bytes ≡ Some v → decimal v ≡ bytes
decimal-decimal_value bytes v e =
    let parts = decimal_value-some bytes v e in
    let below = decimal_value-below bytes v e in
    rw (← parts.1) (decimal-digits_value own bytes parts.0.all parts.0.some parts.0.first (rw parts.1 (omega arith)))

-- a number within bounds reads back
pub within_written : (low high n : ℕ) → is_between low high n ≡ true → n < 10 ^ 18 → decimal_within low high (decimal n) ≡ Some n
within_written low high n h few = rw (decimal_value-decimal n few, h) refl

-- what was read within bounds
pub record IsWithin (low high n : ℕ) (bytes : List ℕ) : Type 0 where
  pub printed : bytes ≡ decimal n
  pub within : is_between low high n ≡ true
  pub few : n < 10 ^ 18

pub within_read : (low high n : ℕ) (bytes : List ℕ) → decimal_within low high bytes ≡ Some n → IsWithin low high n bytes
within_read low high n bytes h =
    let found = and_then_some (decimal_value bytes) (λ v. if is_between low high v then Some v else None) n h in
    let test = some_from_test (is_between low high found.0) found.0 n found.2 in
    let value : decimal_value bytes ≡ Some n = found.1 ∙ ap (λ (v : ℕ). Some v) test.1 in
    record { printed = sym (decimal-decimal_value bytes n value); within = rw (← test.1) test.0; few = decimal_value-below bytes n value }

-- how long the pieces of a shown line are
pub ruleset line_lengths = (length-append, length-padded, length-decimal-le_10, length-decimal-le_20)

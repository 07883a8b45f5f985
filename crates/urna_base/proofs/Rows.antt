-- Worked rows of the definitions.
use Rattle.std.proofs.Common.{◌≡◌, true, false, [], ◌∷◌, ◌++◌, refl, Some, None}
use Rattle.std.specs.Prelude.{codes}
use Rattle.urna_base.specs.Digits.{digits_value, decimal_value, padded}
use Rattle.urna_base.specs.Moment.{is_date, is_moment}
use Rattle.urna_base.specs.Lines.{lines_of}

exactly_two_digits : digits_value 2 (codes "07") ≡ Some 7
unfolding digits_value
exactly_two_digits = refl

two_digits_are_not_three : digits_value 3 (codes "07") ≡ None
unfolding digits_value
two_digits_are_not_three = refl

a_letter_is_no_digit : digits_value 2 (codes "1X") ≡ None
unfolding digits_value
a_letter_is_no_digit = refl

zero_is_a_decimal : decimal_value (codes "0") ≡ Some 0
unfolding decimal_value
zero_is_a_decimal = refl

no_leading_zero : decimal_value (codes "012") ≡ None
unfolding decimal_value
no_leading_zero = refl

eighteen_digits : decimal_value (codes "999999999999999999") ≡ Some 999999999999999999
unfolding decimal_value
eighteen_digits = refl

nineteen_digits_are_none : decimal_value (codes "1000000000000000000") ≡ None
unfolding decimal_value
nineteen_digits_are_none = refl

nothing_is_no_decimal : decimal_value [] ≡ None
unfolding decimal_value
nothing_is_no_decimal = refl

printed_with_four_digits : padded 4 12 ≡ codes "0012"
unfolding padded
printed_with_four_digits = refl

election_day : is_date 20261004 ≡ true
unfolding is_date
election_day = refl

no_thirteenth_month : is_date 20261304 ≡ false
unfolding is_date
no_thirteenth_month = refl

day_31_of_any_month : is_date 20260231 ≡ true
unfolding is_date
day_31_of_any_month = refl

last_second : is_moment 20261004235959 ≡ true
unfolding is_moment is_date
last_second = refl

no_hour_24 : is_moment 20261004240000 ≡ false
unfolding is_moment is_date
no_hour_24 = refl

an_empty_text_has_no_lines : lines_of [] ≡ []
unfolding lines_of
an_empty_text_has_no_lines = refl

a_last_feed_ends_its_line : lines_of (codes "a" ++ 10 ∷ []) ≡ codes "a" ∷ []
unfolding lines_of
a_last_feed_ends_its_line = refl

an_empty_line_counts : lines_of (codes "a" ++ 10 ∷ 10 ∷ codes "bc") ≡ codes "a" ∷ [] ∷ codes "bc" ∷ []
unfolding lines_of
an_empty_line_counts = refl

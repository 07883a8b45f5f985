-- Laws of dates and moments.
use Rattle.std.proofs.Common.{◌≡◌, ℕ, ◌/◌, ◌%◌, ◌<◌, ◌^◌, true, arith}
use Rattle.std.proofs.lemmas.Bool.Decides.{nat_tests}
use Rattle.urna_base.specs.Moment.{is_between, is_date, is_moment}
use Rattle.urna_base.proofs.DigitLaws.{both_from_and}

-- a date has 8 digits
pub is_date-below : (n : ℕ) → is_date n ≡ true → n < 10 ^ 8
unfolding is_date
is_date-below n e = grind (arith, nat_tests)

-- a moment has 14 digits
pub is_moment-below : (n : ℕ) → is_moment n ≡ true → n < 10 ^ 14
unfolding is_moment
is_moment-below n e =
    let front = both_from_and _ (is_between 0 59 (n % 100)) e in
    let hours = both_from_and _ (is_between 0 59 (n / 100 % 100)) front.0 in
    let date = both_from_and (is_date (n / 1000000)) _ hours.0 in
    let below = is_date-below (n / 1000000) date.0 in
    omega arith

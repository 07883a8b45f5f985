-- Worked rows of the quotients and of the order of averages
use Rattle.std.proofs.Common.{◌≡◌, ℕ, true, false, refl}
use Rattle.quotients.specs.Quotients.{electoral_quotient, party_quotient, has_tenth, has_fifth, has_four_fifths}
use Rattle.quotients.specs.Average.{AverageData, comes_before}

-- 112.5
a_half_is_dropped : electoral_quotient 450 4 ≡ 112
a_half_is_dropped = refl

-- 112.75
more_than_a_half_counts : electoral_quotient 451 4 ≡ 113
more_than_a_half_counts = refl

-- 0.3
too_few_votes : electoral_quotient 3 10 ≡ 0
too_few_votes = refl

party_fraction_is_dropped : party_quotient 399 200 ≡ 1
party_fraction_is_dropped = refl

-- 10% of 113 is 11.3
eleven_is_no_tenth : has_tenth 11 113 ≡ false
eleven_is_no_tenth = refl

twelve_is_a_tenth : has_tenth 12 113 ≡ true
twelve_is_a_tenth = refl

-- 20% of 113 is 22.6
twenty_two_is_no_fifth : has_fifth 22 113 ≡ false
twenty_two_is_no_fifth = refl

-- 80% of 200 is 160
just_four_fifths : has_four_fifths 160 200 ≡ true
just_four_fifths = refl

one_vote_below_four_fifths : has_four_fifths 159 200 ≡ false
one_vote_below_four_fifths = refl

abbrev average : ℕ → ℕ → ℕ → AverageData
average party votes divisor = record { votes = votes; divisor = divisor; party = party }

-- 166.7 against 150
the_greater_average_first : comes_before (average 10 500 3) (average 11 300 2) ≡ true
the_greater_average_first = refl

-- 100 and 100
more_votes_first : comes_before (average 11 200 2) (average 10 300 3) ≡ false
more_votes_first = refl

the_lower_number_first : comes_before (average 10 300 3) (average 11 300 3) ≡ true
the_lower_number_first = refl

-- without votes both averages are 0
the_lower_divisor_first : comes_before (average 10 0 2) (average 10 0 3) ≡ true
the_lower_divisor_first = refl

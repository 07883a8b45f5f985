-- Worked rows: rolls, their titles, and the first line at fault.
use Rattle.std.proofs.Common.{◌≡◌, ℕ, List, [], ◌∷◌, refl, codes, Option, Some, None, true, false}
use Rattle.urna_base.specs.Digits.{digits_value}
use Rattle.urna_base.specs.Lines.{lines_of}
use Rattle.election_tables.specs.Roll.{titles_on, bad_line, has_count}

abbrev fault : List ℕ → Option ℕ
fault bytes = bad_line (titles_on (lines_of bytes))

abbrev three : List ℕ
three = codes "010000000001\n010000000002\n010000000003\n"

pub three_titles : titles_on (lines_of three) ≡ Some 10000000001 ∷ Some 10000000002 ∷ Some 10000000003 ∷ []
unfolding lines_of digits_value
three_titles = refl

pub three_rise : fault three ≡ None
unfolding lines_of digits_value
three_rise = refl

-- the last line may lack its line feed
pub no_last_feed : titles_on (lines_of (codes "010000000001")) ≡ Some 10000000001 ∷ []
unfolding lines_of digits_value
no_last_feed = refl

-- equal neighbours in lines 1 and 2
pub equal_neighbours : fault (codes "010000000001\n010000000001\n010000000003\n") ≡ Some 2
unfolding lines_of digits_value
equal_neighbours = refl

-- 11 digits, a letter, an empty line, a space
pub eleven_digits : fault (codes "01000000001\n") ≡ Some 1
unfolding lines_of digits_value
eleven_digits = refl

pub a_letter : fault (codes "010000000001\n01000000000A\n") ≡ Some 2
unfolding lines_of digits_value
a_letter = refl

pub empty_line : fault (codes "010000000001\n010000000002\n\n010000000003\n") ≡ Some 3
unfolding lines_of digits_value
empty_line = refl

pub falls : fault (codes "010000000002\n010000000003\n010000000001\n010000000001\n") ≡ Some 3
unfolding lines_of digits_value
falls = refl

-- an empty roll has no lines
pub empty_roll : has_count (lines_of []) ≡ false
unfolding lines_of digits_value
empty_roll = refl

pub three_lines : has_count (lines_of three) ≡ true
unfolding lines_of digits_value
three_lines = refl

-- What single fields of the document may hold: numbers in a range, dates, names, numbers with so many digits.
use Rattle.std.specs.Prelude.{ℕ, ◌-◌, ◌/◌, ◌^◌, ℤ, pos, negsuc, List, length, Option, Some, None, Bool, false, not, ◌&&◌, nat_le, nat_lt, ◌==◌}
use Rattle.std.specs.List.{list_all}
use Rattle.std.specs.Option.{option_map_or}
use Rattle.urna_base.specs.Moment.{is_date}
use Rattle.election_tables.specs.Limits.{longest_name}

-- the number, if it isn't negative
abbrev pub natural : ℤ → Option ℕ
natural (pos n) = Some n
natural (negsuc n) = None

-- the number lies in the range
abbrev pub is_within : ℕ → ℕ → ℤ → Bool
is_within low high z = option_map_or (λ n. nat_le low n && nat_le n high) (natural z) false

-- the number is a valid date
abbrev pub is_valid_date : ℤ → Bool
is_valid_date z = option_map_or is_date (natural z) false

-- 1 to `longest_name` bytes, none below 0x20 and none 0x7F
abbrev pub is_name : List ℕ → Bool
is_name name = (nat_le 1 (length name) && nat_le (length name) longest_name) && list_all (λ b. nat_le 0x20 b && not (b == 0x7f)) name

-- the number has exactly so many digits in its decimal form
abbrev pub has_digits : ℕ → ℕ → Bool
has_digits digits n = nat_le (10 ^ (digits - 1)) n && nat_lt n (10 ^ digits)

-- the first two of so many digits
abbrev pub first_two : ℕ → ℕ → ℕ
first_two digits n = n / 10 ^ (digits - 2)

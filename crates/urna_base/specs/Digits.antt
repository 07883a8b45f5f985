-- Numbers as ASCII digits. A number's shortest text is std's `decimal`.
use Rattle.std.specs.Prelude.{ℕ, zero, suc, ◌+◌, ◌-◌, ◌*◌, ◌/◌, ◌%◌, ◌^◌, Bool, not, ◌&&◌, ◌||◌, ◌==◌, nat_le, if◌then◌else◌, List, [], ◌∷◌, ◌++◌, length, slice_index, Option, None, Some}
use Rattle.std.specs.List.{list_all}
use Rattle.std.specs.Option.{option_and_then}
use Rattle.urna_base.specs.Moment.{is_between}

-- a byte is one of '0' to '9'
abbrev pub is_digit : ℕ → Bool
is_digit c = nat_le 48 c && nat_le c 57

-- the number that ASCII digits write: each digit counts ten to the number of digits after it
abbrev pub value_of_digits : List ℕ → ℕ
value_of_digits [] = 0
value_of_digits (c ∷ cs) = (c - 48) * 10 ^ length cs + value_of_digits cs

-- the number that exactly n digits write
unfoldable pub digits_value : ℕ → List ℕ → Option ℕ
digits_value n bytes = if length bytes == n && list_all is_digit bytes then Some (value_of_digits bytes) else None

-- 1 to 18 digits without a leading zero, or the single digit '0'
abbrev pub is_decimal : List ℕ → Bool
is_decimal bytes =
    nat_le 1 (length bytes) && nat_le (length bytes) 18 && list_all is_digit bytes
    && (length bytes == 1 || not (slice_index bytes 0 == 48))

-- the number that such a text writes
unfoldable pub decimal_value : List ℕ → Option ℕ
decimal_value bytes = if is_decimal bytes then Some (value_of_digits bytes) else None

-- the number that such a text writes, if it is within these bounds
abbrev pub decimal_within : ℕ → ℕ → List ℕ → Option ℕ
decimal_within low high bytes = option_and_then (λ n. if is_between low high n then Some n else None) (decimal_value bytes)

-- a number printed with exactly so many digits
unfoldable pub padded : ℕ → ℕ → List ℕ
padded zero n = []
padded (suc k) n = padded k (n / 10) ++ (48 + n % 10) ∷ []

-- A date is a number YYYYMMDD, and a moment is YYYYMMDDHHMMSS.
use Rattle.std.specs.Prelude.{ℕ, ◌/◌, ◌%◌, Bool, ◌&&◌, nat_le}

-- n is at least low and at most high
abbrev pub is_between : ℕ → ℕ → ℕ → Bool
is_between low high n = nat_le low n && nat_le n high

-- year 1000 to 9999, month 1 to 12, day 1 to 31
unfoldable pub is_date : ℕ → Bool
is_date n = is_between 1000 9999 (n / 10000) && is_between 1 12 (n / 100 % 100) && is_between 1 31 (n % 100)

-- a date, then hour 0 to 23, minute and second 0 to 59
unfoldable pub is_moment : ℕ → Bool
is_moment n =
    is_date (n / 1000000) && is_between 0 23 (n / 10000 % 100) && is_between 0 59 (n / 100 % 100) && is_between 0 59 (n % 100)

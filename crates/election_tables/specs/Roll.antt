-- The roll: the titles of the voters of a section, one on each line, rising.
use Rattle.std.specs.Prelude.{◌≡◌, ℕ, ◌<◌, ◌≤◌, ◌^◌, List, ◌∷◌, length, map, Option, Some, None, Bool, true, false, not, ◌&&◌, nat_lt, nat_le}
use Rattle.std.specs.List.{All, zip, position_from}
use Rattle.std.specs.List.Sorted.{IsStrictlyIncreasing}
use Rattle.urna_base.specs.Digits.{digits_value}
use Rattle.urna_base.specs.Lines.{lines_of}
use Rattle.sha2.specs.Sha256.{sha256}
use Rattle.election_tables.specs.Limits.{most_voters}

-- what contracts see of a roll: its titles in order, and the SHA-256 of its bytes
pub record RollData : Type 0 where
  pub titles : List ℕ
  pub digest : List ℕ

-- the title on each line, where it is one: exactly 12 digits
abbrev pub titles_on : List (List ℕ) → List (Option ℕ)
titles_on lines = map (digits_value 12) lines

-- a line may stand below the line before it: it has a title, greater than the one before
abbrev pub may_follow : Option ℕ → Option ℕ → Bool
may_follow before None = false
may_follow None (Some title) = true
may_follow (Some before) (Some title) = nat_lt before title

-- the number, from 1, of the first line that isn't a title greater than the line before
abbrev pub bad_line : List (Option ℕ) → Option ℕ
bad_line titles = position_from (λ p. not (may_follow p.0 p.1)) 1 (zip (None ∷ titles) titles)

-- there are 1 to `most_voters` lines
abbrev pub has_count : List (List ℕ) → Bool
has_count lines = nat_le 1 (length lines) && nat_le (length lines) most_voters

-- the bytes are a roll, and these are its titles, with the SHA-256 of the bytes
pub record IsRollOf (bytes : List ℕ) (r : RollData) : Type 0 where
  pub count : has_count (lines_of bytes) ≡ true
  pub lines : bad_line (titles_on (lines_of bytes)) ≡ None
  pub titles : titles_on (lines_of bytes) ≡ map Some r.titles
  pub digest : r.digest ≡ sha256 bytes

-- the number of lines is right, and this line is the first at fault
pub record HasBadLine (bytes : List ℕ) (line : ℕ) : Type 0 where
  pub count : has_count (lines_of bytes) ≡ true
  pub bad : bad_line (titles_on (lines_of bytes)) ≡ Some line

-- the bytes are a roll
pub record IsRollText (bytes : List ℕ) : Type 0 where
  pub count : has_count (lines_of bytes) ≡ true
  pub lines : bad_line (titles_on (lines_of bytes)) ≡ None

-- what is so of every roll: 1 to `most_voters` titles of 12 digits, each greater than the one before
pub record IsRoll (r : RollData) : Type 0 where
  pub count : (1 ≤ length r.titles) × (length r.titles ≤ most_voters)
  pub rise : IsStrictlyIncreasing r.titles
  pub digits : All (λ title. title < 10 ^ 12) r.titles
  pub digest : length r.digest ≡ 32

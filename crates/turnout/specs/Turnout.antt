-- Who came: a mark for each place of the roll
use Rattle.std.specs.Prelude.{◌≡◌, ◌≤◌, ℕ, Bool, false, List, length, unwrap_or, slice_get, count_by}

-- how many places a roll has at most
abbrev pub most_places : ℕ
most_places = 600

-- whether the voter of a place came; a place that the roll doesn't have did not
abbrev pub has_come : List Bool → ℕ → Bool
has_come came place = unwrap_or (slice_get came place) false

-- how many came
abbrev pub number_came : List Bool → ℕ
number_came came = count_by (λ mark. mark) came

-- Marks, their count and the memory for them: just the marks of the roll, so that none is taken later
pub record IsStored (marks : List Bool) (count capacity : ℕ) : Type 0 where
  pub few : length marks ≤ most_places
  pub counted : count ≡ number_came marks
  pub reserved : capacity ≡ length marks

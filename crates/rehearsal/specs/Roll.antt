-- The rehearsal's roll.
use Rattle.std.specs.Prelude.{ℕ, ◌+◌, List, map}
use Rattle.std.specs.List.{range_with_len}
use Rattle.urna_base.specs.Digits.{padded}
use Rattle.election_tables.specs.Roll.{RollData}
use Rattle.urna_base.specs.Lines.{lines_text}

-- the title of the voter at a place
abbrev pub title_at : ℕ → ℕ
title_at place = 100000000000 + place

-- the titles of so many voters
abbrev pub titles : ℕ → List ℕ
titles voters = range_with_len (title_at 0) voters

-- a line for each
abbrev pub roll_text : ℕ → List ℕ
roll_text voters = lines_text (map (padded 12) (titles voters))

-- the roll of so many voters, with the digest of the text that it is read from
abbrev pub generated_roll : ℕ → List ℕ → RollData
generated_roll voters digest = record { titles = titles voters; digest = digest }

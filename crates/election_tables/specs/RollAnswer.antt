-- What the reader of a roll's lines answers.
use Rattle.std.specs.Prelude.{◌≡◌, ⊤, ℕ, List, map, Option, Some, None, if◌then◌else◌}
use Rattle.urna_base.specs.Digits.{digits_value}
use Rattle.election_tables.specs.declared.roll.RollError.{RollError}
use Rattle.election_tables.specs.declared.roll.RollError.TheVariants as error
use Rattle.election_tables.specs.Roll.{titles_on, may_follow, bad_line}

-- the title on a line, where it may stand below the line before
abbrev pub title_below : Option ℕ → List ℕ → Option ℕ
title_below before line = if may_follow before (digits_value 12 line) then digits_value 12 line else None

-- the titles are those of the lines, which rise
abbrev pub AreTitlesOn : List (List ℕ) → List ℕ → Type 0
AreTitlesOn lines titles = (titles_on lines ≡ map Some titles) × (bad_line (titles_on lines) ≡ None)

-- want of memory says nothing, and the count isn't tested here
abbrev pub IsFaultOn : List (List ℕ) → RollError → Type 0
IsFaultOn lines error.Memory = ⊤
IsFaultOn lines error.Count = ⊥
IsFaultOn lines (error.Line k) = bad_line (titles_on lines) ≡ Some k

-- The fault of a record text: the first line that may not stand there, has no line feed, or is still wanted where the text ends.
use Rattle.std.specs.Prelude.{◌≡◌, ℕ, ◌+◌, ◌==◌, if◌then◌else◌, List, [], ◌∷◌, take}
use Rattle.urna_base.specs.Lines.{before_first_line}
use Rattle.vote_record.specs.RecordText.{line_end}
use Rattle.record_audit.specs.Spelling.{IsRecord, spelled_lines}
use Rattle.record_audit.specs.declared.text.RecordText.{RecordText}

-- the lines of a text, each with its line feed (10); what stands behind the last line feed is a line without one, if it isn't empty
unfoldable pub rows_of : List ℕ → List (List ℕ)
rows_of [] = []
rows_of (c ∷ rest) = if c == 10 then line_end ∷ rows_of rest else before_first_line c (rows_of rest)

-- a text begins as that of a record does: the first so many lines are the same, or both end before
abbrev pub Begins : ℕ → List ℕ → RecordText → Type 0
Begins k bytes r = take k (rows_of bytes) ≡ take k (spelled_lines r)

-- The fault of a text, by the number of its line, counted from 1: up to that line the text begins as that of some record, and with it as
-- that of none.
pub record IsLineFault (bytes : List ℕ) (line : ℕ) : Type 0 where
  pub before : ℕ
  pub next : line ≡ before + 1
  pub like : RecordText
  pub like_is : IsRecord like
  pub begins : Begins before bytes like
  pub strange : (q : RecordText) → IsRecord q → Begins line bytes q → ⊥

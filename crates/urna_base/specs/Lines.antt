-- The lines of a text, a text of lines, and lines of a word and numbers.
use Rattle.std.specs.Prelude.{ℕ, ◌==◌, if◌then◌else◌, List, [], ◌∷◌, ◌++◌}
use Rattle.std.specs.Fmt.{decimal}
use Rattle.std.specs.List.{flat_map}

-- a byte in front of the first line
abbrev pub before_first_line : ℕ → List (List ℕ) → List (List ℕ)
before_first_line c [] = (c ∷ []) ∷ []
before_first_line c (line ∷ lines) = (c ∷ line) ∷ lines

-- the pieces between line feeds; a piece after the last line feed is a line if it isn't empty
unfoldable pub lines_of : List ℕ → List (List ℕ)
lines_of [] = []
lines_of (c ∷ rest) = if c == 10 then [] ∷ lines_of rest else before_first_line c (lines_of rest)

-- lines as a text, each with its line feed (10)
abbrev pub lines_text : List (List ℕ) → List ℕ
lines_text lines = flat_map (λ line. line ++ 10 ∷ []) lines

-- a word, as a line with its line feed
abbrev pub word_line : List ℕ → List ℕ
word_line word = word ++ 10 ∷ []

-- a word and a number
abbrev pub number_line : List ℕ → ℕ → List ℕ
number_line word n = word ++ decimal n ++ 10 ∷ []

-- and two words, each with a number
abbrev pub two_number_line : List ℕ → ℕ → List ℕ → ℕ → List ℕ
two_number_line word n other m = word ++ decimal n ++ other ++ decimal m ++ 10 ∷ []

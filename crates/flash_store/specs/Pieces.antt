-- What is put out over two flashes, line by line: a line, and the state that is committed just before it, if it tells one
use Rattle.std.specs.Prelude.{ℕ, ◌+◌, ◌-◌, ◌<◌, ◌==◌, List, [], ◌∷◌, ◌++◌, Option, Some, None, if◌then◌else◌, length, map, take, unwrap_or}
use Rattle.std.specs.List.{AllByRecursion, concat}
use Rattle.std.specs.Option.{option_to_list}

-- a line, and the state that is committed just before it, where it tells one
pub record Piece (S : Type 0) : Type 0 where
  pub line : List ℕ
  pub commit : Option S

-- lines that tell no state
abbrev pub quiet : {S : Type 0} → List (List ℕ) → List (Piece S)
quiet lines = map (λ line. record { line = line; commit = None }) lines

-- a line that tells a state
abbrev pub telling : {S : Type 0} → S → List ℕ → List (Piece S)
telling s line = record { line = line; commit = Some s } ∷ []

-- the lines of these pieces, in order
abbrev pub lines_in : {S : Type 0} → List (Piece S) → List (List ℕ)
lines_in pieces = map (λ piece. piece.line) pieces

-- the text of all lines
abbrev pub text_in : {S : Type 0} → List (Piece S) → List ℕ
text_in pieces = concat (lines_in pieces)

-- the states that are committed, in order
abbrev pub commits_in : {S : Type 0} → List (Piece S) → List S
commits_in [] = []
commits_in (piece ∷ pieces) = option_to_list piece.commit ++ commits_in pieces

-- the state that is kept after the pieces
abbrev pub state_after : {S : Type 0} → S → List (Piece S) → S
state_after s [] = s
state_after s (piece ∷ pieces) = state_after (unwrap_or piece.commit s) pieces

-- how many lines the first n bytes of their text reach into by at least one byte
abbrev pub lines_reached : List (List ℕ) → ℕ → ℕ
lines_reached [] n = 0
lines_reached (line ∷ lines) n = if n == 0 then 0 else 1 + lines_reached lines (n - length line)

-- how many of the lines that the first n bytes of the text reach into tell a state
abbrev pub commits_reached : {S : Type 0} → List (Piece S) → ℕ → ℕ
commits_reached pieces n = length (commits_in (take (lines_reached (lines_in pieces) n) pieces))

-- no line is empty
abbrev pub AreFull : {S : Type 0} → List (Piece S) → Type 0
AreFull pieces = AllByRecursion (λ piece. 0 < length piece.line) pieces

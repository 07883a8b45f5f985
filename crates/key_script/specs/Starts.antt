-- Where the lines of a text begin.
use Rattle.std.specs.Prelude.{ℕ, ◌+◌, List, [], ◌∷◌, length}

-- the places at which lines begin, of which the first begins at this place and each ends with a line feed
abbrev pub starts_of : ℕ → List (List ℕ) → List ℕ
starts_of place [] = []
starts_of place (line ∷ lines) = place ∷ starts_of (place + (length line + 1)) lines

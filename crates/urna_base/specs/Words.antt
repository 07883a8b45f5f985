-- What follows a word in a text, a text cut at a byte, its pieces between spaces, and texts joined by them
use Rattle.std.specs.Prelude.{ℕ, ◌==◌, if◌then◌else◌, List, [], ◌∷◌, Option, None, Some, option_map}
use Rattle.std.specs.Borrow.{Bor}
use Rattle.std.specs.List.{join_with_byte, slice_split}

-- what follows a word, where the text begins with it
abbrev pub after_word : List ℕ → List ℕ → Option (List ℕ)
after_word [] text = Some text
after_word (w ∷ word) [] = None
after_word (w ∷ word) (c ∷ text) = if c == w then after_word word text else None

-- what stands in front of the first such byte of a text, and what stands behind it
unfoldable pub cut_at : ℕ → List ℕ → Option (List ℕ × List ℕ)
cut_at b [] = None
cut_at b (c ∷ text) = if c == b then Some ([], text) else option_map (λ x. (c ∷ x.0, x.1)) (cut_at b text)

-- texts with a space (32) between them
abbrev pub joined : List (List ℕ) → List ℕ
joined texts = join_with_byte 32 texts

-- the pieces of a text between single spaces
abbrev pub pieces : List ℕ → List (List ℕ)
pieces text = slice_split (λ b. b == 32) text

-- the pieces of what is left of a text, if it hasn't ended
abbrev pub pieces_left : Option (Bor (List ℕ)) → List (List ℕ)
pieces_left None = []
pieces_left (Some text) = pieces text.now

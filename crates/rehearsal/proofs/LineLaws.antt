-- The lines of a text of lines.
use Rattle.std.proofs.Common.{◌≡◌, ℕ, ◌+◌, true, List, [], ◌∷◌, ◌++◌, map, refl, append_assoc}
use Rattle.std.specs.List.{list_all}
use Rattle.std.proofs.lemmas.Bool.{and_parts}
use Rattle.urna_base.specs.Lines.{lines_of, lines_text}
use Rattle.urna_base.proofs.Lacking.{Lacks, is_other, other_byte}

-- a line that ends with its line feed is the first line
lines_of-feed : (line text : List ℕ) → Lacks 10 line → lines_of (line ++ 10 ∷ text) ≡ line ∷ lines_of text
unfolding lines_of
lines_of-feed [] text e = refl
lines_of-feed (c ∷ line) text e =
    let (here, more) = and_parts (is_other 10 c) (list_all (is_other 10) line) e in
    rw (other_byte 10 c here, lines_of-feed line text more) refl

no_lines : lines_of [] ≡ []
unfolding lines_of
no_lines = refl

-- lines with no line feed inside are read back
pub lines_of-text : (lines : List (List ℕ)) → list_all (list_all (is_other 10)) lines ≡ true → lines_of (lines_text lines) ≡ lines
lines_of-text [] e = no_lines
lines_of-text (line ∷ lines) e =
    let (here, more) = and_parts (list_all (is_other 10) line) (list_all (list_all (is_other 10)) lines) e in
    rw (append_assoc, lines_of-feed line (lines_text lines) here, lines_of-text lines more) refl

pub lines_lack : {A : Type 0} (f : A → List ℕ) (xs : List A) → ((x : A) → Lacks 10 (f x)) → list_all (list_all (is_other 10)) (map f xs) ≡ true
lines_lack f [] each = refl
lines_lack f (x ∷ xs) each = rw (each x, lines_lack f xs each) refl

-- The fields of a text, cut into parts (docs/FORMATS.md, "Parts").
use Rattle.std.specs.Prelude.{◌≡◌, ℕ, ◌+◌, ◌<◌, ◌≤◌, nat_le, if◌then◌else◌, List, [], ◌∷◌, ◌++◌, length}
use Rattle.std.specs.List.{AllByRecursion, flat_map}
use Rattle.urna_base.specs.Words.{joined}

-- how many bytes the fields of a part have at most, with the spaces between them
abbrev pub part_size : ℕ
part_size = 1000

-- behind a part stands no part, or one whose first field would not have fitted into it
abbrev pub IsFull : List (List ℕ) → List (List (List ℕ)) → Type 0
IsFull part [] = Unit {0}
IsFull part ([] ∷ parts) = ⊥
IsFull part ((f ∷ fs) ∷ parts) = (part_size < length (joined part) + 1 + length f) × IsFull (f ∷ fs) parts

-- each part has a field, and is as full as it can be
abbrev pub AreFull : List (List (List ℕ)) → Type 0
AreFull [] = Unit {0}
AreFull ([] ∷ parts) = ⊥
AreFull ((f ∷ fs) ∷ parts) = IsFull (f ∷ fs) parts

-- the parts of some fields: all of them in order, each part within its size, and as full as it can be
pub record IsCut (fields : List (List ℕ)) (parts : List (List (List ℕ))) : Type 0 where
  pub all : flat_map (λ part. part) parts ≡ fields
  pub within : AllByRecursion (λ part. length (joined part) ≤ part_size) parts
  pub full : AreFull parts

-- the part that was begun and those behind it: each takes one field after the other while they fit
abbrev pub cut_after : List (List ℕ) → List (List ℕ) → List (List (List ℕ))
cut_after part [] = part ∷ []
cut_after part (f ∷ fs) =
    if nat_le (length (joined part) + 1 + length f) part_size then cut_after (part ++ f ∷ []) fs else part ∷ cut_after (f ∷ []) fs

-- the parts of some fields, which are cut in no other way (`laws::parts`, `OneCut`)
unfoldable pub cut : List (List ℕ) → List (List (List ℕ))
cut [] = []
cut (f ∷ fs) = cut_after (f ∷ []) fs

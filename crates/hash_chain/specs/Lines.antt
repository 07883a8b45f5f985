-- The lines of a file, and the form of a line.
use Rattle.std.specs.Prelude.{◌≡◌, ℕ, ◌-◌, ◌^◌, Bool, true, ◌&&◌, ◌==◌, nat_le, nat_lt, if◌then◌else◌, List, [], ◌∷◌, length, codes, Option, Some, None, is_none, slice_get, count_by}
use Rattle.std.specs.List.{AllByRecursion, list_all, slice_split}
use Rattle.std.specs.Option.{option_and_then, option_map}
use Rattle.urna_base.specs.Digits.{decimal_value}
use Rattle.urna_base.specs.Moment.{is_between}
use Rattle.urna_base.specs.Words.{after_word, pieces}
use Rattle.hash_chain.specs.Chain.{Link}
use Rattle.hash_chain.specs.Hash.{is_hash}

-- ---- the form of a line

-- at least one byte, each printed and no space
abbrev pub is_word : List ℕ → Bool
is_word bytes = nat_lt 0 (length bytes) && list_all (is_between 0x21 0x7E) bytes

-- a word that doesn't begin as the hash of a part does
abbrev pub is_field : List ℕ → Bool
is_field bytes = is_word bytes && is_none (after_word (codes "HASH:") bytes)

-- what the line of a part may say
pub record IsLink (l : Link) : Type 0 where
  pub number : nat_lt l.number (10 ^ 18) ≡ true
  pub parts : nat_lt l.parts (10 ^ 18) ≡ true
  pub version : is_word l.version ≡ true
  pub some : nat_lt 0 (length l.fields) ≡ true
  pub fields : AllByRecursion (λ f. is_field f ≡ true) l.fields
  pub hash : is_hash l.hash ≡ true

-- something where a test holds, and nothing where it doesn't
abbrev pub only : {A : Type 0} → Bool → A → Option A
only b x = if b then Some x else None

-- two numbers with a colon (58) between them
abbrev pub two_numbers : List (List ℕ) → Option (ℕ × ℕ)
two_numbers (a ∷ b ∷ []) = option_and_then (λ x. option_map (λ y. (x, y)) (decimal_value b)) (decimal_value a)
two_numbers [] = None
two_numbers (a ∷ []) = None
two_numbers (a ∷ b ∷ c ∷ more) = None

-- the fields and the hash of a line, behind its first two pieces
abbrev pub fields_and_hash : List (List ℕ) → Option (List (List ℕ) × List ℕ)
fields_and_hash [] = None
fields_and_hash (p ∷ []) = option_and_then (λ h. only (is_hash h) ([], h)) (after_word (codes "HASH:") p)
fields_and_hash (p ∷ q ∷ ps) = if is_field p then option_map (λ x. (p ∷ x.0, x.1)) (fields_and_hash (q ∷ ps)) else None

-- what a line of these pieces says: its number and how many parts there are, its version, at least one field, and its hash
abbrev pub link_of_pieces : List (List ℕ) → Option Link
link_of_pieces (q ∷ v ∷ rest) =
    option_and_then (λ n. option_and_then (λ version. option_and_then (λ x.
    only (is_word version && nat_lt 0 (length x.0)) (record { number = n.0; parts = n.1; version = version; fields = x.0; hash = x.1 }))
    (fields_and_hash rest)) (after_word (codes "VRQR:") v))
    (option_and_then (λ t. two_numbers (slice_split (λ b. b == 58) t)) (after_word (codes "QRBU:") q))
link_of_pieces [] = None
link_of_pieces (q ∷ []) = None

-- What the line of these bytes says, if they are of the form. Which these are: `laws::parts`, `LinksAreSpelled`.
unfoldable pub link_in : List ℕ → Option Link
link_in bytes = link_of_pieces (pieces bytes)

-- ---- the lines of a file

-- how many line feeds (10) a file has
abbrev pub feeds_in : List ℕ → ℕ
feeds_in bytes = count_by (λ b. b == 10) bytes

-- the pieces of a file between line feeds: each but the last has its line feed
abbrev pub rows : List ℕ → List (List ℕ)
rows bytes = slice_split (λ b. b == 10) bytes

-- line k of a file, counted from 1, where it has its line feed and the form of a line
abbrev pub link_at : List ℕ → ℕ → Option Link
link_at bytes k = if nat_lt 0 k && nat_le k (feeds_in bytes) then option_and_then link_in (slice_get (rows bytes) (k - 1)) else None

-- what stands behind the last line feed
abbrev pub last_row : List (List ℕ) → List ℕ
last_row [] = []
last_row (r ∷ []) = r
last_row (r ∷ s ∷ rs) = last_row (s ∷ rs)

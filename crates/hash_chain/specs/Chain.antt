-- The file of a field text: one line for each part, each with a hash that goes on from that of the line before.
use Rattle.std.specs.Prelude.{ℕ, ◌+◌, List, [], ◌∷◌, ◌++◌, length, codes}
use Rattle.std.specs.Fmt.{decimal}
use Rattle.urna_base.specs.Words.{pieces, joined}
use Rattle.hash_chain.specs.Cut.{cut}
use Rattle.hash_chain.specs.Hash.{hash_text}

-- what the line of a part says: which part of how many it is, its version, its fields and its hash
pub record Link : Type 0 where
  pub number : ℕ
  pub parts : ℕ
  pub version : List ℕ
  pub fields : List (List ℕ)
  pub hash : List ℕ

-- what is hashed of it: QRBU:i:n VRQR:v and its fields (58 is a colon, 32 a space)
abbrev pub hashed_text : Link → List ℕ
hashed_text l = codes "QRBU:" ++ (decimal l.number ++ 58 ∷ (decimal l.parts ++ (codes " VRQR:" ++ (l.version ++ 32 ∷ joined l.fields))))

-- the line, without its line feed
abbrev pub link_text : Link → List ℕ
link_text l = hashed_text l ++ (codes " HASH:" ++ l.hash)

-- lines, each with its line feed (10)
abbrev pub links_text : List Link → List ℕ
links_text [] = []
links_text (l ∷ ls) = link_text l ++ (10 ∷ links_text ls)

-- the version of this format
abbrev pub chain_version : List ℕ
chain_version = codes "U1"

-- the line of a part, whose hash is that of the hash before, none before the first, and the part's text
abbrev pub link_of : ℕ → ℕ → List ℕ → List (List ℕ) → Link
link_of parts number before fields =
    let bare : Link = record { number = number; parts = parts; version = chain_version; fields = fields; hash = [] } in
    record bare { hash = hash_text (before ++ hashed_text bare) }

-- the lines of these parts, the first of which has this number
abbrev pub links_from : ℕ → ℕ → List ℕ → List (List (List ℕ)) → List Link
links_from parts number before [] = []
links_from parts number before (fields ∷ rest) =
    let line = link_of parts number before fields in line ∷ links_from parts (number + 1) line.hash rest

-- the file of a field text: the lines of its parts
unfoldable pub parts_text : List ℕ → List ℕ
parts_text text = let parts = cut (pieces text) in links_text (links_from (length parts) 1 [] parts)

-- The hash of the last part of a report's file
use Rattle.std.specs.Prelude.{◌≡◌, ℕ, List, [], ◌∷◌, length}
use Rattle.hex.specs.Hex.{encode_upper}
use Rattle.urna_base.specs.Words.{pieces}
use Rattle.hash_chain.specs.Chain.{Link, links_from}
use Rattle.hash_chain.specs.Cut.{cut}
use Rattle.hash_chain.specs.Fault.{ArePartsOf}
use Rattle.intake_ledger.specs.Ledger.{IsHash}

-- the lines of these parts
abbrev pub lines_of_parts : List (List (List ℕ)) → List Link
lines_of_parts parts = links_from (length parts) 1 [] parts

-- those of the parts of a field text
abbrev pub lines_of_text : List ℕ → List Link
lines_of_text text = lines_of_parts (cut (pieces text))

-- the hash of the last of these lines, as it is written; nothing where there is no line
abbrev pub last_hash : List Link → List ℕ
last_hash [] = []
last_hash (l ∷ []) = l.hash
last_hash (l ∷ m ∷ ls) = last_hash (m ∷ ls)

-- A file is the parts of a text, and these 64 bytes, in hexadecimal characters, are the hash of its last line.
pub record IsLastHash (file hash : List ℕ) : Type 0 where
  pub text : List ℕ
  pub parts : ArePartsOf file text
  pub bytes : IsHash hash
  pub written : encode_upper hash ≡ last_hash (lines_of_text text)

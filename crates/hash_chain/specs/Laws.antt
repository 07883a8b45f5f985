-- What is so of all files of parts.
use Rattle.std.specs.Prelude.{◌≡◌, ◌⊎◌, ◌↔◌, ℕ, ◌<◌, ◌≤◌, ◌*◌, ◌+◌, ◌/◌, ◌^◌, true, List, Some, length}
use Rattle.urna_base.specs.Words.{pieces}
use Rattle.hash_chain.specs.Chain.{Link, link_text, parts_text}
use Rattle.hash_chain.specs.Cut.{IsCut, cut}
use Rattle.hash_chain.specs.Fault.{AreFields, ArePartsOf, IsPartFault}
use Rattle.hash_chain.specs.Hash.{hash_text, is_hash}
use Rattle.hash_chain.specs.Lines.{IsLink, link_in}
use Rattle.hash_chain.specs.declared.fault.PartFault.{PartFault}

-- fields are cut in one way
abbrev pub OneCut : Type 0
OneCut = (fields : List (List ℕ)) → AreFields fields
    → IsCut fields (cut fields) × ((parts : List (List (List ℕ))) → IsCut fields parts → parts ≡ cut fields)

-- bytes are a line exactly where they are written so from what a line may say
abbrev pub LinksAreSpelled : Type 0
LinksAreSpelled = (bytes : List ℕ) (l : Link) → (link_in bytes ≡ Some l) ↔ (IsLink l × (bytes ≡ link_text l))

-- a hash is 128 upper-case hexadecimal characters
abbrev pub HashesAreHashes : Type 0
HashesAreHashes = (bytes : List ℕ) → is_hash (hash_text bytes) ≡ true

-- Each file shorter than 2^63 bytes has a fault, or is the parts of one field text,
abbrev pub OneOfBoth : Type 0
OneOfBoth = (bytes : List ℕ) → length bytes < 2 ^ 63
    → ((f : PartFault) × IsPartFault bytes f) ⊎ ((text : List ℕ) × ArePartsOf bytes text × ((other : List ℕ) → ArePartsOf bytes other → other ≡ text))

-- and never both;
abbrev pub NeverBoth : Type 0
NeverBoth = (bytes text : List ℕ) (f : PartFault) → length bytes < 2 ^ 63 → IsPartFault bytes f → ArePartsOf bytes text → ⊥

-- and it has one fault.
abbrev pub OneFault : Type 0
OneFault = (bytes : List ℕ) (f g : PartFault) → IsPartFault bytes f → IsPartFault bytes g → f ≡ g

-- how long the file of a text is at most: for each 500 bytes of the text a line has 186 bytes of its own
abbrev pub FewBytes : Type 0
FewBytes = (text : List ℕ) → AreFields (pieces text) → length text < 2 ^ 63 → length (parts_text text) ≤ length text + 186 * (length text / 500 + 1)

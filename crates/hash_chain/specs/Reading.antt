-- What the contracts of the code's own functions speak of.
use Rattle.std.specs.Prelude.{ℕ, ◌==◌, nat_lt, Bool, List, [], ◌∷◌, ◌++◌, length, codes, Option, None, Some, Result, Ok, Err}
use Rattle.std.specs.Fmt.{decimal}
use Rattle.std.specs.List.{slice_split}
use Rattle.std.specs.Option.{option_and_then, option_map}
use Rattle.urna_base.specs.Moment.{is_between}
use Rattle.urna_base.specs.Words.{after_word, pieces}
use Rattle.hash_chain.specs.Chain.{Link, chain_version}
use Rattle.hash_chain.specs.Lines.{fields_and_hash, is_word, only, two_numbers}
use Rattle.hash_chain.specs.declared.fault.PartError.{PartError}
use Rattle.hash_chain.specs.declared.fault.PartError.TheVariants.{Memory, Fault}
use Rattle.hash_chain.specs.declared.fault.PartFault.{PartFault}
use Rattle.hash_chain.specs.declared.line.Link as code

-- P holds of what was read, or Q of the fault; nothing is said where memory ran out
abbrev pub MatchRead : {A : Type 0} → Result A PartError → (A → Type 0) → (PartFault → Type 0) → Type 0
MatchRead (Ok x) P Q = P x
MatchRead (Err Memory) P Q = Unit {0}
MatchRead (Err (Fault f)) P Q = Q f

-- what is hashed of a part, from the text of its fields (58 is a colon, 32 a space)
abbrev pub plain_text : ℕ → ℕ → List ℕ → List ℕ
plain_text parts number fields = codes "QRBU:" ++ (decimal number ++ 58 ∷ (decimal parts ++ (codes " VRQR:" ++ (chain_version ++ 32 ∷ fields))))

-- ---- the three things that a line says, each from its pieces (`link_of_pieces`)

-- a byte is printed, and no space
abbrev pub is_printed : ℕ → Bool
is_printed b = is_between 0x21 0x7E b

-- its two numbers, from its first piece
abbrev pub numbers_in : List ℕ → Option (ℕ × ℕ)
numbers_in piece = option_and_then (λ t. two_numbers (slice_split (λ b. b == 58) t)) (after_word (codes "QRBU:") piece)

-- its version, from the second
abbrev pub version_in : List ℕ → Option (List ℕ)
version_in piece = option_and_then (λ v. only (is_word v) v) (after_word (codes "VRQR:") piece)

-- its fields, at least one, and its hash, from what stands behind these
unfoldable pub tail_of : List ℕ → Option (List (List ℕ) × List ℕ)
tail_of rest = option_and_then (λ x. only (nat_lt 0 (length x.0)) x) (fields_and_hash (pieces rest))

abbrev pub made : ℕ × ℕ → List ℕ → List (List ℕ) × List ℕ → Link
made n version x = record { number = n.0; parts = n.1; version = version; fields = x.0; hash = x.1 }

-- the line that says these three things
abbrev pub link_by : Option (ℕ × ℕ) → Option (List ℕ) → Option (List (List ℕ) × List ℕ) → Option Link
link_by n v x = option_and_then (λ m. option_and_then (λ w. option_map (λ y. made m w y) x) v) n

-- ---- what the code took apart

-- a text with the fields of a part behind it, behind a space (32) where others stand before
abbrev pub with_part : List ℕ → List ℕ → List ℕ
with_part [] fields = fields
with_part (b ∷ text) fields = (b ∷ text) ++ 32 ∷ fields

-- what a line says that was taken apart
abbrev pub said : code.Link → Link
said l = record { number = l.number; parts = l.parts; version = l.version.now; fields = pieces l.fields.now; hash = l.hash.now }

abbrev pub said_before : Option code.Link → Option Link
said_before None = None
said_before (Some l) = Some (said l)

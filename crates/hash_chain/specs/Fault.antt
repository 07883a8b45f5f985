-- The fault of a file of parts: its first line with a fault, and in that line the first of five tests that fails.
use Rattle.std.specs.Prelude.{◌≡◌, ℕ, ◌+◌, ◌-◌, ◌<◌, ◌≤◌, Bool, true, false, not, ◌&&◌, ◌||◌, ◌==◌, nat_le, nat_lt, if◌then◌else◌, List, [], ◌∷◌, ◌++◌, length, Option, Some, None}
use Rattle.std.specs.List.{AllByRecursion}
use Rattle.std.specs.Str.{bytes_eq}
use Rattle.urna_base.specs.Words.{pieces, joined}
use Rattle.hash_chain.specs.Chain.{Link, hashed_text, parts_text, chain_version}
use Rattle.hash_chain.specs.Cut.{part_size}
use Rattle.hash_chain.specs.Hash.{hash_text}
use Rattle.hash_chain.specs.Lines.{feeds_in, is_field, last_row, link_at, rows}
use Rattle.hash_chain.specs.declared.fault.PartFault.{PartFault}
use Rattle.hash_chain.specs.declared.fault.PartFault.TheVariants as fault

-- the hash from which a line's goes on: none before the first line
abbrev pub hash_before : Option Link → List ℕ
hash_before None = []
hash_before (Some l) = l.hash

-- the first of these fields would have fitted into the part of the line before
abbrev pub fits_before : Option Link → List (List ℕ) → Bool
fits_before None fields = false
fits_before (Some l) [] = false
fits_before (Some l) (f ∷ fs) = nat_le (length (joined l.fields) + 1 + length f) part_size

-- which of the tests behind the form fails first at line k of a file with so many line feeds, behind the line before
unfoldable pub failing_link : ℕ → ℕ → Option Link → Link → Option PartFault
failing_link feeds k before l =
    if not (bytes_eq l.version chain_version) then Some (fault.Version k)
    else (if not (l.number == k && l.parts == feeds) then Some (fault.Number k)
    else (if not (bytes_eq l.hash (hash_text (hash_before before ++ hashed_text l))) then Some (fault.Hash k)
    else (if nat_lt part_size (length (joined l.fields)) || fits_before before l.fields then Some (fault.Cut k)
    else None)))

-- the fault of line k, by itself and the line before
abbrev pub fault_of_link : ℕ → ℕ → Option Link → Option Link → Option PartFault
fault_of_link feeds k before None = Some (fault.Form k)
fault_of_link feeds k before (Some l) = failing_link feeds k before l

-- the fault of line k of a file, if it has one
abbrev pub fault_at_link : List ℕ → ℕ → Option PartFault
fault_at_link bytes k = fault_of_link (feeds_in bytes) k (link_at bytes (k - 1)) (link_at bytes k)

-- A file is read up to here: each piece that has its line feed is a line, and so is what stands behind the last line feed, unless it is
-- empty. An empty file has one line.
abbrev pub rows_read : List ℕ → ℕ
rows_read bytes = if bytes_eq (last_row (rows bytes)) [] && nat_lt 0 (feeds_in bytes) then feeds_in bytes else feeds_in bytes + 1

-- the fault of a file: that of a line before which no line has one
pub record IsPartFault (bytes : List ℕ) (f : PartFault) : Type 0 where
  pub line : ℕ
  pub some : 0 < line
  pub there : line ≤ rows_read bytes
  pub sound : (k : ℕ) → 0 < k → k < line → fault_at_link bytes k ≡ None
  pub fault : fault_at_link bytes line ≡ Some f

-- fields of which parts can be made: at least one, each of them a word that is no hash and no longer than a part
abbrev pub AreFields : List (List ℕ) → Type 0
AreFields fields = (0 < length fields) × AllByRecursion (λ f. (is_field f ≡ true) × (length f ≤ part_size)) fields

-- a file is the parts of a field text
pub record ArePartsOf (bytes text : List ℕ) : Type 0 where
  pub fields : AreFields (pieces text)
  pub same : bytes ≡ parts_text text

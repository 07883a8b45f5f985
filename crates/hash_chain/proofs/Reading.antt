-- A device of proofs: a file is read line by line, as the code reads it. No contract names it.
use Rattle.std.specs.Prelude.{ℕ, ◌+◌, ◌&&◌, ◌==◌, nat_lt, if◌then◌else◌, List, [], ◌∷◌, length, Option, None, Some, Result, Ok, Err}
use Rattle.std.specs.List.{flat_map}
use Rattle.urna_base.specs.Words.{joined}
use Rattle.hash_chain.specs.Chain.{Link}
use Rattle.hash_chain.specs.Fault.{failing_link}
use Rattle.hash_chain.specs.Lines.{feeds_in, link_in, rows}
use Rattle.hash_chain.specs.declared.fault.PartFault.{PartFault}
use Rattle.hash_chain.specs.declared.fault.PartFault.TheVariants as fault

-- the lines from line i on, or the first fault
unfoldable pub read_from : ℕ → ℕ → Option Link → List (List ℕ) → Result (List Link) PartFault
read_from feeds i before [] = Ok []
read_from feeds i before (last ∷ []) = if length last == 0 && nat_lt 1 i then Ok [] else Err (fault.Form i)
read_from feeds i before (bytes ∷ next ∷ rest) =
    elim (link_in bytes) [
      | None ↦ Err (fault.Form i)
      | Some l ↦ elim (failing_link feeds i before l) [
        | Some fault ↦ Err fault
        | None ↦ elim (read_from feeds (i + 1) (Some l) (next ∷ rest)) [ Ok ls ↦ Ok (l ∷ ls) | Err fault ↦ Err fault ]
      ]
    ]

-- the lines of a file
unfoldable pub lines_read : List ℕ → Result (List Link) PartFault
lines_read bytes = read_from (feeds_in bytes) 1 None (rows bytes)

-- the field text of lines
abbrev pub text_of_lines : List Link → List ℕ
text_of_lines ls = joined (flat_map (λ l. l.fields) ls)

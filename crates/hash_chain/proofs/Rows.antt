-- Worked rows of cuts and of faults.
use Rattle.std.proofs.Common.{◌≡◌, ℕ, List, [], ◌∷◌, ◌++◌, map, length, refl, Some, None}
use Rattle.std.specs.Prelude.{codes, replicate}
use Rattle.urna_base.specs.Digits.{decimal_value}
use Rattle.urna_base.specs.Words.{pieces, joined}
use Rattle.hash_chain.specs.Cut.{cut}
use Rattle.hash_chain.specs.Fault.{failing_link, fault_at_link, rows_read}
use Rattle.hash_chain.specs.Lines.{link_in}
use Rattle.hash_chain.specs.declared.fault.PartFault.TheVariants as fault

-- how long the fields of each part are
abbrev sizes : List (List (List ℕ)) → List ℕ
sizes parts = map (λ part. length (joined part)) parts

-- ---- 1,000 bytes are one part, and 1,001 are two

thousand : sizes (cut (pieces (replicate 993 65 ++ codes " TOTC:1"))) ≡ 1000 ∷ []
unfolding cut
thousand = refl

one_more : sizes (cut (pieces (replicate 994 65 ++ codes " TOTC:1"))) ≡ 994 ∷ 6 ∷ []
unfolding cut
one_more = refl

-- ---- faults for which no hash is computed

-- a line of two parts, with a hash of zeros
abbrev row : List ℕ → List ℕ → List ℕ
row numbers version = codes "QRBU:" ++ (numbers ++ (codes " VRQR:" ++ (version ++ (codes " TOTC:1 HASH:" ++ (replicate 128 48 ++ 10 ∷ [])))))

an_empty_file : fault_at_link [] 1 ≡ Some (fault.Form 1)
an_empty_file = refl

lines_of_none : rows_read [] ≡ 1
lines_of_none = refl

newer_version : fault_at_link (row (codes "1:1") (codes "U2")) 1 ≡ Some (fault.Version 1)
unfolding link_in decimal_value failing_link
newer_version = refl

swapped_lines : fault_at_link (row (codes "2:2") (codes "U1") ++ row (codes "1:2") (codes "U1")) 1 ≡ Some (fault.Number 1)
unfolding link_in decimal_value failing_link
swapped_lines = refl

one_line_feed : fault_at_link (row (codes "1:2") (codes "U1")) 1 ≡ Some (fault.Number 1)
unfolding link_in decimal_value failing_link
one_line_feed = refl

-- behind the last line feed: a piece is a line without one, and nothing is no line
lines_of_two : rows_read (row (codes "1:2") (codes "U1") ++ codes "QRBU:2:2") ≡ 2
lines_of_two = refl

a_broken_line : fault_at_link (row (codes "1:2") (codes "U1") ++ codes "QRBU:2:2") 2 ≡ Some (fault.Form 2)
unfolding link_in decimal_value failing_link
a_broken_line = refl

lines_of_one : rows_read (row (codes "1:1") (codes "U1")) ≡ 1
lines_of_one = refl

-- lower-case hexadecimal is none
lower_case : link_in (codes "QRBU:1:1 VRQR:U1 TOTC:1 HASH:" ++ replicate 128 97) ≡ None
unfolding link_in decimal_value
lower_case = refl

-- a number of 19 digits is none
nineteen_digits : link_in (codes "QRBU:1:1000000000000000000 VRQR:U1 TOTC:1 HASH:" ++ replicate 128 48) ≡ None
unfolding link_in decimal_value
nineteen_digits = refl

-- The texts of verdicts (docs/FORMATS.md, "Verdicts")
use Rattle.std.specs.Prelude.{ℕ, ◌+◌, not, List, [], ◌∷◌, ◌++◌, codes, count_by}
use Rattle.std.specs.Fmt.{decimal}
use Rattle.hash_chain.specs.declared.fault.PartFault.{PartFault}
use Rattle.hash_chain.specs.declared.fault.PartFault.TheVariants as part
use Rattle.qr_text.specs.declared.fault.FieldFault.{FieldFault}
use Rattle.qr_text.specs.declared.fault.FieldFault.TheVariants as field
use Rattle.section_intake.specs.Accepted.{is_accepted}
use Rattle.section_intake.specs.declared.verdict.Verdict.{Verdict}
use Rattle.section_intake.specs.declared.verdict.Verdict.TheVariants as verdict

-- a word and the zone and number of a section
abbrev pub section_text : List ℕ → ℕ → ℕ → List ℕ
section_text word zone number = word ++ decimal zone ++ codes " " ++ decimal number

-- the fault of a part, by its number
abbrev pub part_fault_text : PartFault → List ℕ
part_fault_text (part.Form k) = codes "PARTE FORMA " ++ decimal k
part_fault_text (part.Version k) = codes "PARTE VERSAO " ++ decimal k
part_fault_text (part.Number k) = codes "PARTE NUMERO " ++ decimal k
part_fault_text (part.Hash k) = codes "PARTE HASH " ++ decimal k
part_fault_text (part.Cut k) = codes "PARTE CORTE " ++ decimal k

-- the fault of a field, by its number
abbrev pub field_fault_text : FieldFault → List ℕ
field_fault_text (field.Field k) = codes "CAMPO " ++ decimal k
field_fault_text (field.Sum k sum said) = codes "SOMA " ++ decimal k ++ codes " " ++ decimal sum ++ codes " " ++ decimal said

-- what tells a verdict, without the line feed
abbrev pub verdict_text : Verdict → List ℕ
verdict_text (verdict.Accepted zone number) = section_text (codes "ACEITO ") zone number
verdict_text (verdict.Part f) = part_fault_text f
verdict_text (verdict.Fields f) = field_fault_text f
verdict_text verdict.Strange = codes "ESTRANHO"
verdict_text (verdict.Repeated zone number) = section_text (codes "REPETIDO ") zone number
verdict_text (verdict.Conflict zone number) = section_text (codes "CONFLITO ") zone number

-- the line that tells a verdict
abbrev pub verdict_line : Verdict → List ℕ
verdict_line v = verdict_text v ++ 10 ∷ []

-- the line that tells the verdict on the report of a number
abbrev pub numbered_line : ℕ → Verdict → List ℕ
numbered_line k v = decimal k ++ codes " " ++ verdict_line v

-- the lines of these verdicts, the first of which is on the report of this number
abbrev pub lines_from : ℕ → List Verdict → List (List ℕ)
lines_from k [] = []
lines_from k (v ∷ verdicts) = numbered_line k v ∷ lines_from (k + 1) verdicts

-- one line for each verdict, in the order of the list
abbrev pub verdict_lines : List Verdict → List (List ℕ)
verdict_lines verdicts = lines_from 1 verdicts

-- how many reports were not accepted
abbrev pub refused_count : List Verdict → ℕ
refused_count verdicts = count_by (λ v. not (is_accepted v)) verdicts

-- The verdicts on files that are offered one behind the other, and which of them are accepted (docs/FORMATS.md, "Verdicts").
use Rattle.std.specs.Prelude.{◌≢◌, ℕ, Bool, true, false, ◌≡◌, if◌then◌else◌, List, [], ◌∷◌, ◌++◌}
use Rattle.std.specs.List.{AllByRecursion, Contains}
use Rattle.election_tables.specs.TablesData.{TablesData}
use Rattle.section_intake.specs.Verdict.{IsVerdict}
use Rattle.section_intake.specs.declared.verdict.Verdict.{Verdict}
use Rattle.section_intake.specs.declared.verdict.Verdict.TheVariants as verdict

-- the bytes of a file
abbrev pub File : Type 0
File = List ℕ

-- the verdict is that the file is accepted
abbrev pub is_accepted : Verdict → Bool
is_accepted (verdict.Accepted zone section) = true
is_accepted (verdict.Part f) = false
is_accepted (verdict.Fields f) = false
is_accepted verdict.Strange = false
is_accepted (verdict.Repeated zone section) = false
is_accepted (verdict.Conflict zone section) = false

-- the file by itself is the report of this section
abbrev pub IsOfSection : TablesData → ℕ → ℕ → File → Type 0
IsOfSection t zone section file = IsVerdict t file (verdict.Accepted zone section)

-- The verdict on a file behind those that were accepted: its own, where that refuses it; that it is accepted, where none of them is of its
-- section; that it is repeated, where it is one of them; and that it is in conflict, where another file of its section is. As the accepted
-- files are of different sections, there is one.
pub data IsVerdictBehind (t : TablesData) (accepted : List File) (file : File) : Verdict → Type 0 where
  by_itself : {v : Verdict} → IsVerdict t file v → is_accepted v ≡ false → IsVerdictBehind t accepted file v
  first : {zone section : ℕ} → IsOfSection t zone section file → AllByRecursion (λ other. ¬ IsOfSection t zone section other) accepted
      → IsVerdictBehind t accepted file (verdict.Accepted zone section)
  again : {zone section : ℕ} → IsOfSection t zone section file → Contains accepted file
      → IsVerdictBehind t accepted file (verdict.Repeated zone section)
  another : {zone section : ℕ} {other : File} → IsOfSection t zone section file → Contains accepted other → IsOfSection t zone section other
      → other ≢ file → IsVerdictBehind t accepted file (verdict.Conflict zone section)

-- the accepted files and this one, if it is accepted
abbrev pub accepted_with : List File → Verdict → File → List File
accepted_with accepted v file = if is_accepted v then accepted ++ file ∷ [] else accepted

-- The verdicts on files that are offered one behind the other, and those of them that are accepted.
pub data AreOffered (t : TablesData) : List File → List Verdict → List File → Type 0 where
  none_offered : AreOffered t [] [] []
  one_more : {files accepted : List File} {verdicts : List Verdict} {file : File} {v : Verdict} → AreOffered t files verdicts accepted
      → IsVerdictBehind t accepted file v → AreOffered t (files ++ file ∷ []) (verdicts ++ v ∷ []) (accepted_with accepted v file)

-- ---- which files are accepted, with no look at those that were accepted before

-- the section has a report among these files
abbrev pub HasReportIn : TablesData → ℕ → ℕ → List File → Type 0
HasReportIn t zone section files = (file : File) × Contains files file × IsOfSection t zone section file

-- the file is the report of a section that has none among the files before it
abbrev pub IsFirstOfSection : TablesData → List File → File → Type 0
IsFirstOfSection t before file = (zone : ℕ) × (section : ℕ) × IsOfSection t zone section file × (¬ HasReportIn t zone section before)

-- Of files that stand one behind the other, those that are the first of their section, in order.
pub data AreFirst (t : TablesData) : List File → List File → Type 0 where
  no_files : AreFirst t [] []
  comes_first : {files firsts : List File} {file : File} → AreFirst t files firsts → IsFirstOfSection t files file
      → AreFirst t (files ++ file ∷ []) (firsts ++ file ∷ [])
  comes_later : {files firsts : List File} {file : File} → AreFirst t files firsts → ¬ IsFirstOfSection t files file
      → AreFirst t (files ++ file ∷ []) firsts

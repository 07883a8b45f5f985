-- The reports of a list that were taken and offered, and how many calls of the cabinet that takes
use Rattle.std.specs.Prelude.{◌≡◌, ◌⊎◌, ℕ, ◌+◌, List, ◌++◌, length, Option}
use Rattle.urna_outside.specs.Cabinet.{CabinetTold, Files}
use Rattle.election_tables.specs.TablesData.{TablesData}
use Rattle.section_intake.specs.Accepted.{AreOffered, File}
use Rattle.section_intake.specs.declared.verdict.Verdict.{Verdict}
use Rattle.command_parts.specs.Documents.{AreTaken, IsListed}
use Rattle.urna_commands.specs.Taking.{HasTaken}
use Rattle.urna_commands.specs.declared.status.Status.{Status}

-- Of the listed reports the first ones were taken and offered in order, and have these verdicts; these files were accepted. Others are left.
pub record HasOffered (files : Option Files) (t : TablesData) (listed left : List (List ℕ)) (verdicts : List Verdict) (accepted : List File) : Type 0 where
  pub names : List (List ℕ)
  pub all : listed ≡ names ++ left
  pub reports : List File
  pub taken : AreTaken files names reports
  pub offered : AreOffered t reports verdicts accepted

-- no more reports than so many are taken: as many as a list that can be read names, or none
abbrev pub AreToTake : Option Files → List ℕ → List ℕ → ℕ → Type 0
AreToTake files tables list k = (k ≡ 0) ⊎ ((t : TablesData) × (listed : List (List ℕ)) × IsListed files tables list t listed × (k ≡ length listed))

-- At most as many calls were made as reports are taken, and so many more, after which the answer was this status. The files are as they were.
abbrev pub HasTakenReports : List ℕ → List ℕ → ℕ → Status → CabinetTold → CabinetTold → Type 0
HasTakenReports tables list more s c d = (k : ℕ) × AreToTake c.files tables list k × HasTaken (k + more) s c d

-- What a file is by itself: a report that fits the tables, or refused
use Rattle.std.specs.Prelude.{◌≡◌, ℕ, false, List}
use Rattle.election_tables.specs.TablesData.{TablesData}
use Rattle.section_intake.specs.Accepted.{is_accepted}
use Rattle.section_intake.specs.Fits.{Fits}
use Rattle.section_intake.specs.Verdict.{IsReportFile, IsVerdict}
use Rattle.section_intake.specs.declared.checking.Checked.{Checked}
use Rattle.section_intake.specs.declared.checking.Checked.TheVariants as checked

-- the file has this report, which fits; or this verdict, which is another than that it is accepted
abbrev pub IsChecked : TablesData → List ℕ → Checked → Type 0
IsChecked t file (checked.Report r) = IsReportFile file r × Fits t r
IsChecked t file (checked.Refused v) = IsVerdict t file v × (is_accepted v ≡ false)

-- What contracts say of an intake: which files it accepted, and for which tables it was made.
use Rattle.std.specs.Prelude.{◌≡◌, ℕ, ◌<◌, ◌^◌, List, length, slice_get, Some}
use Rattle.std.specs.List.{AllByRecursion}
use Rattle.election_tables.specs.TablesData.{IsTables, TablesData}
use Rattle.poll_report.specs.declared.report.Report.{Report}
use Rattle.section_intake.specs.Accepted.{File}
use Rattle.section_intake.specs.Fits.{Fits}
use Rattle.section_intake.specs.Kept.{sums_at}
use Rattle.section_intake.specs.Sections.{AreOfDifferentSections, holders_in}
use Rattle.section_intake.specs.Sums.{AreReportsOf}
use Rattle.section_intake.specs.declared.intake.Intake.{Intake}

-- the bytes of the accepted files, in the order of acceptance
abbrev pub accepted_files : Intake → List File
accepted_files i = i.files

-- how many panels it has
abbrev pub panels_of : Intake → ℕ
panels_of i = length i.panels.items

-- The intake was made for these tables. Its files have reports that fit them, of different sections; for each section it keeps the place of
-- the report, and for each panel the sums over all of them.
pub record IsIntakeFor (t : TablesData) (i : Intake) : Type 0 where
  pub tables : IsTables t
  pub panels : panels_of i ≡ length t.panels
  pub short : AllByRecursion (λ file. length file < 2 ^ 31) (accepted_files i)
  pub reports : List Report
  pub read : AreReportsOf (accepted_files i) reports
  pub fit : AllByRecursion (Fits t) reports
  pub different : AreOfDifferentSections reports
  pub holders : i.holders.items ≡ holders_in t.sections reports
  pub sums : (panel : ℕ) → panel < length t.panels → slice_get i.panels.items panel ≡ Some (sums_at t reports panel)

-- Of which section a report is, and which sections have one.
use Rattle.std.specs.Prelude.{◌≡◌, ℕ, Bool, false, ◌==◌, ◌&&◌, List, [], ◌∷◌, map, Option}
use Rattle.std.specs.List.{AllByRecursion, position}
use Rattle.election_tables.specs.declared.tables.sections.Section.{Section}
use Rattle.poll_report.specs.declared.report.Report.{Report}

-- a report is of a section
abbrev pub is_of : Section → Report → Bool
is_of s r = (s.zone == r.zone) && (s.number == r.section)

-- two reports are of one section
abbrev pub is_beside : Report → Report → Bool
is_beside r other = (r.zone == other.zone) && (r.section == other.section)

-- these reports are of different sections
abbrev pub AreOfDifferentSections : List Report → Type 0
AreOfDifferentSections [] = Unit {0}
AreOfDifferentSections (r ∷ reports) = AllByRecursion (λ other. is_beside r other ≡ false) reports × AreOfDifferentSections reports

-- for each of these sections the place of its report, if there is one
abbrev pub holders_in : List Section → List Report → List (Option ℕ)
holders_in sections reports = map (λ s. position (is_of s) reports) sections

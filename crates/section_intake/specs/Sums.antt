-- Sums over the reports of accepted files.
use Rattle.std.specs.Prelude.{ℕ, ◌==◌, if◌then◌else◌, List, [], ◌∷◌, slice_get}
use Rattle.std.specs.List.{sum_by}
use Rattle.std.specs.Option.{option_map_or}
use Rattle.poll_report.specs.Report.{total_of, votes_of}
use Rattle.poll_report.specs.declared.report.Count.{Count}
use Rattle.poll_report.specs.declared.report.OfficeCount.{OfficeCount}
use Rattle.poll_report.specs.declared.report.Report.{Report}
use Rattle.section_intake.specs.Accepted.{File}
use Rattle.section_intake.specs.Verdict.{IsReportFile}

-- these are the reports of these files, in order
abbrev pub AreReportsOf : List File → List Report → Type 0
AreReportsOf [] [] = Unit {0}
AreReportsOf [] (r ∷ reports) = ⊥
AreReportsOf (file ∷ files) [] = ⊥
AreReportsOf (file ∷ files) (r ∷ reports) = IsReportFile file r × AreReportsOf files reports

-- what is counted of the office of a panel, in one report
abbrev pub of_office : (OfficeCount → ℕ) → ℕ → Report → ℕ
of_office counted panel r = option_map_or counted (slice_get r.offices panel) 0

-- the votes of a number
abbrev pub votes_for : ℕ → List Count → ℕ
votes_for number counts = sum_by (λ c. if c.number == number then c.votes else 0) counts

-- the nominal votes of a candidate in a panel, over all these reports
abbrev pub nominal_sum : ℕ → ℕ → List Report → ℕ
nominal_sum panel number reports = sum_by (of_office (λ o. votes_for number o.nominal) panel) reports

-- the party votes of a party
abbrev pub party_sum : ℕ → ℕ → List Report → ℕ
party_sum panel number reports = sum_by (of_office (λ o. votes_for number o.parties) panel) reports

-- the blank votes
abbrev pub blank_sum : ℕ → List Report → ℕ
blank_sum panel reports = sum_by (of_office (λ o. o.blank) panel) reports

-- the null votes
abbrev pub null_sum : ℕ → List Report → ℕ
null_sum panel reports = sum_by (of_office (λ o. o.null_votes) panel) reports

-- all votes in a panel
abbrev pub all_sum : ℕ → List Report → ℕ
all_sum panel reports = sum_by (of_office total_of panel) reports

-- all nominal votes in a panel
abbrev pub all_nominal : ℕ → List Report → ℕ
all_nominal panel reports = sum_by (of_office (λ o. votes_of o.nominal) panel) reports

-- all party votes
abbrev pub all_party : ℕ → List Report → ℕ
all_party panel reports = sum_by (of_office (λ o. votes_of o.parties) panel) reports

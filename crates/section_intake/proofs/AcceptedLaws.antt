-- How many files are accepted, and how great the sums of their reports are.
use Rattle.std.proofs.Common.{◌≡◌, ℕ, zero, suc, ◌+◌, ◌*◌, ◌<◌, ◌≤◌, ◌^◌, ◌==◌, if◌then◌else◌, true, false, List, [], ◌∷◌, ◌++◌, length, slice_get, Option, None, Some, sym, subst, inl, inr, arith}
use Rattle.std.specs.List.{AllByRecursion, sum_by}
use Rattle.std.specs.Option.{option_map_or}
use Rattle.std.proofs.lemmas.Bool.{cases_Bool}
use Rattle.std.proofs.lemmas.Bool.Decides.{nat_tests}
use Rattle.std.proofs.lemmas.List.Sums.{sum_by-cons, sum_by-le-sum_by}
use Rattle.election_tables.specs.Limits.{most_sections}
use Rattle.election_tables.specs.TablesData.{TablesData}
use Rattle.poll_report.specs.Report.{EachAfter, IsReport, MayCount, greatest_count, total_of, votes_of}
use Rattle.poll_report.specs.declared.report.Count.{Count}
use Rattle.poll_report.specs.declared.report.OfficeCount.{OfficeCount}
use Rattle.poll_report.specs.declared.report.Report.{Report}
use Rattle.section_intake.specs.Accepted.{File, IsOfSection}
use Rattle.section_intake.specs.Fits.{Fits}
use Rattle.section_intake.specs.Sections.{AreOfDifferentSections, is_beside}
use Rattle.section_intake.specs.Intake.{accepted_files}
use Rattle.section_intake.specs.Laws.{AreAllApart, AreApart, AreShort, NoMoreThanSections, SomeReports, SumsAreFew, SumsAreSmall, SumsAreWithinAll}
use Rattle.section_intake.specs.Sums.{AreReportsOf, all_sum, of_office, votes_for}
use Rattle.section_intake.specs.Verdict.{IsReportFile, accepted}
use Rattle.section_intake.proofs.BehindLaws.{each_is_accepted, each_section_once}
use Rattle.section_intake.proofs.Members.{all_weaker}
use Rattle.section_intake.proofs.ReportLaws.{are_reports, as_many, no_more, one_list}

-- ---- how many

-- the report of a file that is of a section
report_of : (t : TablesData) (z s : ℕ) (file : File) → IsOfSection t z s file → (r : Report) × IsReportFile file r × Fits t r
report_of t z s file (accepted {r} h fit) = (r, h, fit)

-- by its own report a file is of the section that the report tells
pub by_report : (t : TablesData) (file : File) (r : Report) → IsReportFile file r → Fits t r → IsOfSection t r.zone r.section file
by_report t file r h fit = accepted h fit

-- the reports of files each of which is of a section
reports_of : (t : TablesData) (files : List File) → AllByRecursion (λ f. (zone : ℕ) × (section : ℕ) × IsOfSection t zone section f) files → AreAllApart t files
    → (reports : List Report) × AreReportsOf files reports × AllByRecursion (Fits t) reports × AreOfDifferentSections reports
reports_of t [] each apart = ([], tt, tt, tt)
reports_of t (f ∷ files) each apart =
    let (z, s, is) = each.0 in
    let (r, h, fit) = report_of t z s f is in
    let (reports, read, all_fit, different) = reports_of t files each.1 apart.1 in
    (r ∷ reports, (h, read), (fit, all_fit), (others f r h fit files reports read all_fit apart.0, different))
  where
    beside_then : (r q : Report) → is_beside r q ≡ true → (q.zone ≡ r.zone) × (q.section ≡ r.section)
    beside_then r q e = (grind (arith, nat_tests), grind (arith, nat_tests))

    others : (f : File) (r : Report) → IsReportFile f r → Fits t r → (files : List File) (reports : List Report) → AreReportsOf files reports
        → AllByRecursion (Fits t) reports → AllByRecursion (AreApart t f) files → AllByRecursion (λ q. is_beside r q ≡ false) reports
    others f r h fit [] [] read all_fit apart = tt
    others f r h fit [] (q ∷ reports) read all_fit apart = absurd read
    others f r h fit (g ∷ files) [] read all_fit apart = absurd read
    others f r h fit (g ∷ files) (q ∷ reports) read all_fit apart = (
      elim (cases_Bool (is_beside r q)) [
        | inl same ↦
            let both = beside_then r q same in
            let there : IsOfSection t q.zone q.section g = by_report t g q read.0 all_fit.0 in
            absurd (apart.0 r.zone r.section (by_report t f r h fit)
            (subst (λ (n : ℕ). IsOfSection t r.zone n g) both.1 (subst (λ (n : ℕ). IsOfSection t n q.section g) both.0 there)))
        | inr other ↦ other
      ],
      others f r h fit files reports read.1 all_fit.1 apart.1,
    )

pub some_reports : SomeReports
some_reports t files verdicts kept short offered =
    reports_of t kept (each_is_accepted t files verdicts kept offered) (each_section_once t files verdicts kept short offered)

pub no_more_than_sections : NoMoreThanSections
no_more_than_sections t files verdicts kept short offered =
    let (reports, read, fit, different) = some_reports t files verdicts kept short offered in
    let few = no_more t reports fit different in
    let many = as_many kept reports read in
    omega arith

-- ---- how great

-- no office of a report has more votes than a report can tell
office_few : (came : ℕ) (before offices : List OfficeCount) (k : ℕ) → EachAfter (MayCount came) before offices → option_map_or total_of (slice_get offices k) 0 ≤ greatest_count
office_few came before [] k each = omega arith
office_few came before (o ∷ offices) zero each = each.0.1.few
office_few came before (o ∷ offices) (suc k) each = office_few came (before ++ o ∷ []) offices k each.1

pub report_few : (r : Report) (panel : ℕ) → IsReport r → of_office total_of panel r ≤ greatest_count
report_few r panel is = office_few r.came [] r.offices panel is.offices

all_few : (reports : List Report) (panel : ℕ) → AllByRecursion IsReport reports → all_sum panel reports ≤ length reports * greatest_count
all_few [] panel are = omega arith
all_few (r ∷ reports) panel are =
    let first = report_few r panel are.0 in
    let rest = all_few reports panel are.1 in
    let sum = sum_by-cons (of_office total_of panel) r reports in
    let more : suc (length reports) * greatest_count ≡ length reports * greatest_count + greatest_count = omega arith in
    omega arith

pub sums_are_few : SumsAreFew
sums_are_few files reports panel read =
    let many = as_many files reports read in
    let few = all_few reports panel (are_reports files reports read) in
    subst (λ (n : ℕ). all_sum panel reports ≤ n * greatest_count) (sym many) few

pub no_more_than : (n : ℕ) (c : Count) → (if c.number == n then c.votes else 0) ≤ c.votes
no_more_than n c = elim (cases_Bool (c.number == n)) [
  | inl e ↦ rw e (omega arith)
  | inr e ↦ rw e (omega arith)
]

-- a number has no more votes than all have
votes_within : (n : ℕ) (counts : List Count) → votes_for n counts ≤ votes_of counts
votes_within n counts = sum_by-le-sum_by (λ (c : Count). if c.number == n then c.votes else 0) (λ (c : Count). c.votes) counts (λ c. no_more_than n c)

-- a sum of what is a part of all votes is within that of all votes
part_within : (f : OfficeCount → ℕ) → ((o : OfficeCount) → f o ≤ total_of o) → (panel : ℕ) (reports : List Report)
    → sum_by (of_office f panel) reports ≤ all_sum panel reports
part_within f less panel reports = sum_by-le-sum_by (of_office f panel) (of_office total_of panel) reports (λ r. in_office (slice_get r.offices panel))
  where
    in_office : (o : Option OfficeCount) → option_map_or f o 0 ≤ option_map_or total_of o 0
    in_office None = omega arith
    in_office (Some o) = less o

pub nominal_within : (n : ℕ) (o : OfficeCount) → votes_for n o.nominal ≤ total_of o
nominal_within n o = let h = votes_within n o.nominal in omega arith

pub party_within : (n : ℕ) (o : OfficeCount) → votes_for n o.parties ≤ total_of o
party_within n o = let h = votes_within n o.parties in omega arith

pub sums_within_all : SumsAreWithinAll
sums_within_all panel number reports = (
  part_within (λ o. votes_for number o.nominal) (nominal_within number) panel reports,
  part_within (λ o. votes_for number o.parties) (party_within number) panel reports,
  part_within (λ o. o.blank) (λ o. omega arith) panel reports,
  part_within (λ o. o.null_votes) (λ o. omega arith) panel reports,
)

-- the sums over reports that fit, of different sections
pub small_sum : (t : TablesData) (reports : List Report) (panel : ℕ) → length t.sections ≤ most_sections → AllByRecursion IsReport reports
    → AllByRecursion (Fits t) reports → AreOfDifferentSections reports → all_sum panel reports ≤ most_sections * greatest_count
small_sum t reports panel sections are fit different =
    let few = no_more t reports fit different in
    let sum = all_few reports panel are in
    omega arith

pub files_short : (files : List File) → AllByRecursion (λ file. length file < 2 ^ 31) files → AreShort files
files_short files short = all_weaker (λ (f : File). length f < 2 ^ 31) (λ (f : File). length f < 2 ^ 63) files (λ f h. omega arith) short

pub sums_are_small : SumsAreSmall
sums_are_small t i reports panel is read =
    let same : is.reports ≡ reports = one_list (accepted_files i) is.reports reports (files_short (accepted_files i) is.short) is.read read in
    let tables = is.tables in
    let small = small_sum t is.reports panel tables.section_count.1 (are_reports (accepted_files i) is.reports is.read) is.fit is.different in
    subst (λ (l : List Report). all_sum panel l ≤ most_sections * greatest_count) same small

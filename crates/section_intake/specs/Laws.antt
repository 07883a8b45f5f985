-- What is so of all files and tables.
use Rattle.std.specs.Prelude.{◌≡◌, ◌+◌, ◌*◌, ◌<◌, ◌≤◌, ◌^◌, ℕ, List, [], ◌∷◌, length}
use Rattle.std.specs.List.{AllByRecursion, sum_by}
use Rattle.urna_base.specs.Words.{pieces}
use Rattle.election_tables.specs.Limits.{most_sections}
use Rattle.election_tables.specs.TablesData.{IsTables, TablesData}
use Rattle.hash_chain.specs.Chain.{parts_text}
use Rattle.hash_chain.specs.Fault.{AreFields}
use Rattle.poll_report.specs.Report.{IsReport, greatest_count}
use Rattle.poll_report.specs.declared.report.Report.{Report}
use Rattle.qr_text.specs.Spelling.{report_text}
use Rattle.vote_kinds.specs.Ballot.{line_of}
use Rattle.section_intake.specs.Accepted.{AreFirst, AreOffered, File, HasReportIn, IsOfSection}
use Rattle.section_intake.specs.Fits.{Fits}
use Rattle.section_intake.specs.Intake.{IsIntakeFor, accepted_files}
use Rattle.section_intake.specs.Sections.{AreOfDifferentSections}
use Rattle.section_intake.specs.Sums.{AreReportsOf, all_nominal, all_party, all_sum, blank_sum, nominal_sum, null_sum, party_sum}
use Rattle.section_intake.specs.Verdict.{IsVerdict}
use Rattle.section_intake.specs.declared.intake.Intake.{Intake}
use Rattle.section_intake.specs.declared.verdict.Verdict.{Verdict}
use Rattle.section_intake.specs.declared.verdict.Verdict.TheVariants as verdict

-- Of each file that is shorter than 2^63 bytes there is a verdict,
abbrev pub SomeVerdict : Type 0
SomeVerdict = (t : TablesData) (bytes : List ℕ) → IsTables t → length bytes < 2 ^ 63 → (v : Verdict) × IsVerdict t bytes v

-- and no other.
abbrev pub OneVerdict : Type 0
OneVerdict = (t : TablesData) (bytes : List ℕ) (v w : Verdict) → length bytes < 2 ^ 63 → IsVerdict t bytes v → IsVerdict t bytes w → v ≡ w

-- the text of a report can be cut into parts
abbrev pub TextHasParts : Type 0
TextHasParts = (r : Report) → IsReport r → AreFields (pieces (report_text r))

-- and the file of the parts is accepted by the tables that the report fits
abbrev pub FileIsAccepted : Type 0
FileIsAccepted = (t : TablesData) (r : Report) → IsReport r → Fits t r → IsVerdict t (parts_text (report_text r)) (verdict.Accepted r.zone r.section)

-- ---- files that are offered one behind the other

-- each of these files is shorter than 2^63 bytes
abbrev pub AreShort : List File → Type 0
AreShort files = AllByRecursion (λ file. length file < 2 ^ 63) files

-- Of such files there are verdicts and accepted ones,
abbrev pub SomeVerdicts : Type 0
SomeVerdicts = (t : TablesData) (files : List File) → IsTables t → AreShort files
    → (verdicts : List Verdict) × (accepted : List File) × AreOffered t files verdicts accepted

-- and no others.
abbrev pub OneListOfVerdicts : Type 0
OneListOfVerdicts = (t : TablesData) (files : List File) (verdicts others : List Verdict) (accepted kept : List File) → AreShort files
    → AreOffered t files verdicts accepted → AreOffered t files others kept → (verdicts ≡ others) × (accepted ≡ kept)

-- each accepted file is by itself the report of a section
abbrev pub EachIsAccepted : Type 0
EachIsAccepted = (t : TablesData) (files : List File) (verdicts : List Verdict) (accepted : List File) → AreOffered t files verdicts accepted
    → AllByRecursion (λ file. (zone : ℕ) × (section : ℕ) × IsOfSection t zone section file) accepted

-- two files are of different sections
abbrev pub AreApart : TablesData → File → File → Type 0
AreApart t file other = (zone section : ℕ) → IsOfSection t zone section file → ¬ IsOfSection t zone section other

-- of these files each two are
abbrev pub AreAllApart : TablesData → List File → Type 0
AreAllApart t [] = Unit {0}
AreAllApart t (file ∷ files) = AllByRecursion (AreApart t file) files × AreAllApart t files

-- so are accepted files,
abbrev pub EachSectionOnce : Type 0
EachSectionOnce = (t : TablesData) (files : List File) (verdicts : List Verdict) (accepted : List File) → AreShort files
    → AreOffered t files verdicts accepted → AreAllApart t accepted

-- and there are no more of them than sections
abbrev pub NoMoreThanSections : Type 0
NoMoreThanSections = (t : TablesData) (files : List File) (verdicts : List Verdict) (accepted : List File) → AreShort files
    → AreOffered t files verdicts accepted → length accepted ≤ length t.sections

-- The accepted files are those that are the first of their section, in order, and no others:
abbrev pub FirstsAreAccepted : Type 0
FirstsAreAccepted = (t : TablesData) (files : List File) (verdicts : List Verdict) (accepted : List File) → AreShort files
    → AreOffered t files verdicts accepted → AreFirst t files accepted × ((others : List File) → AreFirst t files others → accepted ≡ others)

-- a section has a report among them exactly where it has one among all files, so that only the accepted ones need to be kept
abbrev pub SameSections : Type 0
SameSections = (t : TablesData) (files : List File) (verdicts : List Verdict) (accepted : List File) (zone section : ℕ) → AreShort files
    → AreOffered t files verdicts accepted
    → (HasReportIn t zone section files → HasReportIn t zone section accepted) × (HasReportIn t zone section accepted → HasReportIn t zone section files)

-- ---- sums

-- Accepted files have reports, which fit the tables and are of different sections.
abbrev pub SomeReports : Type 0
SomeReports = (t : TablesData) (files : List File) (verdicts : List Verdict) (accepted : List File) → AreShort files
    → AreOffered t files verdicts accepted
    → (reports : List Report) × AreReportsOf accepted reports × AllByRecursion (Fits t) reports × AreOfDifferentSections reports

-- files have one list of reports at most, and so one of each sum
abbrev pub OneListOfReports : Type 0
OneListOfReports = (files : List File) (reports others : List Report) → AreShort files → AreReportsOf files reports → AreReportsOf files others
    → reports ≡ others

-- no sum is greater than that of all votes of the panel
abbrev pub SumsAreWithinAll : Type 0
SumsAreWithinAll = (panel number : ℕ) (reports : List Report)
    → (nominal_sum panel number reports ≤ all_sum panel reports) × (party_sum panel number reports ≤ all_sum panel reports)
    × (blank_sum panel reports ≤ all_sum panel reports) × (null_sum panel reports ≤ all_sum panel reports)

-- and that is as small as the reports are: at most 9,999 times their number,
abbrev pub SumsAreFew : Type 0
SumsAreFew = (files : List File) (reports : List Report) (panel : ℕ) → AreReportsOf files reports
    → all_sum panel reports ≤ length files * greatest_count

-- so that of an intake it is at most 19,998,000
abbrev pub SumsAreSmall : Type 0
SumsAreSmall = (t : TablesData) (i : Intake) (reports : List Report) (panel : ℕ) → IsIntakeFor t i → AreReportsOf (accepted_files i) reports
    → all_sum panel reports ≤ most_sections * greatest_count

-- The nominal votes of a panel are those of the tables' candidates, its party votes those of the parties,
abbrev pub EachVoteIsOfTheTables : Type 0
EachVoteIsOfTheTables = (t : TablesData) (reports : List Report) (panel : ℕ) → IsTables t → AllByRecursion (Fits t) reports → panel < length t.panels
    → (sum_by (λ n. nominal_sum panel n reports) (line_of t panel).candidates ≡ all_nominal panel reports)
    × (sum_by (λ n. party_sum panel n reports) (line_of t panel).parties ≡ all_party panel reports)

-- and with the blank and the null votes they are all votes
abbrev pub VotesAddUp : Type 0
VotesAddUp = (panel : ℕ) (reports : List Report)
    → all_nominal panel reports + all_party panel reports + (blank_sum panel reports + null_sum panel reports) ≡ all_sum panel reports

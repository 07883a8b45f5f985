-- What is so of all field texts.
use Rattle.std.specs.Prelude.{◌≡◌, ◌⊎◌, ◌↔◌, ℕ, ◌+◌, ◌*◌, ◌<◌, ◌≤◌, true, List, length, codes, None}
use Rattle.std.specs.List.{AllByRecursion, list_all, sum_by}
use Rattle.urna_base.specs.Moment.{is_between}
use Rattle.urna_base.specs.Words.{after_word, pieces}
use Rattle.poll_report.specs.Report.{IsReport, total_of}
use Rattle.poll_report.specs.declared.report.Report.{Report}
use Rattle.qr_text.specs.Fault.{IsFieldFault, Says}
use Rattle.qr_text.specs.Spelling.{Spells, report_fields, report_text, said}
use Rattle.qr_text.specs.declared.fault.FieldFault.{FieldFault}
use Rattle.qr_text.specs.declared.said.Said.{Said}

-- ---- texts and what they say

-- each text has a fault, or says something rightly
abbrev pub OneOfBoth : Type 0
OneOfBoth = (bytes : List ℕ) → ((f : FieldFault) × IsFieldFault bytes f) ⊎ ((s : Said) × Says bytes s)

-- and never both
abbrev pub NotBoth : Type 0
NotBoth = (bytes : List ℕ) (f : FieldFault) (s : Said) → IsFieldFault bytes f → Says bytes s → ⊥

-- a text has one fault
abbrev pub OneFault : Type 0
OneFault = (bytes : List ℕ) (f g : FieldFault) → IsFieldFault bytes f → IsFieldFault bytes g → f ≡ g

-- and says one thing
abbrev pub SaysOne : Type 0
SaysOne = (bytes : List ℕ) (s t : Said) → Says bytes s → Says bytes t → s ≡ t

-- ---- reports and what is said

-- the text of a report says rightly what the report says
abbrev pub ReportIsSaid : Type 0
ReportIsSaid = (r : Report) → IsReport r → Says (report_text r) (said r)

-- what is said rightly is what a report says
abbrev pub SaidIsReport : Type 0
SaidIsReport = (s : Said) (bytes : List ℕ) → Says bytes s → (r : Report) × IsReport r × (said r ≡ s)

-- and two reports don't say the same
abbrev pub OneReport : Type 0
OneReport = (r q : Report) → IsReport r → IsReport q → said r ≡ said q → r ≡ q

-- ---- texts and reports

-- each text has a fault, or spells one report
abbrev pub OneAnswer : Type 0
OneAnswer = (bytes : List ℕ)
    → ((f : FieldFault) × IsFieldFault bytes f) ⊎ ((r : Report) × Spells bytes r × ((q : Report) → Spells bytes q → q ≡ r))

-- and never both
abbrev pub NeverBoth : Type 0
NeverBoth = (bytes : List ℕ) (f : FieldFault) (r : Report) → IsFieldFault bytes f → Spells bytes r → ⊥

-- a report has one text
abbrev pub OneText : Type 0
OneText = (bytes : List ℕ) (r : Report) → IsReport r → Spells bytes r ↔ (bytes ≡ report_text r)

-- which spells that report and no other
abbrev pub TextSpellsReport : Type 0
TextSpellsReport = (r : Report) → IsReport r → Spells (report_text r) r × ((q : Report) → Spells (report_text r) q → q ≡ r)

-- ---- the form of a text

-- a field has 1 to 13 bytes, each of 0x21 to 0x7E, and doesn't begin as the hash of a part does
pub record IsPlain (field : List ℕ) : Type 0 where
  pub some : 0 < length field
  pub short : length field ≤ 13
  pub seen : list_all (is_between 0x21 0x7E) field ≡ true
  pub no_hash : after_word (codes "HASH:") field ≡ None

-- the pieces of a report's text are the report's fields, and there are some
abbrev pub TextHasFields : Type 0
TextHasFields = (r : Report) → IsReport r → (pieces (report_text r) ≡ report_fields r) × (0 < length (report_fields r))

-- each field of a report is plain
abbrev pub FieldsArePlain : Type 0
FieldsArePlain = (r : Report) → IsReport r → AllByRecursion IsPlain (report_fields r)

-- no text is long for its votes
abbrev pub ShortByVotes : Type 0
ShortByVotes = (r : Report) → IsReport r → length (report_text r) ≤ 1000 + 40 * sum_by total_of r.offices

-- nor for those who came, who have at most two votes for each of at most eight offices
abbrev pub TextIsShort : Type 0
TextIsShort = (r : Report) → IsReport r → length (report_text r) ≤ 1000 + 640 * r.came

-- What is so of all record texts.
use Rattle.std.specs.Prelude.{◌≡◌, ◌≢◌, ◌⊎◌, ◌≤◌, ℕ, Bool, false, List, [], ◌∷◌, MatchOption, length}
use Rattle.std.specs.List.{AllByRecursion}
use Rattle.election_tables.specs.TablesData.{TablesData, IsTables}
use Rattle.election_tables.specs.declared.tables.sections.Section.{Section}
use Rattle.vote_kinds.specs.Choice.{choice_le}
use Rattle.vote_kinds.specs.declared.choice.Choice.{Choice}
use Rattle.vote_record.specs.Bag.{IsInOrder, count_of}
use Rattle.vote_record.specs.RdvData.{RdvData}
use Rattle.vote_record.specs.RecordText.{record_text}
use Rattle.poll_report.specs.Counted.{HasReport, report_of}
use Rattle.poll_report.specs.declared.report.OfficeCount.{OfficeCount}
use Rattle.poll_report.specs.declared.report.Report.{Report}
use Rattle.record_audit.specs.Fault.{IsLineFault}
use Rattle.record_audit.specs.Finding.{codes_counted, difference, finding, said_for}
use Rattle.record_audit.specs.Record.{section_record}
use Rattle.record_audit.specs.Spelling.{Spells, codes_in}
use Rattle.record_audit.specs.declared.finding.Finding.TheVariants.{Agree}
use Rattle.record_audit.specs.declared.text.RecordOffice.{RecordOffice}
use Rattle.record_audit.specs.declared.text.RecordText.{RecordText}

-- each text has a first line that may not stand there, or spells one record,
abbrev pub OneAnswer : Type 0
OneAnswer = (bytes : List ℕ) → ((k : ℕ) × IsLineFault bytes k) ⊎ ((r : RecordText) × Spells bytes r × ((q : RecordText) → Spells bytes q → q ≡ r))

-- and never both;
abbrev pub NeverBoth : Type 0
NeverBoth = (bytes : List ℕ) (k : ℕ) (r : RecordText) → IsLineFault bytes k → Spells bytes r → ⊥

-- and it has one such line
abbrev pub OneFault : Type 0
OneFault = (bytes : List ℕ) (k l : ℕ) → IsLineFault bytes k → IsLineFault bytes l → k ≡ l

-- The text of a record has at most 131,072 bytes.
abbrev pub TextIsShort : Type 0
TextIsShort = (bytes : List ℕ) (r : RecordText) → Spells bytes r → length bytes ≤ 131072

-- ---- what differs

-- the number of vote lines of a choice isn't what the report says, and that of each choice before it, in the order of choices, is
pub record IsFirstDifference (votes : List Choice) (o : OfficeCount) (c : Choice) : Type 0 where
  pub here : count_of c votes ≢ said_for o c
  pub before : (d : Choice) → choice_le c d ≡ false → count_of d votes ≡ said_for o d

-- the difference of votes and a report is the first; where there is none, the number of vote lines of each choice is what the report says
abbrev pub DifferenceIsFirst : Type 0
DifferenceIsFirst = (votes : List Choice) (o : OfficeCount)
    → MatchOption (difference votes o) ((c : Choice) → count_of c votes ≡ said_for o c) (λ c. IsFirstDifference votes o c)

-- ---- what it means that record and report agree

-- the text of a section's record spells that record, and it and the section's report agree
abbrev pub SectionAgrees : Type 0
SectionAgrees = (t : TablesData) (section : Section) (votes : RdvData) (came : List Bool) (opened closed : ℕ) → IsTables t
    → HasReport t section votes came opened closed → AllByRecursion IsInOrder votes.bags
    → Spells (record_text t section votes.bags) (section_record t section votes.bags)
    × (finding (section_record t section votes.bags) (report_of t section votes.bags came opened closed) ≡ Agree)

-- an office of the record has just the votes that one of the report says, of each choice; one that isn't listed has none
abbrev pub HasVotesOf : RecordOffice → OfficeCount → Type 0
HasVotesOf o q = (c : Choice) → count_of c o.votes ≡ said_for q c

-- office by office, in the order of the ballot
abbrev pub EachHasVotesOf : List RecordOffice → List OfficeCount → Type 0
EachHasVotesOf [] [] = Unit {0}
EachHasVotesOf [] (q ∷ counts) = ⊥
EachHasVotesOf (o ∷ offices) [] = ⊥
EachHasVotesOf (o ∷ offices) (q ∷ counts) = HasVotesOf o q × EachHasVotesOf offices counts

-- a record says the same as a report: of one election and section, the same offices, and in each the same votes
pub record SaysSame (r : RecordText) (p : Report) : Type 0 where
  pub process : r.process ≡ p.process
  pub date : r.date ≡ p.date
  pub turn : r.turn ≡ p.turn
  pub zone : r.zone ≡ p.zone
  pub section : r.section ≡ p.section
  pub codes : codes_in r.offices ≡ codes_counted p.offices
  pub votes : EachHasVotesOf r.offices p.offices

-- where a recount finds that they agree, they say the same
abbrev pub AgreeSaysSame : Type 0
AgreeSaysSame = (r : RecordText) (p : Report) → finding r p ≡ Agree → SaysSame r p

-- and where they say the same it finds so
abbrev pub SaysSameAgrees : Type 0
SaysSameAgrees = (r : RecordText) (p : Report) → SaysSame r p → finding r p ≡ Agree

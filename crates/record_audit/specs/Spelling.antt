-- Which records a text may spell, and the one text of each (docs/FORMATS.md, "Record text"): its lines are those of vote_record's
-- specs/RecordText.antt.
use Rattle.std.specs.Prelude.{◌≡◌, ℕ, ◌*◌, ◌<◌, ◌≤◌, Bool, true, ◌&&◌, List, [], length, map}
use Rattle.std.specs.List.{AllByRecursion, concat, flat_map}
use Rattle.urna_base.specs.Moment.{is_between, is_date}
use Rattle.election_tables.specs.Fields.{has_digits}
use Rattle.election_tables.specs.Limits.{greatest_process, greatest_section, most_voters}
use Rattle.election_tables.specs.Offices.{code_proportional}
use Rattle.vote_kinds.specs.declared.choice.Choice.{Choice}
use Rattle.vote_kinds.specs.declared.choice.Choice.TheVariants as choice
use Rattle.vote_record.specs.Bag.{IsInOrder}
use Rattle.vote_record.specs.RecordText.{heading_words, office_lines, record_lines}
use Rattle.poll_report.specs.Report.{EachAfter, digits_in, may_have_code}
use Rattle.record_audit.specs.declared.text.RecordOffice.{RecordOffice}
use Rattle.record_audit.specs.declared.text.RecordText.{RecordText}

-- ---- which records have a text

-- the most votes of an office: two of each voter
abbrev pub most_votes : ℕ
most_votes = 2 * most_voters

-- what may be a vote in an office with this code: a candidate's number of the office's digits, the first not zero; the number of a party
-- in a proportional office alone; blank and null
abbrev pub may_vote : ℕ → Choice → Bool
may_vote code (choice.Nominal number) = has_digits (digits_in code) number
may_vote code (choice.Party number) = code_proportional code && is_between 10 99 number
may_vote code choice.Blank = true
may_vote code choice.Null = true

-- the votes of an office, each of which may be one there, in the order of choices
pub record IsRecordOffice (o : RecordOffice) : Type 0 where
  pub few : length o.votes ≤ most_votes
  pub votes : AllByRecursion (λ c. may_vote o.code c ≡ true) o.votes
  pub in_order : IsInOrder o.votes

-- the codes of offices, in order
abbrev pub codes_in : List RecordOffice → List ℕ
codes_in offices = map (λ o. o.code) offices

-- an office has a code that none before it has
abbrev pub MayStand : List RecordOffice → RecordOffice → Type 0
MayStand before o = (may_have_code (codes_in before) o.code ≡ true) × IsRecordOffice o

-- which election and section it is
pub record IsHeading (r : RecordText) : Type 0 where
  pub process : is_between 1 greatest_process r.process ≡ true
  pub date : is_date r.date ≡ true
  pub turn : is_between 1 2 r.turn ≡ true
  pub zone : is_between 1 greatest_section r.zone ≡ true
  pub section : is_between 1 greatest_section r.section ≡ true

-- the numbers lie in their ranges, and there are one to eight offices
pub record IsRecord (r : RecordText) : Type 0 where
  pub heading : IsHeading r
  pub some : 0 < length r.offices
  pub offices : EachAfter MayStand [] r.offices

-- ---- the text of a record

-- the second line: which election and section it is
abbrev pub heading_of : RecordText → List ℕ
heading_of r = heading_words r.process r.date r.turn r.zone r.section

-- the lines of an office, each with its line feed
abbrev pub spelled_office : RecordOffice → List (List ℕ)
spelled_office o = office_lines o.code o.votes

-- the lines of a record, each with its line feed
abbrev pub spelled_lines : RecordText → List (List ℕ)
spelled_lines r = record_lines (heading_of r) (flat_map spelled_office r.offices)

-- the text of a record: its lines
abbrev pub spelling : RecordText → List ℕ
spelling r = concat (spelled_lines r)

-- a text spells a record
pub record Spells (bytes : List ℕ) (r : RecordText) : Type 0 where
  pub record_is : IsRecord r
  pub same : bytes ≡ spelling r

-- The report of a section and what was counted there (docs/RULES.md, "The report"): each number is a number of members of a bag.
use Rattle.std.specs.Prelude.{◌≡◌, ℕ, ◌+◌, ◌*◌, ◌≤◌, Bool, true, List, [], ◌∷◌, map, length, nat_lt}
use Rattle.std.specs.List.{Contains, filter}
use Rattle.urna_base.specs.Moment.{is_moment}
use Rattle.election_tables.specs.TablesData.{TablesData, places_in, places_of}
use Rattle.election_tables.specs.declared.office.Kind.{Kind}
use Rattle.election_tables.specs.declared.office.Kind.TheVariants as kind
use Rattle.election_tables.specs.declared.tables.panels.Panel.{Panel}
use Rattle.election_tables.specs.declared.tables.sections.Section.{Section}
use Rattle.turnout.specs.Turnout.{number_came}
use Rattle.vote_kinds.specs.declared.choice.Choice.{Choice}
use Rattle.vote_kinds.specs.declared.choice.Choice.TheVariants as choice
use Rattle.vote_record.specs.Bag.{count_of, bag_at}
use Rattle.vote_record.specs.Laws.{HasOnlyVotes}
use Rattle.vote_record.specs.RdvData.{RdvData}
use Rattle.poll_report.specs.declared.report.Count.{Count}
use Rattle.poll_report.specs.declared.report.OfficeCount.{OfficeCount}
use Rattle.poll_report.specs.declared.report.Report.{Report}

-- how many members of a bag choose this number
abbrev pub counted : (ℕ → Choice) → List Choice → ℕ → Count
counted choose bag number = record { number = number; votes = count_of (choose number) bag }

-- those of these numbers that have a vote, with their votes
abbrev pub listed : (ℕ → Choice) → List ℕ → List Choice → List Count
listed choose numbers bag = filter (λ c. nat_lt 0 c.votes) (map (counted choose bag) numbers)

-- the parties have votes of their own in a proportional office alone
abbrev pub party_counts : Kind → TablesData → List Choice → List Count
party_counts kind.Proportional t bag = listed (λ n. choice.Party n) (map (λ q. q.number) t.parties) bag
party_counts kind.Absolute t bag = []
party_counts kind.Simple t bag = []

-- the counts of a panel's office
abbrev pub office_count : TablesData → Panel → List Choice → OfficeCount
office_count t p bag = record {
  code = p.office.code;
  places = places_in p;
  nominal = listed (λ n. choice.Nominal n) (map (λ c. c.number) p.candidates) bag;
  parties = party_counts p.office.kind t bag;
  blank = count_of choice.Blank bag;
  null_votes = count_of choice.Null bag;
}

-- of these panels, the first of which has this number
abbrev pub counts_of_panels : TablesData → List (List Choice) → ℕ → List Panel → List OfficeCount
counts_of_panels t bags first [] = []
counts_of_panels t bags first (p ∷ panels) = office_count t p (bag_at bags first) ∷ counts_of_panels t bags (first + 1) panels

-- of all panels, in order
unfoldable pub office_counts : TablesData → List (List Choice) → List OfficeCount
office_counts t bags = counts_of_panels t bags 0 t.panels

-- the report of a section: its bags, who came, and the moments of opening and closing
abbrev pub report_of : TablesData → Section → List (List Choice) → List Bool → ℕ → ℕ → Report
report_of t section bags came opened closed = record {
  process = t.process;
  date = t.date;
  turn = t.turn;
  zone = section.zone;
  section = section.number;
  able = section.voters;
  came = number_came came;
  opened = opened;
  closed = closed;
  offices = office_counts t bags;
}

-- What a report is made of: a record of the tables that has the votes of all who came, a section of the tables with as many voters as
-- the turnout has, and two moments, of which closing isn't below opening.
pub record HasReport (t : TablesData) (of : Section) (r : RdvData) (came : List Bool) (start end : ℕ) : Type 0 where
  pub votes : HasOnlyVotes t r
  pub totals : map length r.bags ≡ map (λ places. number_came came * places) (places_of t)
  pub section : Contains t.sections of
  pub voters : of.voters ≡ length came
  pub opened : is_moment start ≡ true
  pub closed : is_moment end ≡ true
  pub order : start ≤ end

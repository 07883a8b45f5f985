-- The one spelling of a report.
use Rattle.std.specs.Prelude.{◌≡◌, ℕ, ◌+◌, ◌-◌, ◌/◌, ◌%◌, nat_lt, ◌==◌, if◌then◌else◌, List, [], map}
use Rattle.std.specs.List.{find, filter, range_with_len}
use Rattle.std.specs.Option.{option_map_or}
use Rattle.urna_base.specs.Words.{joined, pieces}
use Rattle.election_tables.specs.Fields.{first_two}
use Rattle.election_tables.specs.Offices.{code_proportional}
use Rattle.poll_report.specs.Report.{IsReport, digits_in, total_of, votes_of}
use Rattle.poll_report.specs.declared.report.Count.{Count}
use Rattle.poll_report.specs.declared.report.OfficeCount.{OfficeCount}
use Rattle.poll_report.specs.declared.report.Report.{Report}
use Rattle.qr_text.specs.Said.{fields, texts}
use Rattle.qr_text.specs.declared.said.Said.{Said}
use Rattle.qr_text.specs.declared.said.SaidOffice.{SaidOffice}
use Rattle.qr_text.specs.declared.said.SaidParty.{SaidParty}

-- ---- what the text of a report says

-- the party votes of a party: 0 if it isn't listed
abbrev pub party_votes : ℕ → List Count → ℕ
party_votes number parties = option_map_or (λ c. c.votes) (find (λ c. c.number == number) parties) 0

-- the candidates of a party: those whose numbers begin with the party's
abbrev pub candidates_of_party : ℕ → ℕ → List Count → List Count
candidates_of_party digits party nominal = filter (λ c. first_two digits c.number == party) nominal

-- a party with its candidates, its party votes and its total
abbrev pub said_party : ℕ → OfficeCount → ℕ → SaidParty
said_party digits o party =
    let candidates = candidates_of_party digits party o.nominal in
    let legend = party_votes party o.parties in
    record { number = party; candidates = candidates; legend = legend; total = votes_of candidates + legend }

-- those of the parties 10 to 99 that have at least one vote, rising
abbrev pub said_parties : OfficeCount → List SaidParty
said_parties o = filter (λ p. nat_lt 0 p.total) (map (said_party (digits_in o.code) o) (range_with_len 10 90))

-- an office with its sums
abbrev pub said_office : Report → OfficeCount → SaidOffice
said_office r o =
    let proportional = code_proportional o.code in
    record {
      code = o.code;
      places = o.places;
      candidates = if proportional then [] else o.nominal;
      parties = if proportional then said_parties o else [];
      able = r.able;
      nominal = votes_of o.nominal;
      legend = votes_of o.parties;
      blank = o.blank;
      null_votes = o.null_votes;
      total = total_of o;
    }

-- the numbers of the report, its sums, and its moments as dates and times of the day
unfoldable pub said : Report → Said
said r = record {
  process = r.process;
  date = r.date;
  turn = r.turn;
  zone = r.zone;
  section = r.section;
  able = r.able;
  came = r.came;
  missed = r.able - r.came;
  open_date = r.opened / 1000000;
  open_time = r.opened % 1000000;
  close_date = r.closed / 1000000;
  close_time = r.closed % 1000000;
  offices = map (said_office r) r.offices;
}

-- ---- texts

-- the fields of a report
unfoldable pub report_fields : Report → List (List ℕ)
report_fields r = texts (fields (said r))

-- the text of a report: its fields with single spaces (32) between them
unfoldable pub report_text : Report → List ℕ
report_text r = joined (report_fields r)

-- a text spells a report: its pieces are the report's fields
pub record Spells (bytes : List ℕ) (r : Report) : Type 0 where
  pub report : IsReport r
  pub fields : pieces bytes ≡ report_fields r

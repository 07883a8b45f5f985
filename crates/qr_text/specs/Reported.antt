-- The report that was said.
use Rattle.std.specs.Prelude.{nat_lt, if◌then◌else◌, List, [], ◌∷◌, ◌++◌, map}
use Rattle.std.specs.List.{filter, flat_map}
use Rattle.poll_report.specs.declared.report.Count.{Count}
use Rattle.poll_report.specs.declared.report.OfficeCount.{OfficeCount}
use Rattle.poll_report.specs.declared.report.Report.{Report}
use Rattle.qr_text.specs.Said.{moment}
use Rattle.qr_text.specs.declared.said.Said.{Said}
use Rattle.qr_text.specs.declared.said.SaidOffice.{SaidOffice}
use Rattle.qr_text.specs.declared.said.SaidParty.{SaidParty}

-- the party votes of those parties that have some
abbrev pub legends : List SaidParty → List Count
legends ps = map (λ p. record { number = p.number; votes = p.legend }) (filter (λ p. nat_lt 0 p.legend) ps)

-- those of one party
abbrev pub legend_of : SaidParty → List Count
legend_of p = if nat_lt 0 p.legend then record { number = p.number; votes = p.legend } ∷ [] else []

-- the candidates of an office; those of its parties stand behind one another
abbrev pub all_candidates : SaidOffice → List Count
all_candidates o = o.candidates ++ flat_map (λ p. p.candidates) o.parties

-- an office without its sums
abbrev pub told_office : SaidOffice → OfficeCount
told_office o = record {
  code = o.code;
  places = o.places;
  nominal = all_candidates o;
  parties = legends o.parties;
  blank = o.blank;
  null_votes = o.null_votes;
}

-- the moments are those of their dates and times of the day
abbrev pub told_report : Said → Report
told_report s = record {
  process = s.process;
  date = s.date;
  turn = s.turn;
  zone = s.zone;
  section = s.section;
  able = s.able;
  came = s.came;
  opened = moment s.open_date s.open_time;
  closed = moment s.close_date s.close_time;
  offices = map told_office s.offices;
}

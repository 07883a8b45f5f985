-- Whether a report fits the tables, test by test: what the functions that try it say.
use Rattle.std.specs.Prelude.{ℕ, Bool, true, false, nat_le, ◌==◌, ◌&&◌, List, [], ◌∷◌}
use Rattle.std.specs.List.{list_all}
use Rattle.std.specs.Option.{option_map_or}
use Rattle.election_tables.specs.TablesData.{TablesData, section_with}
use Rattle.election_tables.specs.declared.tables.sections.Section.{Section}
use Rattle.poll_report.specs.declared.report.Count.{Count}
use Rattle.poll_report.specs.declared.report.OfficeCount.{OfficeCount}
use Rattle.poll_report.specs.declared.report.Report.{Report}
use Rattle.vote_kinds.specs.Ballot.{BallotLine, is_choice, lines_by_panel}
use Rattle.vote_kinds.specs.declared.choice.Choice.TheVariants as choice

-- each of these numbers is one of a candidate of the line
abbrev pub are_candidates : BallotLine → List Count → Bool
are_candidates line counts = list_all (λ c. is_choice line (choice.Nominal c.number)) counts

-- the number is one of a party of the line; all these have two digits
abbrev pub is_party : BallotLine → ℕ → Bool
is_party line number = nat_le number 99 && is_choice line (choice.Party number)

abbrev pub are_parties : BallotLine → List Count → Bool
are_parties line counts = list_all (λ c. is_party line c.number) counts

-- the counts are those of the line's panel
unfoldable pub fits_line : BallotLine → OfficeCount → Bool
fits_line line o = (o.code == line.code && o.places == line.places) && (are_candidates line o.nominal && are_parties line o.parties)

-- these offices are those of these panels, in order
unfoldable pub fit_lines : List BallotLine → List OfficeCount → Bool
fit_lines [] [] = true
fit_lines [] (o ∷ offices) = false
fit_lines (line ∷ lines) [] = false
fit_lines (line ∷ lines) (o ∷ offices) = fits_line line o && fit_lines lines offices

-- the section of the report is one of these, with as many voters
abbrev pub fits_section : List Section → Report → Bool
fits_section sections r = option_map_or (λ s. s.voters == r.able) (section_with r.zone r.section sections) false

-- it is of the same election, date and round
abbrev pub fits_election : TablesData → Report → Bool
fits_election t r = r.process == t.process && (r.date == t.date && r.turn == t.turn)

abbrev pub fits : TablesData → Report → Bool
fits t r = fits_section t.sections r && (fits_election t r && fit_lines (lines_by_panel t) r.offices)

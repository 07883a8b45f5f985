-- Which reports are of the election of some tables (docs/FORMATS.md, "Verdicts").
use Rattle.std.specs.Prelude.{◌≡◌, true, List, [], ◌∷◌, Some, option_map}
use Rattle.std.specs.List.{AllByRecursion}
use Rattle.election_tables.specs.TablesData.{TablesData, section_with}
use Rattle.poll_report.specs.declared.report.OfficeCount.{OfficeCount}
use Rattle.poll_report.specs.declared.report.Report.{Report}
use Rattle.vote_kinds.specs.Ballot.{BallotLine, is_choice, lines_by_panel}
use Rattle.vote_kinds.specs.declared.choice.Choice.TheVariants as choice

-- The counts of an office are those of a panel, which this line of the ballot tells: the office is the panel's, with as many votes for each
-- voter, and whoever is listed may be chosen there.
pub record FitsLine (line : BallotLine) (o : OfficeCount) : Type 0 where
  pub code : o.code ≡ line.code
  pub places : o.places ≡ line.places
  pub candidates : AllByRecursion (λ c. is_choice line (choice.Nominal c.number) ≡ true) o.nominal
  pub parties : AllByRecursion (λ c. is_choice line (choice.Party c.number) ≡ true) o.parties

-- these offices are those of these panels, in order
abbrev pub FitLines : List BallotLine → List OfficeCount → Type 0
FitLines [] [] = Unit {0}
FitLines [] (o ∷ offices) = ⊥
FitLines (line ∷ lines) [] = ⊥
FitLines (line ∷ lines) (o ∷ offices) = FitsLine line o × FitLines lines offices

-- A report is of the tables' election: its number, its date and its round; of a section of the tables, with as many voters; and of their
-- offices, in order.
pub record Fits (t : TablesData) (r : Report) : Type 0 where
  pub process : r.process ≡ t.process
  pub date : r.date ≡ t.date
  pub turn : r.turn ≡ t.turn
  pub section : option_map (λ s. s.voters) (section_with r.zone r.section t.sections) ≡ Some r.able
  pub offices : FitLines (lines_by_panel t) r.offices

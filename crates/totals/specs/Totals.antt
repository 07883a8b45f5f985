-- The totals of an election over the reports that were accepted: the sums of each office, and what comes of them by law
use Rattle.std.specs.Prelude.{◌≡◌, ℕ, ◌+◌, ◌==◌, List, [], ◌∷◌, ◌++◌, length, map}
use Rattle.election_tables.specs.TablesData.{TablesData}
use Rattle.election_tables.specs.declared.office.Kind.{Kind}
use Rattle.election_tables.specs.declared.office.Kind.TheVariants as kind
use Rattle.election_tables.specs.declared.tables.panels.Panel.{Panel}
use Rattle.poll_report.specs.declared.report.Report.{Report}
use Rattle.section_intake.specs.Sums.{nominal_sum}
use Rattle.seat_remainders.specs.Majority.{majority_outcome}
use Rattle.seat_remainders.specs.Outcome.{IsOutcome}
use Rattle.seat_remainders.specs.declared.contest.Contest.{Contest}
use Rattle.seat_remainders.specs.declared.contest.Entry.{Entry}
use Rattle.seat_remainders.specs.declared.outcome.Outcome.{Outcome}
use Rattle.totals.specs.Contest.{contest_for, entries_in, votes_in}
use Rattle.totals.specs.Lines.{candidate_line, majority_line, office_line, outcome_lines, section_line, simple_lines}
use Rattle.totals.specs.Simple.{elected_simply}

-- These lines tell what comes of an office: in a proportional one the outcome of its contest; where it is decided by the absolute majority,
-- that of its candidates by the absolute rule in the first turn, and by the simple one in the second (Constitution art. 77, paragraph 3);
-- where it is decided by the simple majority, the first so many in the order of candidates as it has seats, of those who have a vote, are
-- elected. Each number of a candidate has so many votes.
abbrev pub TellResult : Kind → TablesData → Contest → List Entry → (ℕ → ℕ) → List (List ℕ) → Type 0
TellResult kind.Proportional t contest candidates votes lines = (o : Outcome) × IsOutcome contest o × (lines ≡ outcome_lines t votes o)
TellResult kind.Absolute t contest candidates votes lines = lines ≡ majority_line (majority_outcome candidates (t.turn == 1)) ∷ []
TellResult kind.Simple t contest candidates votes lines = lines ≡ simple_lines (elected_simply contest.seats candidates)

-- These lines tell of the panel of a number: its votes, those of each candidate, and what comes of them.
pub record TellPanel (t : TablesData) (reports : List Report) (panel : ℕ) (p : Panel) (lines : List (List ℕ)) : Type 0 where
  pub result : List (List ℕ)
  pub told : TellResult p.office.kind t (contest_for t reports panel p) (entries_in reports panel p) (λ number. nominal_sum panel number reports) result
  pub all : lines ≡ office_line p.office.code (votes_in reports panel) ∷ (map candidate_line (entries_in reports panel p) ++ result)

-- these lines tell of these panels, the first of which has this number
abbrev pub TellPanels : TablesData → List Report → ℕ → List Panel → List (List ℕ) → Type 0
TellPanels t reports first [] lines = lines ≡ []
TellPanels t reports first (p ∷ panels) lines =
    (own : List (List ℕ)) × (others : List (List ℕ)) × TellPanel t reports first p own × TellPanels t reports (first + 1) panels others
    × (lines ≡ own ++ others)

-- These lines tell the totals over these reports: how many there are, and each panel in order.
pub record AreTotals (t : TablesData) (reports : List Report) (lines : List (List ℕ)) : Type 0 where
  pub panels : List (List ℕ)
  pub told : TellPanels t reports 0 t.panels panels
  pub all : lines ≡ section_line (length reports) (length t.sections) ∷ panels

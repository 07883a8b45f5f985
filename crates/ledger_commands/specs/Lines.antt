-- The lines that tell a ledger (docs/FORMATS.md, "Commands of the ledger"): how many sections are accepted, and of each office the sums of its votes
use Rattle.std.specs.Prelude.{ℕ, ◌+◌, List, [], ◌∷◌, ◌++◌, length, map}
use Rattle.std.specs.List.{sum_by}
use Rattle.election_tables.specs.TablesData.{TablesData}
use Rattle.election_tables.specs.declared.tables.candidates.NamedCandidate.{NamedCandidate}
use Rattle.election_tables.specs.declared.tables.panels.Panel.{Panel}
use Rattle.seat_remainders.specs.Parties.{nominal_votes}
use Rattle.seat_remainders.specs.declared.contest.Entry.{Entry}
use Rattle.totals.specs.Contest.{party_numbers}
use Rattle.totals.specs.Lines.{candidate_line, office_line, section_line}
use Rattle.totals.specs.declared.votes.PanelVotes.{PanelVotes}
use Rattle.vote_kinds.specs.declared.choice.Choice.TheVariants as choice
use Rattle.intake_ledger.specs.Ledger.{LedgerData, accepted_in, sum_of}

-- a candidate with the sum of the nominal votes
abbrev pub entry_told : TablesData → LedgerData → ℕ → NamedCandidate → Entry
entry_told t l panel c = record { number = c.number; birth = c.birth; votes = sum_of t l panel (choice.Nominal c.number) }

-- the candidates of a panel, rising
abbrev pub entries_told : TablesData → LedgerData → ℕ → Panel → List Entry
entries_told t l panel p = map (entry_told t l panel) p.candidates

-- all votes of a panel: those of its candidates, of the parties, blank and null
abbrev pub votes_told : TablesData → LedgerData → ℕ → Panel → PanelVotes
votes_told t l panel p = record {
  nominal = nominal_votes (entries_told t l panel p);
  party = sum_by (λ party. sum_of t l panel (choice.Party party)) (party_numbers t);
  blank = sum_of t l panel choice.Blank;
  null_votes = sum_of t l panel choice.Null;
}

-- the lines of a panel: all its votes, and those of each candidate
abbrev pub panel_lines : TablesData → LedgerData → ℕ → Panel → List (List ℕ)
panel_lines t l panel p = office_line p.office.code (votes_told t l panel p) ∷ map candidate_line (entries_told t l panel p)

-- those of these panels, the first of which has this number
abbrev pub panels_lines : TablesData → LedgerData → ℕ → List Panel → List (List ℕ)
panels_lines t l first [] = []
panels_lines t l first (p ∷ panels) = panel_lines t l first p ++ panels_lines t l (first + 1) panels

-- the lines of a ledger
abbrev pub ledger_lines : TablesData → LedgerData → List (List ℕ)
ledger_lines t l = section_line (accepted_in l) (length t.sections) ∷ panels_lines t l 0 t.panels

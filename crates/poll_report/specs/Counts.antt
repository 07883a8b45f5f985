-- The lines of a report of counts (docs/FORMATS.md, "Shown texts"), each with its line feed
use Rattle.std.specs.Prelude.{ℕ, ◌+◌, List, [], ◌∷◌, ◌++◌, codes, map, length}
use Rattle.urna_base.specs.Lines.{number_line, two_number_line}
use Rattle.election_tables.specs.TablesData.{TablesData}
use Rattle.election_tables.specs.declared.office.Kind.{Kind}
use Rattle.election_tables.specs.declared.office.Kind.TheVariants as kind
use Rattle.election_tables.specs.declared.tables.candidates.NamedCandidate.{NamedCandidate}
use Rattle.election_tables.specs.declared.tables.panels.Panel.{Panel}
use Rattle.election_tables.specs.declared.tables.parties.Party.{Party}
use Rattle.vote_kinds.specs.declared.choice.Choice.{Choice}
use Rattle.vote_kinds.specs.declared.choice.Choice.TheVariants as choice
use Rattle.vote_record.specs.Bag.{count_of, bag_at}

-- a number and its votes
abbrev pub votes_line : ℕ → ℕ → List ℕ
votes_line number votes = two_number_line [] number (codes " ") votes

-- the line of a candidate
abbrev pub candidate_line : List Choice → NamedCandidate → List ℕ
candidate_line bag c = votes_line c.number (count_of (choice.Nominal c.number) bag)

-- one line for each candidate, rising
abbrev pub candidate_lines : List NamedCandidate → List Choice → List (List ℕ)
candidate_lines candidates bag = map (candidate_line bag) candidates

-- the line of a party
abbrev pub party_line : List Choice → Party → List ℕ
party_line bag q = votes_line q.number (count_of (choice.Party q.number) bag)

-- one line for each party, rising
abbrev pub party_lines : List Party → List Choice → List (List ℕ)
party_lines parties bag = map (party_line bag) parties

-- the parties have lines in a proportional office alone
abbrev pub kind_lines : Kind → TablesData → List Choice → List (List ℕ)
kind_lines kind.Proportional t bag = party_lines t.parties bag
kind_lines kind.Absolute t bag = []
kind_lines kind.Simple t bag = []

-- the lines of the blank, of the null and of all votes
abbrev pub total_lines : List Choice → List (List ℕ)
total_lines bag =
    number_line (codes "BRANCO ") (count_of choice.Blank bag) ∷ number_line (codes "NULO ") (count_of choice.Null bag)
    ∷ number_line (codes "TOTAL ") (length bag) ∷ []

-- the lines of a panel
abbrev pub panel_lines : TablesData → Panel → List Choice → List (List ℕ)
panel_lines t p bag =
    number_line (codes "CARGO ") p.office.code ∷ (candidate_lines p.candidates bag ++ (kind_lines p.office.kind t bag ++ total_lines bag))

-- of these panels, the first of which has this number
abbrev pub lines_of_panels : TablesData → List (List Choice) → ℕ → List Panel → List (List ℕ)
lines_of_panels t bags first [] = []
lines_of_panels t bags first (p ∷ panels) = panel_lines t p (bag_at bags first) ++ lines_of_panels t bags (first + 1) panels

-- of all panels, in order
unfoldable pub count_lines : TablesData → List (List Choice) → List (List ℕ)
count_lines t bags = lines_of_panels t bags 0 t.panels

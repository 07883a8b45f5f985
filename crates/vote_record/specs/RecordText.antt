-- The text of a digital vote record (docs/FORMATS.md, "Record text"): its lines, said by numbers, and the text of a section's record. It is
-- made of the tables, the section and the bags alone, and a bag has no order of voters.
use Rattle.std.specs.Prelude.{ℕ, List, [], ◌∷◌, ◌++◌, codes, length, map}
use Rattle.std.specs.Fmt.{decimal}
use Rattle.std.specs.List.{concat, flat_map, zip}
use Rattle.urna_base.specs.Digits.{padded}
use Rattle.election_tables.specs.TablesData.{TablesData}
use Rattle.election_tables.specs.declared.tables.panels.Panel.{Panel}
use Rattle.election_tables.specs.declared.tables.sections.Section.{Section}
use Rattle.vote_kinds.specs.declared.choice.Choice.{Choice}
use Rattle.vote_kinds.specs.declared.choice.Choice.TheVariants as choice

-- ---- what stands on a line

-- the first line
abbrev pub format_words : List ℕ
format_words = codes "RDV U1"

-- the second line: which election it is, the day of the poll, the turn and the section
unfoldable pub heading_words : ℕ → ℕ → ℕ → ℕ → ℕ → List ℕ
heading_words process date turn zone section =
    codes "PROC " ++ (decimal process
    ++ (codes " DTPL " ++ (padded 8 date
    ++ (codes " TURN " ++ (decimal turn
    ++ (codes " ZONA " ++ (decimal zone
    ++ (codes " SECA " ++ decimal section))))))))

-- the line of an office: its code and how many votes it has
unfoldable pub office_words : ℕ → ℕ → List ℕ
office_words code votes = codes "CARG " ++ (decimal code ++ (codes " " ++ decimal votes))

-- the line of one vote
abbrev pub vote_words : Choice → List ℕ
vote_words (choice.Nominal number) = codes "N " ++ decimal number
vote_words (choice.Party number) = codes "L " ++ decimal number
vote_words choice.Blank = codes "B"
vote_words choice.Null = codes "X"

-- the last line
abbrev pub end_words : List ℕ
end_words = codes "FIM"

-- ---- the lines of a record, each with its line feed

-- the line feed that ends each line
abbrev pub line_end : List ℕ
line_end = 10 ∷ []

-- the line of one vote
abbrev pub vote_line : Choice → List ℕ
vote_line c = vote_words c ++ line_end

-- the lines of an office: its own, and one for each vote
abbrev pub office_lines : ℕ → List Choice → List (List ℕ)
office_lines code votes = (office_words code (length votes) ++ line_end) ∷ map vote_line votes

-- the lines of a record: the lines of its offices, between the first two and the last
unfoldable pub record_lines : List ℕ → List (List ℕ) → List (List ℕ)
record_lines heading offices = (format_words ++ line_end) ∷ (heading ++ line_end) ∷ (offices ++ (end_words ++ line_end) ∷ [])

-- ---- the record of a section

-- a panel's office, and its votes in the order of choices
abbrev pub panel_lines : Panel × List Choice → List (List ℕ)
panel_lines (panel, bag) = office_lines panel.office.code bag

-- the whole text: each panel of the tables with its bag
unfoldable pub record_text : TablesData → Section → List (List Choice) → List ℕ
record_text t s bags =
    concat (record_lines (heading_words t.process t.date t.turn s.zone s.number) (flat_map panel_lines (zip t.panels bags)))

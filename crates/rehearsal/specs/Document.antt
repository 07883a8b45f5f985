-- The rehearsal's document, as its printer sees it: the keys of each table stand in the order of their bytes.
use Rattle.std.specs.Prelude.{ℕ, pos, List, [], ◌∷◌, ◌++◌, map, codes}
use Rattle.toml.specs.Data.{Data, string, integer, array, table, Members, no_members, member}
use Rattle.toml.specs.View.{items_of}
use Rattle.rehearsal.specs.Numbers.{parties, councillors, mayors, name_of_party, name_of_candidate, birth_date, poll_date}

-- a number that isn't negative
abbrev pub number_data : ℕ → Data
number_data n = integer (pos n)

-- a table of `cargo`
abbrev pub office_table : ℕ → List ℕ → ℕ → Data
office_table code rule seats = table
    (member (codes "cadeiras") (number_data seats)
    (member (codes "codigo") (number_data code)
    (member (codes "regra") (string rule) no_members)))

-- a table of `partido`
abbrev pub party_table : ℕ → Data
party_table party = table
    (member (codes "nome") (string (name_of_party party))
    (member (codes "numero") (number_data party) no_members))

-- a table of `candidato`
abbrev pub candidate_table : ℕ → ℕ → Data
candidate_table office candidate = table
    (member (codes "cargo") (number_data office)
    (member (codes "nascimento") (number_data birth_date)
    (member (codes "nome") (string (name_of_candidate candidate))
    (member (codes "numero") (number_data candidate) no_members))))

-- a table of `secao`: the only one
abbrev pub section_table : ℕ → Data
section_table voters = table
    (member (codes "eleitores") (number_data voters)
    (member (codes "secao") (number_data 1)
    (member (codes "zona") (number_data 1) no_members)))

-- the tables of `cargo`: councillor with 9 seats, and mayor
abbrev pub office_tables : List Data
office_tables = office_table 13 (codes "proporcional") 9 ∷ office_table 11 (codes "absoluta") 1 ∷ []

-- the tables of `partido`
abbrev pub party_tables : List Data
party_tables = map party_table parties

-- the tables of `candidato`: first those for councillor, then those for mayor
abbrev pub candidate_tables : List Data
candidate_tables = map (candidate_table 13) councillors ++ map (candidate_table 11) mayors

-- the tables of `secao`
abbrev pub section_tables : ℕ → List Data
section_tables voters = section_table voters ∷ []

-- the document for so many voters
unfoldable pub document : ℕ → Members
document voters =
    member (codes "candidato") (array (items_of candidate_tables))
    (member (codes "cargo") (array (items_of office_tables))
    (member (codes "data") (number_data poll_date)
    (member (codes "partido") (array (items_of party_tables))
    (member (codes "processo") (number_data 1)
    (member (codes "secao") (array (items_of (section_tables voters)))
    (member (codes "turno") (number_data 1) no_members))))))

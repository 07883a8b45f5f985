-- The tables that the rehearsal's document is read as.
use Rattle.std.specs.Prelude.{ℕ, List, [], ◌∷◌, map}
use Rattle.election_tables.specs.declared.office.Kind.TheVariants.{Proportional, Absolute}
use Rattle.election_tables.specs.declared.tables.candidates.NamedCandidate.{NamedCandidate}
use Rattle.election_tables.specs.declared.tables.parties.Party.{Party}
use Rattle.election_tables.specs.declared.tables.panels.Panel.{Panel}
use Rattle.election_tables.specs.declared.tables.sections.Section.{Section}
use Rattle.election_tables.specs.TablesData.{TablesData}
use Rattle.rehearsal.specs.Numbers.{parties, councillors, mayors, name_of_party, name_of_candidate, birth_date, poll_date}

-- a party with its name
abbrev pub generated_party : ℕ → Party
generated_party party = record { number = party; name = name_of_party party }

-- a candidate with day of birth and name
abbrev pub generated_candidate : ℕ → NamedCandidate
generated_candidate candidate = record { number = candidate; birth = birth_date; name = name_of_candidate candidate }

-- panel 1: councillor, 9 seats in proportion, 1,000 candidates
abbrev pub councillor_panel : Panel
councillor_panel = record {
  office = record { code = 13; digits = 5; kind = Proportional; seats = 9 };
  candidates = map generated_candidate councillors;
}

-- panel 2: mayor, by absolute majority, 6 candidates
abbrev pub mayor_panel : Panel
mayor_panel = record {
  office = record { code = 11; digits = 2; kind = Absolute; seats = 1 };
  candidates = map generated_candidate mayors;
}

-- the only section, with so many voters
abbrev pub generated_section : ℕ → Section
generated_section voters = record { zone = 1; number = 1; voters = voters }

-- the tables for so many voters, with the digest of the text that they are read from
abbrev pub generated_tables : ℕ → List ℕ → TablesData
generated_tables voters digest = record {
  process = 1;
  date = poll_date;
  turn = 1;
  panels = councillor_panel ∷ mayor_panel ∷ [];
  parties = map generated_party parties;
  sections = generated_section voters ∷ [];
  federations = [];
  digest = digest;
}

-- The typed lists of the rehearsal's document.
use Rattle.std.proofs.Common.{◌≡◌, ℕ, List, [], ◌∷◌, ◌++◌, map, refl, ap, pos, Some}
use Rattle.std.specs.List.{filter_map}
use Rattle.std.proofs.lemmas.List.{map-append}
use Rattle.std.proofs.lemmas.List.Elements.{filter_map-append}
use Rattle.toml.specs.Data.{Data, Members, table, as_table, no_members}
use Rattle.toml.specs.View.{items_of}
use Rattle.election_tables.specs.declared.document.PartyEntry.{PartyEntry}
use Rattle.election_tables.specs.declared.document.CandidateEntry.{CandidateEntry}
use Rattle.election_tables.specs.declared.office.Kind.TheVariants.{Proportional, Absolute}
use Rattle.election_tables.specs.DocumentData.{DocumentData}
use Rattle.election_tables.specs.Entries.{document_of, candidate_of, party_of}
use Rattle.election_tables.specs.Shape.{data_of, tables_in, is_key}
use Rattle.rehearsal.specs.Document.{document, candidate_tables, candidate_table, party_table, party_tables}
use Rattle.rehearsal.specs.Numbers.{parties, councillors, mayors, name_of_party, name_of_candidate, birth_date, poll_date}

data_of-items : (ds : List Data) → data_of (items_of ds) ≡ ds
data_of-items [] = refl
data_of-items (d ∷ ds) = ap (λ t. d ∷ t) (data_of-items ds)

tables-map : (f : ℕ → Members) (xs : List ℕ) → filter_map as_table (map (λ n. table (f n)) xs) ≡ map f xs
tables-map f [] = refl
tables-map f (x ∷ xs) = ap (λ t. f x ∷ t) (tables-map f xs)

pub map-map : {A B C : Type 0} (g : B → C) (f : A → B) (xs : List A) → map g (map f xs) ≡ map (λ x. g (f x)) xs
map-map g f [] = refl
map-map g f (x ∷ xs) = ap (λ t. g (f x) ∷ t) (map-map g f xs)

-- ---- the tables of the arrays

abbrev inside : Data → Members
inside (table ms) = ms
inside _ = no_members

abbrev candidate_members : ℕ → ℕ → Members
candidate_members office number = inside (candidate_table office number)

abbrev party_members : ℕ → Members
party_members number = inside (party_table number)

candidates_in : tables_in (items_of candidate_tables) ≡ map (candidate_members 13) councillors ++ map (candidate_members 11) mayors
candidates_in =
    rw (
      data_of-items candidate_tables,
      filter_map-append as_table (map (candidate_table 13) councillors) (map (candidate_table 11) mayors),
      tables-map (candidate_members 13) councillors,
      tables-map (candidate_members 11) mayors,
    ) refl

parties_in : tables_in (items_of party_tables) ≡ map party_members parties
parties_in = rw (data_of-items party_tables, tables-map party_members parties) refl

-- ---- their entries

abbrev pub candidate_entry : ℕ → ℕ → CandidateEntry
candidate_entry office number = record { office = pos office; number = pos number; birth = pos birth_date; name = name_of_candidate number }

abbrev pub party_entry : ℕ → PartyEntry
party_entry number = record { number = pos number; name = name_of_party number }

abbrev pub candidate_entries : List CandidateEntry
candidate_entries = map (candidate_entry 13) councillors ++ map (candidate_entry 11) mayors

abbrev pub entries : ℕ → DocumentData
entries voters = record {
  process = pos 1;
  date = pos poll_date;
  turn = pos 1;
  offices = record { code = pos 13; kind = Some Proportional; seats = pos 9 } ∷ record { code = pos 11; kind = Some Absolute; seats = pos 1 } ∷ [];
  parties = map party_entry parties;
  candidates = candidate_entries;
  sections = record { zone = pos 1; number = pos 1; voters = pos voters } ∷ [];
  federations = [];
}

candidates_read : map candidate_of (tables_in (items_of candidate_tables)) ≡ candidate_entries
candidates_read =
    rw (candidates_in, map-append, map-map candidate_of (candidate_members 13) councillors, map-map candidate_of (candidate_members 11) mayors) refl

parties_read : map party_of (tables_in (items_of party_tables)) ≡ map party_entry parties
parties_read = rw (parties_in, map-map party_of party_members parties) refl

pub document_of-document : (voters : ℕ) → document_of (document voters) ≡ entries voters
unfolding document is_key
document_of-document voters = rw (candidates_read, parties_read) refl

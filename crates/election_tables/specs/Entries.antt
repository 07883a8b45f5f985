-- The typed lists of a document. Where a key is absent or of another type the word still has a value, which no rule reads:
-- the rules from 4 on are asked only where rules 1 to 3 hold.
use Rattle.std.specs.Prelude.{codes, ℕ, ℤ, pos, List, [], Option, Some, None, map, if◌then◌else◌, unwrap_or, option_and_then}
use Rattle.std.specs.List.{filter_map}
use Rattle.std.specs.Option.{option_map_or}
use Rattle.toml.specs.Data.{as_str, as_integer, as_array, Members, get_member}
use Rattle.election_tables.specs.declared.office.Kind.{Kind}
use Rattle.election_tables.specs.declared.office.Kind.TheVariants as kind
use Rattle.election_tables.specs.declared.document.OfficeEntry.{OfficeEntry}
use Rattle.election_tables.specs.declared.document.PartyEntry.{PartyEntry}
use Rattle.election_tables.specs.declared.document.CandidateEntry.{CandidateEntry}
use Rattle.election_tables.specs.declared.document.SectionEntry.{SectionEntry}
use Rattle.election_tables.specs.declared.document.FederationEntry.{FederationEntry}
use Rattle.election_tables.specs.DocumentData.{DocumentData}
use Rattle.election_tables.specs.Shape.{data_of, tables_at, is_key}

-- the number at a key
abbrev pub number_at : List ℕ → Members → ℤ
number_at key ms = unwrap_or (option_and_then as_integer (get_member key ms)) (pos 0)

-- the text at a key
abbrev pub text_at : List ℕ → Members → List ℕ
text_at key ms = unwrap_or (option_and_then as_str (get_member key ms)) []

-- the numbers in the array at a key
abbrev pub numbers_at : List ℕ → Members → List ℤ
numbers_at key ms = option_map_or (λ ds. filter_map as_integer (data_of ds)) (option_and_then as_array (get_member key ms)) []

-- the kind that a `regra` names
abbrev pub kind_named : List ℕ → Option Kind
kind_named text =
    if is_key text (codes "proporcional") then Some kind.Proportional
    else (if is_key text (codes "absoluta") then Some kind.Absolute
    else (if is_key text (codes "simples") then Some kind.Simple else None))

-- the entry of `cargo` that a table is
abbrev pub office_of : Members → OfficeEntry
office_of ms = record { code = number_at (codes "codigo") ms; kind = kind_named (text_at (codes "regra") ms); seats = number_at (codes "cadeiras") ms }

-- the entry of `partido` that a table is
abbrev pub party_of : Members → PartyEntry
party_of ms = record { number = number_at (codes "numero") ms; name = text_at (codes "nome") ms }

-- the entry of `candidato` that a table is
abbrev pub candidate_of : Members → CandidateEntry
candidate_of ms = record {
  office = number_at (codes "cargo") ms;
  number = number_at (codes "numero") ms;
  birth = number_at (codes "nascimento") ms;
  name = text_at (codes "nome") ms;
}

-- the entry of `secao` that a table is
abbrev pub section_of : Members → SectionEntry
section_of ms = record { zone = number_at (codes "zona") ms; number = number_at (codes "secao") ms; voters = number_at (codes "eleitores") ms }

-- the entry of `federacao` that a table is
abbrev pub federation_of : Members → FederationEntry
federation_of ms = record { name = text_at (codes "nome") ms; parties = numbers_at (codes "partidos") ms }

-- the typed lists of a document
abbrev pub document_of : Members → DocumentData
document_of ms = record {
  process = number_at (codes "processo") ms;
  date = number_at (codes "data") ms;
  turn = number_at (codes "turno") ms;
  offices = map office_of (tables_at (codes "cargo") ms);
  parties = map party_of (tables_at (codes "partido") ms);
  candidates = map candidate_of (tables_at (codes "candidato") ms);
  sections = map section_of (tables_at (codes "secao") ms);
  federations = map federation_of (tables_at (codes "federacao") ms);
}

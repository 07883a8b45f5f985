-- What is read from the bytes of a document: its tables, or the first rule that it breaks.
use Rattle.std.specs.Prelude.{◌≡◌, ℕ, pos, List, map, Some, None, IsUtf8, IsPermutation}
use Rattle.std.specs.List.{All, filter}
use Rattle.std.specs.Ordering.{int_eq}
use Rattle.toml.specs.Data.{Members}
use Rattle.toml.specs.Parse.{parse_document}
use Rattle.sha2.specs.Sha256.{sha256}
use Rattle.election_tables.specs.declared.document.OfficeEntry.{OfficeEntry}
use Rattle.election_tables.specs.declared.document.PartyEntry.{PartyEntry}
use Rattle.election_tables.specs.declared.document.CandidateEntry.{CandidateEntry}
use Rattle.election_tables.specs.declared.document.SectionEntry.{SectionEntry}
use Rattle.election_tables.specs.declared.document.FederationEntry.{FederationEntry}
use Rattle.election_tables.specs.declared.office.Office.{Office}
use Rattle.election_tables.specs.declared.tables.candidates.NamedCandidate.{NamedCandidate}
use Rattle.election_tables.specs.declared.tables.parties.Party.{Party}
use Rattle.election_tables.specs.declared.tables.sections.Section.{Section}
use Rattle.election_tables.specs.declared.tables.panels.Panel.{Panel}
use Rattle.election_tables.specs.declared.tables.federations.Federation.{Federation}
use Rattle.election_tables.specs.DocumentData.{DocumentData}
use Rattle.election_tables.specs.Entries.{document_of}
use Rattle.election_tables.specs.Offices.{code_digits}
use Rattle.election_tables.specs.Rules.{broken_rule}
use Rattle.election_tables.specs.TablesData.{TablesData, CandidatesRise, PartiesRise, SectionsRise}

-- ---- the entries of the document that the tables' parts stand for

-- the entry of an office
abbrev pub entry_of_office : Office → OfficeEntry
entry_of_office o = record { code = pos o.code; kind = Some o.kind; seats = pos o.seats }

-- the entry of a party
abbrev pub entry_of_party : Party → PartyEntry
entry_of_party q = record { number = pos q.number; name = q.name }

-- the entry of a candidate of the office with this code
abbrev pub entry_of_candidate : ℕ → NamedCandidate → CandidateEntry
entry_of_candidate code c = record { office = pos code; number = pos c.number; birth = pos c.birth; name = c.name }

-- the entry of a section
abbrev pub entry_of_section : Section → SectionEntry
entry_of_section s = record { zone = pos s.zone; number = pos s.number; voters = pos s.voters }

-- the entry of a federation
abbrev pub entry_of_federation : Federation → FederationEntry
entry_of_federation f = record { name = f.name; parties = map pos f.parties }

-- the document's candidates of an office
abbrev pub candidates_of : ℕ → List CandidateEntry → List CandidateEntry
candidates_of code entries = filter (λ c. int_eq c.office (pos code)) entries

-- ---- the tables of a document

-- the panel has the office's digits, and the document's candidates of its office, rising
pub record IsPanelOf (entries : List CandidateEntry) (p : Panel) : Type 0 where
  pub digits : code_digits p.office.code ≡ Some p.office.digits
  pub candidates : IsPermutation (candidates_of p.office.code entries) (map (entry_of_candidate p.office.code) p.candidates)
  pub rise : CandidatesRise p.candidates

-- the tables are those of the document: its numbers, its offices and its federations in their order, and its other lists rising
pub record AreTablesOf (d : DocumentData) (t : TablesData) : Type 0 where
  pub process : pos t.process ≡ d.process
  pub date : pos t.date ≡ d.date
  pub turn : pos t.turn ≡ d.turn
  pub offices : map (λ p. entry_of_office p.office) t.panels ≡ d.offices
  pub panels : All (IsPanelOf d.candidates) t.panels
  pub parties : IsPermutation d.parties (map entry_of_party t.parties)
  pub parties_rise : PartiesRise t.parties
  pub sections : IsPermutation d.sections (map entry_of_section t.sections)
  pub sections_rise : SectionsRise t.sections
  pub federations : map entry_of_federation t.federations ≡ d.federations

-- ---- what an answer says of the bytes

-- the bytes are a TOML document with these members
abbrev pub IsDocument : List ℕ → Members → Type 0
IsDocument bytes ms = IsUtf8 bytes × (parse_document bytes ≡ Some ms)

-- the bytes are no TOML document
abbrev pub IsNoDocument : List ℕ → Type 0
IsNoDocument bytes = IsUtf8 bytes → parse_document bytes ≡ None

-- the bytes are a document whose first broken rule is this
pub record BreaksFirst (bytes : List ℕ) (rule : ℕ) : Type 0 where
  pub members : Members
  pub parsed : IsDocument bytes members
  pub broken : broken_rule members ≡ Some rule

-- the bytes are a document that keeps all rules
pub record KeepsRules (bytes : List ℕ) : Type 0 where
  pub members : Members
  pub parsed : IsDocument bytes members
  pub kept : broken_rule members ≡ None

-- the bytes are a document that keeps all rules, and these are its tables, with the SHA-256 of the bytes
pub record IsReadAs (bytes : List ℕ) (t : TablesData) : Type 0 where
  pub members : Members
  pub parsed : IsDocument bytes members
  pub kept : broken_rule members ≡ None
  pub tables : AreTablesOf (document_of members) t
  pub digest : t.digest ≡ sha256 bytes

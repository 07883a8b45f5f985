-- The document's typed lists, as contracts see a `Document`.
use Rattle.std.specs.Prelude.{ℤ, List}
use Rattle.election_tables.specs.declared.document.OfficeEntry.{OfficeEntry}
use Rattle.election_tables.specs.declared.document.PartyEntry.{PartyEntry}
use Rattle.election_tables.specs.declared.document.CandidateEntry.{CandidateEntry}
use Rattle.election_tables.specs.declared.document.SectionEntry.{SectionEntry}
use Rattle.election_tables.specs.declared.document.FederationEntry.{FederationEntry}

-- the numbers and lists of a document, in its order: the offices in panel order
pub record DocumentData : Type 0 where
  pub process : ℤ
  pub date : ℤ
  pub turn : ℤ
  pub offices : List OfficeEntry
  pub parties : List PartyEntry
  pub candidates : List CandidateEntry
  pub sections : List SectionEntry
  pub federations : List FederationEntry

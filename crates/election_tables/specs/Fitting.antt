-- That the numbers of a document's entries fit the types of the tables. Entries of a document that keeps the rules do.
use Rattle.std.specs.Prelude.{is_some, Bool, ◌&&◌}
use Rattle.std.specs.List.{list_all}
use Rattle.election_tables.specs.declared.document.OfficeEntry.{OfficeEntry}
use Rattle.election_tables.specs.declared.document.PartyEntry.{PartyEntry}
use Rattle.election_tables.specs.declared.document.CandidateEntry.{CandidateEntry}
use Rattle.election_tables.specs.declared.document.FederationEntry.{FederationEntry}
use Rattle.election_tables.specs.Limits.{proportional_seats}
use Rattle.election_tables.specs.Fields.{is_within}
use Rattle.election_tables.specs.Offices.{greatest_code}
use Rattle.election_tables.specs.Rules.{digits_by_code}

abbrev pub office_fits : OfficeEntry → Bool
office_fits o = (is_within 1 greatest_code o.code && is_some (digits_by_code o.code)) && (is_some o.kind && is_within 1 proportional_seats o.seats)

abbrev pub party_fits : PartyEntry → Bool
party_fits p = is_within 10 99 p.number

abbrev pub candidate_fits : CandidateEntry → Bool
candidate_fits c = is_within 0 99999 c.number && is_within 0 99999999 c.birth

abbrev pub federation_fits : FederationEntry → Bool
federation_fits f = list_all (is_within 10 99) f.parties

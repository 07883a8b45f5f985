-- What contracts see of the tables, and what is so of all tables that were read.
use Rattle.std.specs.Prelude.{◌≡◌, ◌≢◌, ℕ, ◌≤◌, List, [], ◌∷◌, fold, length, min, map, replicate, slice_get, slice_index, Option, Some, option_map, Bool, IsTrue, ◌==◌, ◌&&◌}
use Rattle.std.specs.List.{All, AllPairs, find, flat_map, list_any, position, range_with_len, sum_by}
use Rattle.std.specs.List.Sorted.{IsStrictlyIncreasing, IsStrictlySortedBy}
use Rattle.std.specs.Option.{option_map_or}
use Rattle.std.specs.Ordering.{nat_cmp, ordering_then}
use Rattle.std.specs.declared.cmp.Ordering.{Ordering}
use Rattle.urna_base.specs.Moment.{is_date}
use Rattle.election_tables.specs.declared.office.Office.{Office}
use Rattle.election_tables.specs.declared.tables.candidates.Candidate.{Candidate}
use Rattle.election_tables.specs.declared.tables.candidates.NamedCandidate.{NamedCandidate}
use Rattle.election_tables.specs.declared.tables.parties.Party.{Party}
use Rattle.election_tables.specs.declared.tables.sections.Section.{Section}
use Rattle.election_tables.specs.declared.tables.panels.Panel.{Panel}
use Rattle.election_tables.specs.declared.tables.federations.Federation.{Federation}
use Rattle.election_tables.specs.Limits.{most_offices, most_parties, most_candidates, most_sections, most_voters, most_federations, fewest_members, most_members, greatest_section, greatest_process}
use Rattle.election_tables.specs.Offices.{code_digits, allows, most_seats, places_by}
use Rattle.election_tables.specs.Fields.{is_name, has_digits, first_two}

-- the tables of an election: the panels in the order of the ballot, the federations in that of the document, the other lists rising
pub record TablesData : Type 0 where
  pub process : ℕ
  pub date : ℕ
  pub turn : ℕ
  pub panels : List Panel
  pub parties : List Party
  pub sections : List Section
  pub federations : List Federation
  pub digest : List ℕ

-- ---- look-ups

-- the candidates of a panel; none where there is no such panel
abbrev pub candidates_at : ℕ → TablesData → List NamedCandidate
candidates_at panel t = option_map_or (λ p. p.candidates) (slice_get t.panels panel) []

-- how many votes each voter has in a panel
abbrev pub places_in : Panel → ℕ
places_in p = places_by p.office.code p.office.seats

-- the same of each panel of the tables
abbrev pub places_of : TablesData → List ℕ
places_of t = map places_in t.panels

-- and of the panel of a number, 0 where there is no such panel
abbrev pub places_at : TablesData → ℕ → ℕ
places_at t panel = slice_index (places_of t) panel

-- the panel of each line of the ballot: for each panel one line for each vote that a voter has in it, panels in order
unfoldable pub line_panels : TablesData → List ℕ
line_panels t = flat_map (λ panel. replicate (places_at t panel) panel) (range_with_len 0 (length t.panels))

-- what `candidate` tells of a candidate
abbrev pub without_name : NamedCandidate → Candidate
without_name c = record { number = c.number; birth = c.birth }

-- the name of the candidate of a number
abbrev pub candidate_name : ℕ → List NamedCandidate → Option (List ℕ)
candidate_name number candidates = option_map (λ c. c.name) (find (λ c. c.number == number) candidates)

-- the name of the party of a number
abbrev pub party_name : ℕ → List Party → Option (List ℕ)
party_name number parties = option_map (λ q. q.name) (find (λ q. q.number == number) parties)

-- the section of a zone and number
abbrev pub section_with : ℕ → ℕ → List Section → Option Section
section_with zone number sections = find (λ s. (s.zone == zone) && (s.number == number)) sections

-- the place where it stands
abbrev pub place_with : ℕ → ℕ → List Section → Option ℕ
place_with zone number sections = position (λ s. (s.zone == zone) && (s.number == number)) sections

-- ---- blocs: a federation, or a party that is in none, counts as one party (Lei 9.096/1995, art. 11-A)

-- the lowest of some numbers; 0 of none
abbrev pub lowest : List ℕ → ℕ
lowest [] = 0
lowest (n ∷ ns) = fold min n ns

-- the party is one of the federation
abbrev pub has_member : ℕ → Federation → Bool
has_member party f = list_any (λ n. n == party) f.parties

-- the number of the bloc of a party: the lowest of its federation, or its own where it is in none
abbrev pub bloc_of : List Federation → ℕ → ℕ
bloc_of federations party = option_map_or (λ f. lowest f.parties) (find (has_member party) federations) party

-- that of a party of the tables
abbrev pub bloc_in : TablesData → ℕ → Option ℕ
bloc_in t party = option_map (λ q. bloc_of t.federations q.number) (find (λ q. q.number == party) t.parties)

-- the number is that of a federation
abbrev pub is_federation : List Federation → ℕ → Bool
is_federation federations bloc = list_any (λ f. lowest f.parties == bloc) federations

-- the parties of all federations together
abbrev pub members_of : List Federation → List ℕ
members_of federations = flat_map (λ f. f.parties) federations

-- ---- order

-- pairs of numbers by the first, then by the second
abbrev pub pair_cmp : ℕ × ℕ → ℕ × ℕ → Ordering
pair_cmp a b = ordering_then (nat_cmp a.0 b.0) (nat_cmp a.1 b.1)

-- candidates rise by number; no number stands twice
abbrev pub CandidatesRise : List NamedCandidate → Type 0
CandidatesRise candidates = IsStrictlyIncreasing (map (λ c. c.number) candidates)

-- so do parties
abbrev pub PartiesRise : List Party → Type 0
PartiesRise parties = IsStrictlyIncreasing (map (λ q. q.number) parties)

-- sections rise by zone, then by number; none stands twice
abbrev pub SectionsRise : List Section → Type 0
SectionsRise sections = IsStrictlySortedBy pair_cmp (map (λ s. (s.zone, s.number)) sections)

-- ---- what is so of all tables

-- the digits and the kind are those of the code, and there are no more seats than it may have
pub record IsOffice (o : Office) : Type 0 where
  pub digits : code_digits o.code ≡ Some o.digits
  pub kind : IsTrue (allows o.code o.kind)
  pub seats : (1 ≤ o.seats) × (o.seats ≤ most_seats o.code)

-- a candidate of an office whose numbers have so many digits
pub record IsCandidate (digits : ℕ) (parties : List Party) (c : NamedCandidate) : Type 0 where
  pub number : IsTrue (has_digits digits c.number)
  pub party : IsTrue (list_any (λ q. q.number == first_two digits c.number) parties)
  pub birth : IsTrue (is_date c.birth)
  pub name : IsTrue (is_name c.name)

-- an office and its candidates, rising, each of one of the parties
pub record IsPanel (parties : List Party) (p : Panel) : Type 0 where
  pub office : IsOffice p.office
  pub candidates : All (IsCandidate p.office.digits parties) p.candidates
  pub rise : CandidatesRise p.candidates
  pub count : length p.candidates ≤ most_candidates

-- a party has a number of two digits and a name
pub record IsParty (q : Party) : Type 0 where
  pub number : (10 ≤ q.number) × (q.number ≤ 99)
  pub name : IsTrue (is_name q.name)

-- a section has a place and 1 to `most_voters` voters
pub record IsSection (s : Section) : Type 0 where
  pub zone : (1 ≤ s.zone) × (s.zone ≤ greatest_section)
  pub number : (1 ≤ s.number) × (s.number ≤ greatest_section)
  pub voters : (1 ≤ s.voters) × (s.voters ≤ most_voters)

-- a federation has a name, and parties of the tables
pub record IsFederation (parties : List Party) (f : Federation) : Type 0 where
  pub name : IsTrue (is_name f.name)
  pub count : (fewest_members ≤ length f.parties) × (length f.parties ≤ most_members)
  pub members : All (λ n. IsTrue (list_any (λ q. q.number == n) parties)) f.parties

-- What is so of all tables, by the rules of their document: the ranges, the orders, the parties of candidates, and those of federations,
-- none of which is in two. All panels together have at most `most_candidates` candidates.
pub record IsTables (t : TablesData) : Type 0 where
  pub process : (1 ≤ t.process) × (t.process ≤ greatest_process)
  pub date : IsTrue (is_date t.date)
  pub turn : (1 ≤ t.turn) × (t.turn ≤ 2)
  pub panel_count : (1 ≤ length t.panels) × (length t.panels ≤ most_offices)
  pub panels : All (IsPanel t.parties) t.panels
  pub candidate_count : sum_by (λ p. length p.candidates) t.panels ≤ most_candidates
  pub codes : AllPairs (λ p q. p.office.code ≢ q.office.code) t.panels
  pub party_count : (1 ≤ length t.parties) × (length t.parties ≤ most_parties)
  pub parties : All IsParty t.parties
  pub parties_rise : PartiesRise t.parties
  pub section_count : (1 ≤ length t.sections) × (length t.sections ≤ most_sections)
  pub sections : All IsSection t.sections
  pub sections_rise : SectionsRise t.sections
  pub federation_count : length t.federations ≤ most_federations
  pub federations : All (IsFederation t.parties) t.federations
  pub members : AllPairs (λ a b. a ≢ b) (members_of t.federations)
  pub digest : length t.digest ≡ 32

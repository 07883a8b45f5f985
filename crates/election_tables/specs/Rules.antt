-- The rules from 4 on, over the typed lists of a document, and the number of the first rule that doesn't hold.
use Rattle.std.specs.Prelude.{ℕ, ◌+◌, ℤ, pos, List, [], ◌∷◌, ◌++◌, length, map, Option, Some, None, is_some, option_and_then, Bool, true, false, not, ◌&&◌, nat_le}
use Rattle.std.specs.List.{flat_map, list_all, list_any}
use Rattle.std.specs.Ordering.{int_eq}
use Rattle.std.specs.Option.{option_map_or}
use Rattle.toml.specs.Data.{Members}
use Rattle.election_tables.specs.declared.office.Kind.{Kind}
use Rattle.election_tables.specs.declared.document.OfficeEntry.{OfficeEntry}
use Rattle.election_tables.specs.declared.document.PartyEntry.{PartyEntry}
use Rattle.election_tables.specs.declared.document.CandidateEntry.{CandidateEntry}
use Rattle.election_tables.specs.declared.document.SectionEntry.{SectionEntry}
use Rattle.election_tables.specs.declared.document.FederationEntry.{FederationEntry}
use Rattle.election_tables.specs.declared.shape.ShapeRule.TheVariants as shape
use Rattle.election_tables.specs.Limits.{most_offices, most_parties, most_candidates, most_sections, most_voters, most_federations, fewest_members, most_members, greatest_section, greatest_process}
use Rattle.election_tables.specs.Fields.{natural, is_within, is_valid_date, is_name, has_digits, first_two}
use Rattle.election_tables.specs.Offices.{code_digits, allows, most_seats}
use Rattle.election_tables.specs.DocumentData.{DocumentData}
use Rattle.election_tables.specs.Shape.{document_keeps}
use Rattle.election_tables.specs.Entries.{document_of}

-- ---- words of the rules

-- no element equals one after it
abbrev pub are_distinct : {K : Type 0} → (K → K → Bool) → List K → Bool
are_distinct same [] = true
are_distinct same (x ∷ xs) = not (list_any (same x) xs) && are_distinct same xs

-- both numbers are the same
abbrev pub same_pair : ℤ × ℤ → ℤ × ℤ → Bool
same_pair a b = int_eq a.0 b.0 && int_eq a.1 b.1

-- the digits of an office, if its code is one
abbrev pub digits_by_code : ℤ → Option ℕ
digits_by_code z = option_and_then code_digits (natural z)

-- the code allows the kind, where `regra` names one
abbrev pub kind_fits : ℤ → Option Kind → Bool
kind_fits code None = false
kind_fits code (Some kind) = option_map_or (λ c. allows c kind) (natural code) false

-- the office of the candidate is one of the tables, and the number has its digits
abbrev pub has_office : List OfficeEntry → CandidateEntry → Bool
has_office offices c = list_any (λ o. int_eq o.code c.office) offices
    && option_map_or (λ digits. option_map_or (has_digits digits) (natural c.number) false) (digits_by_code c.office) false

-- the first two digits of the candidate's number are a party of the tables
abbrev pub has_party : List PartyEntry → CandidateEntry → Bool
has_party parties c = option_map_or (λ digits. option_map_or
    (λ n. list_any (λ p. int_eq p.number (pos (first_two digits n))) parties) (natural c.number) false) (digits_by_code c.office) false

-- ---- the rules

-- a section has a zone and a number from 1 to `greatest_section`, and 1 to `most_voters` voters
abbrev pub section_in_range : SectionEntry → Bool
section_in_range s = is_within 1 greatest_section s.zone && (is_within 1 greatest_section s.number && is_within 1 most_voters s.voters)

-- 1 to `most_offices` offices, 1 to `most_parties` parties, at most `most_candidates` candidates, 1 to `most_sections` sections, at most
-- `most_federations` federations
abbrev pub counts_in_range : DocumentData → Bool
counts_in_range d =
    (nat_le 1 (length d.offices) && nat_le (length d.offices) most_offices)
    && ((nat_le 1 (length d.parties) && nat_le (length d.parties) most_parties)
    && (nat_le (length d.candidates) most_candidates && ((nat_le 1 (length d.sections) && nat_le (length d.sections) most_sections)
    && nat_le (length d.federations) most_federations)))

-- the election has a number from 1 to `greatest_process`, a valid date, and is the first or the second turn
abbrev pub head_in_range : DocumentData → Bool
head_in_range d = is_within 1 greatest_process d.process && (is_valid_date d.date && is_within 1 2 d.turn)

-- each party, each candidate and each federation has a name
abbrev pub names_in_range : DocumentData → Bool
names_in_range d = list_all (λ p. is_name p.name) d.parties && (list_all (λ c. is_name c.name) d.candidates && list_all (λ f. is_name f.name) d.federations)

-- 4. counts and ranges
abbrev pub rule_4 : DocumentData → Bool
rule_4 d = (counts_in_range d && head_in_range d) && (list_all section_in_range d.sections && names_in_range d)

-- 5. each code is an office's, and no code stands twice
abbrev pub rule_5 : DocumentData → Bool
rule_5 d = list_all (λ o. is_some (digits_by_code o.code)) d.offices && are_distinct int_eq (map (λ o. o.code) d.offices)

-- 6. each `regra` is allowed for its code
abbrev pub rule_6 : DocumentData → Bool
rule_6 d = list_all (λ o. kind_fits o.code o.kind) d.offices

-- 7. each party number is 10 to 99
abbrev pub rule_7 : DocumentData → Bool
rule_7 d = list_all (λ p. is_within 10 99 p.number) d.parties

-- 8. no party number stands twice
abbrev pub rule_8 : DocumentData → Bool
rule_8 d = are_distinct int_eq (map (λ p. p.number) d.parties)

-- 9. each candidate has an office of the document, and a number with exactly its digits, the first not zero
abbrev pub rule_9 : DocumentData → Bool
rule_9 d = list_all (has_office d.offices) d.candidates

-- 10. the first two digits of each candidate's number are a party of the document
abbrev pub rule_10 : DocumentData → Bool
rule_10 d = list_all (has_party d.parties) d.candidates

-- 11. no two candidates have the same office and number
abbrev pub rule_11 : DocumentData → Bool
rule_11 d = are_distinct same_pair (map (λ c. (c.office, c.number)) d.candidates)

-- 12. each birth date is valid
abbrev pub rule_12 : DocumentData → Bool
rule_12 d = list_all (λ c. is_valid_date c.birth) d.candidates

-- 13. no two sections have the same zone and number
abbrev pub rule_13 : DocumentData → Bool
rule_13 d = are_distinct same_pair (map (λ s. (s.zone, s.number)) d.sections)

-- an office has at least one seat, and at most as many as its code may have
abbrev pub seats_in_range : OfficeEntry → Bool
seats_in_range o = option_map_or (λ code. is_within 1 (most_seats code) o.seats) (natural o.code) false

-- 14. 1 seat for a majority office, 1 or 2 for that of senator, 1 to `proportional_seats` for a proportional one
abbrev pub rule_14 : DocumentData → Bool
rule_14 d = list_all seats_in_range d.offices

-- the numbers of all federations together
abbrev pub all_members : List FederationEntry → List ℤ
all_members federations = flat_map (λ f. f.parties) federations

-- a federation has `fewest_members` to `most_members` parties
abbrev pub members_in_range : FederationEntry → Bool
members_in_range f = nat_le fewest_members (length f.parties) && nat_le (length f.parties) most_members

-- 15. each federation has 2 to 40 parties
abbrev pub rule_15 : DocumentData → Bool
rule_15 d = list_all members_in_range d.federations

-- 16. each of their numbers is a party of the document
abbrev pub rule_16 : DocumentData → Bool
rule_16 d = list_all (λ n. list_any (λ p. int_eq p.number n) d.parties) (all_members d.federations)

-- 17. no number stands twice in all federations together
abbrev pub rule_17 : DocumentData → Bool
rule_17 d = are_distinct int_eq (all_members d.federations)

-- ---- the first broken rule

-- whether each of the rules from 4 on holds, in order
unfoldable pub typed_rules : DocumentData → List Bool
typed_rules d =
    rule_4 d ∷ rule_5 d ∷ rule_6 d ∷ rule_7 d ∷ rule_8 d ∷ rule_9 d ∷ rule_10 d ∷ rule_11 d ∷ rule_12 d ∷ rule_13 d ∷ rule_14 d
    ∷ rule_15 d ∷ rule_16 d ∷ rule_17 d ∷ []

-- whether each of rules 1 to 3 holds: the keys are there, have their types, and there are no others
unfoldable pub shape_rules : Members → List Bool
shape_rules ms = document_keeps shape.Keys ms ∷ document_keeps shape.Types ms ∷ document_keeps shape.NoOther ms ∷ []

-- all rules, each over the whole document
unfoldable pub rules : Members → List Bool
rules ms = shape_rules ms ++ typed_rules (document_of ms)

-- the number of the first rule that doesn't hold, where the first of the list has this number
abbrev pub first_broken : ℕ → List Bool → Option ℕ
first_broken n [] = None
first_broken n (true ∷ rs) = first_broken (n + 1) rs
first_broken n (false ∷ rs) = Some n

-- the number of the first rule of a document that doesn't hold
unfoldable pub broken_rule : Members → Option ℕ
broken_rule ms = first_broken 1 (rules ms)

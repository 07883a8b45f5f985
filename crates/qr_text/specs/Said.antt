-- What a field text says: the numbers of a report, and beside them the sums as the text gives them, right or wrong. The fields that
-- say it, what is tested at each, and what may be said at all.
use Rattle.std.specs.Prelude.{◌≡◌, ℕ, ◌+◌, ◌*◌, ◌<◌, Bool, true, false, nat_le, ◌==◌, if◌then◌else◌, List, [], ◌∷◌, ◌++◌, length, map}
use Rattle.std.specs.List.{AllByRecursion, sum_by, flat_map, zip}
use Rattle.election_tables.specs.Fields.{first_two}
use Rattle.election_tables.specs.Offices.{code_proportional, may_have_places}
use Rattle.poll_report.specs.Report.{EachAfter, MayVote, digits_in, is_above, may_have_code, votes_of}
use Rattle.poll_report.specs.declared.report.Count.{Count}
use Rattle.qr_text.specs.Table.{row_text, fits, head_rows, vote_row}
use Rattle.qr_text.specs.declared.said.Said.{Said}
use Rattle.qr_text.specs.declared.said.SaidOffice.{SaidOffice}
use Rattle.qr_text.specs.declared.said.SaidParty.{SaidParty}
use Rattle.qr_text.specs.declared.table.Row.{Row}
use Rattle.qr_text.specs.declared.table.Tested.TheVariants.{Nothing, Order, Voters, Party, Able, Nominal, Legend, Total}
use Rattle.qr_text.specs.declared.table.Tested.{Tested}
use Rattle.qr_text.specs.declared.table.TheConstants.{TABLE}

-- ---- what is tested at a field

-- something must hold, or a sum must be what is said
pub data Test : Type 0 where
  Holds : Bool → Test
  Equals : ℕ → ℕ → Test

-- a moment YYYYMMDDHHMMSS of its date and its time of the day
abbrev pub moment : ℕ → ℕ → ℕ
moment date time = date * 1000000 + time

-- the votes of all candidates of an office
abbrev pub all_nominal : SaidOffice → ℕ
all_nominal o = votes_of o.candidates + sum_by (λ p. votes_of p.candidates) o.parties

-- all party votes of an office
abbrev pub all_legend : SaidOffice → ℕ
all_legend o = sum_by (λ p. p.legend) o.parties

-- before the offices
abbrev pub head_tests : Tested → Said → List Test
head_tests Order s = Holds (nat_le (moment s.open_date s.open_time) (moment s.close_date s.close_time)) ∷ []
head_tests Voters s = Equals (s.came + s.missed) s.able ∷ []
head_tests Nothing s = []
head_tests Party s = []
head_tests Able s = []
head_tests Nominal s = []
head_tests Legend s = []
head_tests Total s = []

-- in a party
abbrev pub party_tests : Tested → SaidParty → List Test
party_tests Party p = Equals (votes_of p.candidates + p.legend) p.total ∷ []
party_tests Nothing p = []
party_tests Order p = []
party_tests Voters p = []
party_tests Able p = []
party_tests Nominal p = []
party_tests Legend p = []
party_tests Total p = []

-- in an office; two sums at its total, in this order
abbrev pub office_tests : Tested → Said → SaidOffice → List Test
office_tests Able s o = Equals s.able o.able ∷ []
office_tests Nominal s o = Equals (all_nominal o) o.nominal ∷ []
office_tests Legend s o = Equals (all_legend o) o.legend ∷ []
office_tests Total s o = Equals (o.nominal + o.legend + o.blank + o.null_votes) o.total ∷ Equals (s.came * o.places) o.total ∷ []
office_tests Nothing s o = []
office_tests Order s o = []
office_tests Voters s o = []
office_tests Party s o = []

-- ---- the fields

-- a field, and what is tested at it
pub record ReportField : Type 0 where
  pub text : List ℕ
  pub tests : List Test

-- the texts of fields, in order
abbrev pub texts : List ReportField → List (List ℕ)
texts fs = map (λ f. f.text) fs

-- the numbers before the offices, one for each of `head_rows`
abbrev pub head_values : Said → List ℕ
head_values s =
    0 ∷ s.process ∷ s.date ∷ s.turn ∷ s.zone ∷ s.section
    ∷ s.able ∷ s.came ∷ s.missed
    ∷ s.open_date ∷ s.open_time ∷ s.close_date ∷ s.close_time ∷ []

-- a field before the offices, by its row of the table and its number
abbrev pub head_field : Said → Row × ℕ → ReportField
head_field s x = record { text = row_text x.0 x.1; tests = head_tests x.0.tested s }

-- the field of a candidate's votes
abbrev pub vote_field : Count → ReportField
vote_field c = record { text = row_text (vote_row c.number) c.votes; tests = [] }

-- a field of a party, by its row of the table and its number
abbrev pub party_field : SaidParty → Row → ℕ → ReportField
party_field p r v = record { text = row_text r v; tests = party_tests r.tested p }

-- a party, its candidates, its party votes and its total
abbrev pub party_fields : SaidParty → List ReportField
party_fields p =
    party_field p TABLE.party p.number
    ∷ map vote_field p.candidates
    ++ party_field p TABLE.party_legend p.legend
    ∷ party_field p TABLE.party_total p.total
    ∷ []

-- a field of an office, by its row of the table and its number
abbrev pub office_field : Said → SaidOffice → Row → ℕ → ReportField
office_field s o r v = record { text = row_text r v; tests = office_tests r.tested s o }

-- TIPO of an office
abbrev pub kind_number : Bool → ℕ
kind_number proportional = if proportional then 1 else 0

-- how many votes each voter has in an office, where it isn't one
abbrev pub places_fields : ℕ → List ReportField
places_fields places = if places == 1 then [] else record { text = row_text TABLE.places places; tests = [] } ∷ []

-- the votes of an office: by party where it is proportional, else by candidate, behind its places
abbrev pub votes_fields : Bool → SaidOffice → List ReportField
votes_fields proportional o = if proportional then flat_map party_fields o.parties else places_fields o.places ++ map vote_field o.candidates

-- the blank, the null and all votes of an office
abbrev pub last_fields : Said → SaidOffice → List ReportField
last_fields s o =
    office_field s o TABLE.blank o.blank ∷ office_field s o TABLE.null_votes o.null_votes ∷ office_field s o TABLE.total o.total ∷ []

-- the sums of an office, the party votes only where it is proportional
abbrev pub sum_fields : Said → Bool → SaidOffice → List ReportField
sum_fields s proportional o =
    office_field s o TABLE.office_able o.able
    ∷ office_field s o TABLE.nominal o.nominal
    ∷ ((if proportional then office_field s o TABLE.legend o.legend ∷ [] else []) ++ last_fields s o)

-- an office: its code, TIPO, LUGA where it has two places, its votes and its sums
abbrev pub office_fields : Said → SaidOffice → List ReportField
office_fields s o =
    let proportional = code_proportional o.code in
    office_field s o TABLE.office o.code
    ∷ office_field s o TABLE.kind (kind_number proportional)
    ∷ (votes_fields proportional o ++ sum_fields s proportional o)

-- all fields, in order
unfoldable pub fields : Said → List ReportField
fields s = map (head_field s) (zip head_rows (head_values s)) ++ flat_map (office_fields s) s.offices

-- ---- what may be said

-- the numbers of a party's candidates begin with the party's
abbrev pub MayVoteIn : ℕ → ℕ → List Count → Count → Type 0
MayVoteIn digits party before c = (first_two digits c.number ≡ party) × MayVote digits before c

-- each number of a party has the form of its field, and its candidates may stand behind each other
pub record IsSaidParty (digits : ℕ) (p : SaidParty) : Type 0 where
  pub number : fits TABLE.party.form p.number ≡ true
  pub candidates : EachAfter (MayVoteIn digits p.number) [] p.candidates
  pub legend : fits TABLE.party_legend.form p.legend ≡ true
  pub total : fits TABLE.party_total.form p.total ≡ true

-- parties rise
abbrev pub MayParty : ℕ → List SaidParty → SaidParty → Type 0
MayParty digits before p = IsSaidParty digits p × (is_above (map (λ q. q.number) before) p.number ≡ true)

-- a voter has so many votes as the office may have, a proportional office has its candidates in parties, and a majority office has no parties
pub record IsSaidOffice (o : SaidOffice) : Type 0 where
  pub places : may_have_places o.code o.places ≡ true
  pub candidates : EachAfter (MayVote (digits_in o.code)) [] o.candidates
  pub parties : EachAfter (MayParty (digits_in o.code)) [] o.parties
  pub proportional : code_proportional o.code ≡ true → o.candidates ≡ []
  pub majority : code_proportional o.code ≡ false → (o.parties ≡ []) × (o.legend ≡ 0)
  pub able : fits TABLE.office_able.form o.able ≡ true
  pub nominal : fits TABLE.nominal.form o.nominal ≡ true
  pub legend : fits TABLE.legend.form o.legend ≡ true
  pub blank : fits TABLE.blank.form o.blank ≡ true
  pub null_votes : fits TABLE.null_votes.form o.null_votes ≡ true
  pub total : fits TABLE.total.form o.total ≡ true

-- the codes of offices, in order
abbrev pub codes_in : List SaidOffice → List ℕ
codes_in offices = map (λ o. o.code) offices

-- an office has a code that none before it has
abbrev pub MayOffice : List SaidOffice → SaidOffice → Type 0
MayOffice before o = (may_have_code (codes_in before) o.code ≡ true) × IsSaidOffice o

-- each number has the form of its field, and each number, party and office may stand behind those before it; nothing is asked of
-- what is tested
pub record IsSaid (s : Said) : Type 0 where
  pub head : AllByRecursion (λ x. fits x.0.form x.1 ≡ true) (zip head_rows (head_values s))
  pub some : 0 < length s.offices
  pub offices : EachAfter MayOffice [] s.offices

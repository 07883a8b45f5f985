-- What is so between two fields of a text, by what is wanted next.
use Rattle.std.proofs.Common.{◌≡◌, ℕ, ◌<◌, ◌≤◌, true, false, List, [], ◌∷◌, ◌++◌, length, map, take}
use Rattle.std.specs.Prelude.{if◌then◌else◌}
use Rattle.std.specs.List.{flat_map}
use Rattle.election_tables.specs.Offices.{code_proportional, may_have_places}
use Rattle.poll_report.specs.Report.{EachAfter, MayVote, may_have_code, digits_in, is_above}
use Rattle.qr_text.specs.Reading.{State, Mode, Head, Code, Kind, Places, Vote, Party, OfParty, PartyTotal, Nominal, Legend, Blank, Null, Total, Done, new_office}
use Rattle.qr_text.specs.Said.{ReportField, MayVoteIn, MayParty, MayOffice, kind_number, vote_field, party_field, office_field, votes_fields, office_fields, codes_in}
use Rattle.qr_text.specs.Table.{fits}
use Rattle.qr_text.specs.declared.said.Said.{Said}
use Rattle.qr_text.specs.declared.said.SaidOffice.{SaidOffice}
use Rattle.qr_text.specs.declared.said.SaidParty.{SaidParty}
use Rattle.qr_text.specs.declared.table.TheConstants.{TABLE}
use Rattle.qr_text.proofs.HeadRows.{Fits, head_list}

-- ---- the fields of the present office that were read

-- the code, TIPO and more
abbrev pub in_office : Said → SaidOffice → List ReportField → List ReportField
in_office s o more = office_field s o TABLE.office o.code ∷ office_field s o TABLE.kind (kind_number (code_proportional o.code)) ∷ more

abbrev pub votes_read : Said → SaidOffice → List ReportField
votes_read s o = votes_fields (code_proportional o.code) o

abbrev pub legend_read : Said → SaidOffice → List ReportField
legend_read s o = if code_proportional o.code then office_field s o TABLE.legend o.legend ∷ [] else []

-- the fields of the present office, by what is wanted next
abbrev pub part : Mode → Said → SaidOffice → SaidParty → List ReportField
part (Head n) s o p = []
part Code s o p = []
part Kind s o p = office_field s o TABLE.office o.code ∷ []
part Places s o p = in_office s o []
part Vote s o p = in_office s o (votes_read s o)
part Party s o p = in_office s o (votes_read s o)
part OfParty s o p = in_office s o (votes_read s o ++ (party_field p TABLE.party p.number ∷ map vote_field p.candidates))
part PartyTotal s o p = in_office s o
    (votes_read s o ++ (party_field p TABLE.party
    p.number ∷ (map vote_field p.candidates ++ party_field p TABLE.party_legend p.legend ∷ [])))
part Nominal s o p = in_office s o (votes_read s o ++ office_field s o TABLE.office_able o.able ∷ [])
part Legend s o p = in_office s o
    (votes_read s o ++ (office_field s o TABLE.office_able o.able ∷ office_field s o TABLE.nominal o.nominal ∷ []))
part Blank s o p = in_office s o
    (votes_read s o ++ (office_field s o TABLE.office_able o.able ∷ office_field s o TABLE.nominal o.nominal ∷ legend_read s o))
part Null s o p = in_office s o
    (votes_read s o ++ (office_field s o TABLE.office_able o.able ∷ office_field s o TABLE.nominal
    o.nominal ∷ (legend_read s o ++ office_field s o TABLE.blank o.blank ∷ [])))
part Total s o p = in_office s o
    (votes_read s o ++ (office_field s o TABLE.office_able o.able ∷ office_field s o TABLE.nominal
    o.nominal ∷ (legend_read s o ++ (office_field s o TABLE.blank o.blank ∷ office_field s o TABLE.null_votes o.null_votes ∷ []))))
part Done s o p = []

-- ---- what is so between two fields

-- the office so far may stand behind the others
pub record Votes (s : Said) (o : SaidOffice) : Type 0 where
  pub may : may_have_code (codes_in s.offices) o.code ≡ true
  pub places : may_have_places o.code o.places ≡ true
  pub candidates : EachAfter (MayVote (digits_in o.code)) [] o.candidates
  pub parties : EachAfter (MayParty (digits_in o.code)) [] o.parties
  pub proportional : code_proportional o.code ≡ true → o.candidates ≡ []
  pub majority : code_proportional o.code ≡ false → (o.parties ≡ []) × (o.legend ≡ 0)

-- so may its party so far
pub record PartyRead (o : SaidOffice) (p : SaidParty) : Type 0 where
  pub kind : code_proportional o.code ≡ true
  pub number : fits TABLE.party.form p.number ≡ true
  pub above : is_above (map (λ q. q.number) o.parties) p.number ≡ true
  pub candidates : EachAfter (MayVoteIn (digits_in o.code) p.number) [] p.candidates

-- what is so of the office and of the party, by what is wanted next
abbrev pub Fine : Mode → Said → SaidOffice → SaidParty → Type 0
Fine (Head n) s o p = ⊥
Fine Code s o p = s.offices ≡ []
Fine Kind s o p = (o ≡ new_office o.code) × (may_have_code (codes_in s.offices) o.code ≡ true)
Fine Places s o p = (o ≡ new_office o.code) × (may_have_code (codes_in s.offices) o.code ≡ true) × (code_proportional o.code ≡ false)
Fine Vote s o p = Votes s o × (code_proportional o.code ≡ false)
Fine Party s o p = Votes s o × (code_proportional o.code ≡ true)
Fine OfParty s o p = Votes s o × PartyRead o p
Fine PartyTotal s o p = Votes s o × PartyRead o p × (fits TABLE.party_legend.form p.legend ≡ true)
Fine Nominal s o p = Votes s o × (fits TABLE.office_able.form o.able ≡ true)
Fine Legend s o p = Votes s o × (fits TABLE.office_able.form o.able ≡ true) × (fits TABLE.nominal.form o.nominal ≡ true)
    × (code_proportional o.code ≡ true)
Fine Blank s o p = Votes s o × (fits TABLE.office_able.form o.able ≡ true) × (fits TABLE.nominal.form o.nominal ≡ true)
    × (fits TABLE.legend.form o.legend ≡ true)
Fine Null s o p = Votes s o × (fits TABLE.office_able.form o.able ≡ true) × (fits TABLE.nominal.form o.nominal ≡ true)
    × (fits TABLE.legend.form o.legend ≡ true) × (fits TABLE.blank.form o.blank ≡ true)
Fine Total s o p = Votes s o × (fits TABLE.office_able.form o.able ≡ true) × (fits TABLE.nominal.form o.nominal ≡ true)
    × (fits TABLE.legend.form o.legend ≡ true) × (fits TABLE.blank.form o.blank ≡ true) × (fits TABLE.null_votes.form o.null_votes ≡ true)
Fine Done s o p = 0 < length s.offices

-- the fields read before the present office
abbrev pub before_part : Said → List ReportField
before_part s = head_list s ++ flat_map (office_fields s) s.offices

-- behind the fields before the offices
pub record InOffices (m : Mode) (s : Said) (o : SaidOffice) (p : SaidParty) (fs : List ReportField) : Type 0 where
  pub head : Fits 13 s
  pub offices : EachAfter MayOffice [] s.offices
  pub read : fs ≡ before_part s ++ part m s o p
  pub fine : Fine m s o p

-- n of the fields before the offices were read
pub record InHead (n : ℕ) (s : Said) (fs : List ReportField) : Type 0 where
  pub few : n ≤ 12
  pub none : s.offices ≡ []
  pub read : fs ≡ take n (head_list s)
  pub head : Fits n s

abbrev pub GoodIn : Mode → Said → SaidOffice → SaidParty → List ReportField → Type 0
GoodIn (Head n) s o p fs = InHead n s fs
GoodIn Code s o p fs = InOffices Code s o p fs
GoodIn Kind s o p fs = InOffices Kind s o p fs
GoodIn Places s o p fs = InOffices Places s o p fs
GoodIn Vote s o p fs = InOffices Vote s o p fs
GoodIn Party s o p fs = InOffices Party s o p fs
GoodIn OfParty s o p fs = InOffices OfParty s o p fs
GoodIn PartyTotal s o p fs = InOffices PartyTotal s o p fs
GoodIn Nominal s o p fs = InOffices Nominal s o p fs
GoodIn Legend s o p fs = InOffices Legend s o p fs
GoodIn Blank s o p fs = InOffices Blank s o p fs
GoodIn Null s o p fs = InOffices Null s o p fs
GoodIn Total s o p fs = InOffices Total s o p fs
GoodIn Done s o p fs = InOffices Done s o p fs

-- what is so where these fields were read
abbrev pub Good : State → List ReportField → Type 0
Good st fs = GoodIn st.mode st.said st.office st.party fs

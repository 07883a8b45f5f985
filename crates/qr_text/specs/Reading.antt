-- Reading a text field by field: the state between two fields, a step for each field, and the first fault on the way. It is a device
-- of proofs: what the text of a report is, and what its fault, stands in `Spelling` and `Fault`.
use Rattle.std.proofs.Common.{ℕ, ◌+◌, Bool, true, false, List, [], ◌∷◌, ◌++◌, map, Option, Some, None}
use Rattle.std.specs.Prelude.{◌&&◌, ◌==◌, if◌then◌else◌, codes, slice_get, Result, Ok, Err, option_map}
use Rattle.std.specs.List.{slice_split}
use Rattle.std.specs.Option.{option_and_then, option_or}
use Rattle.std.specs.Str.{bytes_eq}
use Rattle.urna_base.specs.Digits.{digits_value, decimal_value}
use Rattle.urna_base.specs.Words.{after_word, pieces}
use Rattle.election_tables.specs.Fields.{first_two}
use Rattle.election_tables.specs.Offices.{code_proportional, may_have_places}
use Rattle.poll_report.specs.Report.{is_vote, is_above, numbers_of, digits_in, may_have_code}
use Rattle.poll_report.specs.declared.report.Count.{Count}
use Rattle.qr_text.specs.Fault.{failing, fault_at}
use Rattle.qr_text.specs.Said.{Test, head_tests, party_tests, office_tests, kind_number, codes_in}
use Rattle.qr_text.specs.Table.{fits, head_rows}
use Rattle.qr_text.specs.declared.fault.FieldFault.TheVariants as fault
use Rattle.qr_text.specs.declared.fault.FieldFault.{FieldFault}
use Rattle.qr_text.specs.declared.said.Said.{Said}
use Rattle.qr_text.specs.declared.said.SaidOffice.{SaidOffice}
use Rattle.qr_text.specs.declared.said.SaidParty.{SaidParty}
use Rattle.qr_text.specs.declared.table.Form.TheVariants.{Vota, Between, Date, Time}
use Rattle.qr_text.specs.declared.table.Form.{Form}
use Rattle.qr_text.specs.declared.table.Row.{Row}
use Rattle.qr_text.specs.declared.table.TheConstants.{TABLE}

-- ---- one field

-- the number that a text of the form writes, whether or not a field may have it
abbrev pub written_value : Form → List ℕ → Option ℕ
written_value Vota t = if bytes_eq t (codes "VOTA") then Some 0 else None
written_value (Between low high) t = decimal_value t
written_value Date t = digits_value 8 t
written_value Time t = digits_value 6 t

abbrev pub only_fitting : Form → ℕ → Option ℕ
only_fitting form v = if fits form v then Some v else None

-- the number of the form that a text writes
unfoldable pub value_at : Form → List ℕ → Option ℕ
value_at form t = option_and_then (only_fitting form) (written_value form t)

-- the number that a field of the row writes
unfoldable pub number_at : Row → List ℕ → Option ℕ
number_at r p = option_and_then (value_at r.form) (option_and_then (after_word (58 ∷ [])) (after_word r.key p))

-- a candidate with votes, where both may stand in a field
abbrev pub vote_with : ℕ → ℕ → ℕ → Option Count
vote_with digits number votes =
    let c : Count = record { number = number; votes = votes } in if is_vote digits c then Some c else None

-- the candidate and the votes that a field writes, of its pieces between colons
abbrev pub vote_of : ℕ → List (List ℕ) → Option Count
vote_of digits (a ∷ b ∷ []) = option_and_then (λ number. option_and_then (vote_with digits number) (decimal_value b)) (decimal_value a)
vote_of digits (a ∷ b ∷ c ∷ more) = None
vote_of digits (a ∷ []) = None
vote_of digits [] = None

-- the same of the whole field
unfoldable pub vote_at : ℕ → List ℕ → Option Count
vote_at digits p = vote_of digits (slice_split (λ b. b == 58) p)

-- ---- the state between two fields

-- which field is wanted next; `Head n` is that of row n of `head_rows`, and `Done` is behind an office
pub data Mode : Type 0 where
  Head : ℕ → Mode
  Code : Mode
  Kind : Mode
  Places : Mode
  Vote : Mode
  Party : Mode
  OfParty : Mode
  PartyTotal : Mode
  Nominal : Mode
  Legend : Mode
  Blank : Mode
  Null : Mode
  Total : Mode
  Done : Mode

-- what was said before the office that is being read, that office so far, and its party so far
pub record State : Type 0 where
  pub mode : Mode
  pub said : Said
  pub office : SaidOffice
  pub party : SaidParty

abbrev pub no_party : SaidParty
no_party = record { number = 0; candidates = []; legend = 0; total = 0 }

abbrev pub new_office : ℕ → SaidOffice
new_office code = record {
  code = code;
  places = 1;
  candidates = [];
  parties = [];
  able = 0;
  nominal = 0;
  legend = 0;
  blank = 0;
  null_votes = 0;
  total = 0;
}

abbrev pub nothing_said : Said
nothing_said = record {
  process = 0;
  date = 0;
  turn = 0;
  zone = 0;
  section = 0;
  able = 0;
  came = 0;
  missed = 0;
  open_date = 0;
  open_time = 0;
  close_date = 0;
  close_time = 0;
  offices = [];
}

abbrev pub start : State
start = record { mode = Head 0; said = nothing_said; office = new_office 0; party = no_party }

-- with the number of row n of `head_rows`
abbrev pub with_head : ℕ → ℕ → Said → Said
with_head n v s =
    if n == 0 then s
    else (if n == 1 then record s { process = v }
    else (if n == 2 then record s { date = v }
    else (if n == 3 then record s { turn = v }
    else (if n == 4 then record s { zone = v }
    else (if n == 5 then record s { section = v }
    else (if n == 6 then record s { able = v }
    else (if n == 7 then record s { came = v }
    else (if n == 8 then record s { missed = v }
    else (if n == 9 then record s { open_date = v }
    else (if n == 10 then record s { open_time = v }
    else (if n == 11 then record s { close_date = v }
    else record s { close_time = v })))))))))))

-- ---- steps

-- the state after a field, and what is tested at the field
abbrev pub Step : Type 0
Step = Option (State × List Test)

-- the state in which this is wanted, with this office and this party so far
abbrev pub wanting : Mode → State → SaidOffice → SaidParty → State
wanting mode st office party = record { mode = mode; said = st.said; office = office; party = party }

abbrev pub head_step : ℕ → State → List ℕ → Step
head_step n st p =
    option_and_then (λ r. option_map (λ v.
    let s = with_head n v st.said in
    (record { mode = if n == 12 then Code else Head (n + 1); said = s; office = st.office; party = st.party }, head_tests r.tested s))
    (number_at r p)) (slice_get head_rows n)

abbrev pub code_step : State → List ℕ → Step
code_step st p =
    option_and_then (λ code. if may_have_code (codes_in st.said.offices) code
    then Some (wanting Kind st (new_office code) no_party, [])
    else None) (number_at TABLE.office p)

abbrev pub kind_step : State → List ℕ → Step
kind_step st p =
    option_and_then (λ v. if v == kind_number (code_proportional st.office.code)
    then Some (wanting (if code_proportional st.office.code then Party else Places) st st.office no_party, [])
    else None) (number_at TABLE.kind p)

-- a field of the office, behind which another is wanted
abbrev pub office_step : Row → Mode → (ℕ → SaidOffice) → State → List ℕ → Step
office_step r next with st p =
    option_map (λ v. (wanting next st (with v) no_party, office_tests r.tested st.said (with v))) (number_at r p)

abbrev pub able_step : State → List ℕ → Step
able_step st p = office_step TABLE.office_able Nominal (λ v. record (st.office) { able = v }) st p

abbrev pub vote_step : State → List ℕ → Step
vote_step st p =
    option_or (option_and_then (λ c. if is_above (numbers_of st.office.candidates) c.number
    then Some (wanting Vote st (record (st.office) { candidates = st.office.candidates ++ c ∷ [] }) no_party, [])
    else None) (vote_at (digits_in st.office.code) p))
    (able_step st p)

-- where an office has more places than one, they stand before its votes
abbrev pub places_step : State → List ℕ → Step
places_step st p =
    option_or (option_and_then (λ v. if may_have_places st.office.code v
    then Some (wanting Vote st (record (st.office) { places = v }) no_party, [])
    else None) (number_at TABLE.places p))
    (vote_step st p)

abbrev pub party_step : State → List ℕ → Step
party_step st p =
    option_or (option_and_then (λ n. if is_above (map (λ q. q.number) st.office.parties) n
    then Some (wanting OfParty st st.office (record no_party { number = n }), [])
    else None) (number_at TABLE.party p))
    (able_step st p)

abbrev pub legend_step : State → List ℕ → Step
legend_step st p =
    option_map (λ v. (wanting PartyTotal st st.office (record (st.party) { legend = v }), [])) (number_at TABLE.party_legend p)

-- the candidate may stand in the party behind those before
abbrev pub may_be_of_party : State → Count → Bool
may_be_of_party st c =
    (first_two (digits_in st.office.code) c.number == st.party.number) && is_above (numbers_of st.party.candidates) c.number

abbrev pub of_party_step : State → List ℕ → Step
of_party_step st p =
    option_or (option_and_then (λ c. if may_be_of_party st c
    then Some (wanting OfParty st st.office (record (st.party) { candidates = st.party.candidates ++ c ∷ [] }), [])
    else None) (vote_at (digits_in st.office.code) p))
    (legend_step st p)

abbrev pub party_total_step : State → List ℕ → Step
party_total_step st p =
    option_map (λ v. let q = record (st.party) { total = v } in
    (wanting Party st (record (st.office) { parties = st.office.parties ++ q ∷ [] }) no_party, party_tests TABLE.party_total.tested q))
    (number_at TABLE.party_total p)

-- the office is said as a whole
abbrev pub total_step : State → List ℕ → Step
total_step st p =
    option_map (λ v. let o = record (st.office) { total = v } in (
      record { mode = Done; said = record (st.said) { offices = st.said.offices ++ o ∷ [] }; office = o; party = no_party },
      office_tests TABLE.total.tested st.said o,
    ))
    (number_at TABLE.total p)

abbrev pub step_in : Mode → State → List ℕ → Step
step_in (Head n) st p = head_step n st p
step_in Code st p = code_step st p
step_in Kind st p = kind_step st p
step_in Places st p = places_step st p
step_in Vote st p = vote_step st p
step_in Party st p = party_step st p
step_in OfParty st p = of_party_step st p
step_in PartyTotal st p = party_total_step st p
step_in Nominal st p =
    office_step TABLE.nominal (if code_proportional st.office.code then Legend else Blank) (λ v. record (st.office) { nominal = v }) st p
step_in Legend st p = office_step TABLE.legend Blank (λ v. record (st.office) { legend = v }) st p
step_in Blank st p = office_step TABLE.blank Null (λ v. record (st.office) { blank = v }) st p
step_in Null st p = office_step TABLE.null_votes Total (λ v. record (st.office) { null_votes = v }) st p
step_in Total st p = total_step st p
step_in Done st p = code_step st p

unfoldable pub step : State → List ℕ → Step
step st p = step_in st.mode st p

-- the text may end here
abbrev pub may_end : Mode → Bool
may_end Done = true
may_end _ = false

-- ---- a whole text

-- what these pieces say from this state on, or their first fault; the first of them is field k
unfoldable pub reading : ℕ → State → List (List ℕ) → Result Said FieldFault
reading k st [] = if may_end st.mode then Ok st.said else Err (fault.Field k)
reading k st (p ∷ ps) =
    elim (step st p) [
      | None ↦ Err (fault.Field k)
      | Some x ↦ elim (failing x.1) [ Some t ↦ Err (fault_at k t) | None ↦ reading (k + 1) x.0 ps ]
    ]

-- what a text says rightly, or its fault
unfoldable pub said_by : List ℕ → Result Said FieldFault
said_by bytes = reading 1 start (pieces bytes)

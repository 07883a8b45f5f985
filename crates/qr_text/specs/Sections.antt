-- Reading the fields that are left of a text, section by section. A device of proofs, as `Reading` is: `proofs/Joining` and the files
-- behind it show that both read the same.
use Rattle.std.specs.Prelude.{ℕ, ◌+◌, ◌*◌, nat_le, nat_lt, ◌==◌, Bool, true, if◌then◌else◌, List, [], ◌∷◌, Option, Some, None, Result, Ok, Err}
use Rattle.election_tables.specs.Offices.{code_proportional}
use Rattle.poll_report.specs.Report.{may_have_code, votes_of}
use Rattle.poll_report.specs.declared.report.Count.{Count}
use Rattle.qr_text.specs.Reading.{number_at}
use Rattle.qr_text.specs.Said.{codes_in, kind_number, moment}
use Rattle.qr_text.specs.declared.fault.FieldFault.TheVariants as fault
use Rattle.qr_text.specs.declared.fault.FieldFault.{FieldFault}
use Rattle.qr_text.specs.declared.head.Head.{Head}
use Rattle.qr_text.specs.declared.head.Hours.{Hours}
use Rattle.qr_text.specs.declared.head.Poll.{Poll}
use Rattle.qr_text.specs.declared.head.Voters.{Voters}
use Rattle.qr_text.specs.declared.office.Sums.{Sums}
use Rattle.qr_text.specs.declared.said.SaidOffice.{SaidOffice}
use Rattle.qr_text.specs.declared.said.SaidParty.{SaidParty}
use Rattle.qr_text.specs.declared.table.Form.TheVariants.{Vota, Between, Date, Time}
use Rattle.qr_text.specs.declared.table.Form.{Form}
use Rattle.qr_text.specs.declared.table.Row.{Row}
use Rattle.qr_text.specs.declared.table.TheConstants.{TABLE}

-- the fields that are left, and the number of the first of them, from 1
pub record FieldsLeft : Type 0 where
  pub left : List (List ℕ)
  pub next : ℕ

-- the numbers of a form have 32 bits
abbrev pub is_narrow : Form → Bool
is_narrow Vota = true
is_narrow (Between low high) = nat_lt high 4294967296
is_narrow Date = true
is_narrow Time = true

-- ---- one after the other

infixl 10 ◌>>=◌
abbrev pub ◌>>=◌ : {A B : Type 0} → Result A FieldFault → (A → Result B FieldFault) → Result B FieldFault
(Ok x) >>= f = f x
(Err e) >>= f = Err e

-- the number of the next field, and what is left behind it
abbrev pub number_or_fault : Option ℕ → ℕ → List (List ℕ) → Result (ℕ × FieldsLeft) FieldFault
number_or_fault None next rest = Err (fault.Field next)
number_or_fault (Some v) next rest = Ok (v, record { left = rest; next = next + 1 })

abbrev pub first_reading : Row → ℕ → List (List ℕ) → Result (ℕ × FieldsLeft) FieldFault
first_reading r next [] = Err (fault.Field next)
first_reading r next (p ∷ rest) = number_or_fault (number_at r p) next rest

-- the next field is to be one of this row
unfoldable pub row_reading : Row → FieldsLeft → Result (ℕ × FieldsLeft) FieldFault
row_reading r s = first_reading r s.next s.left

-- at a field, a sum is to be what is said
unfoldable pub agreed : {A : Type 0} → ℕ → ℕ → ℕ → A → Result A FieldFault
agreed field sum said x = if sum == said then Ok x else Err (fault.Sum field sum said)

-- at a field, something is to hold
unfoldable pub held : {A : Type 0} → ℕ → Bool → A → Result A FieldFault
held field fact x = if fact then Ok x else Err (fault.Field field)

-- the next field is to say this sum
unfoldable pub sum_reading : Row → ℕ → FieldsLeft → Result (ℕ × FieldsLeft) FieldFault
sum_reading r sum s = do
  x ← row_reading r s
  agreed s.next sum x.0 x

-- ---- before the offices

-- which poll a report is of
unfoldable pub poll_reading : FieldsLeft → Result (Poll × FieldsLeft) FieldFault
poll_reading s = do
  orig ← row_reading TABLE.orig s
  process ← row_reading TABLE.process orig.1
  date ← row_reading TABLE.date process.1
  turn ← row_reading TABLE.turn date.1
  zone ← row_reading TABLE.zone turn.1
  section ← row_reading TABLE.section zone.1
  Ok (record { process = process.0; date = date.0; turn = turn.0; zone = zone.0; section = section.0 }, section.1)

-- the voters of the section
unfoldable pub voters_reading : FieldsLeft → Result (Voters × FieldsLeft) FieldFault
voters_reading s = do
  able ← row_reading TABLE.able s
  came ← row_reading TABLE.came able.1
  missed ← row_reading TABLE.missed came.1
  agreed came.1.next (came.0 + missed.0) able.0 (record { able = able.0; came = came.0; missed = missed.0 }, missed.1)

abbrev pub hours_at : ℕ → ℕ → ℕ → ℕ → Hours
hours_at open_date open_time close_date close_time = record { open_date = open_date; open_time = open_time; close_date = close_date; close_time = close_time }

-- when the poll was open
unfoldable pub hours_reading : FieldsLeft → Result (Hours × FieldsLeft) FieldFault
hours_reading s = do
  open_date ← row_reading TABLE.open_date s
  open_time ← row_reading TABLE.open_time open_date.1
  close_date ← row_reading TABLE.close_date open_time.1
  close_time ← row_reading TABLE.close_time close_date.1
  held close_date.1.next (nat_le (moment open_date.0 open_time.0) (moment close_date.0 close_time.0)) (hours_at open_date.0 open_time.0 close_date.0 close_time.0, close_time.1)

-- all fields before the offices
unfoldable pub head_reading : FieldsLeft → Result (Head × FieldsLeft) FieldFault
head_reading s = do
  poll ← poll_reading s
  voters ← voters_reading poll.1
  hours ← hours_reading voters.1
  Ok (record { poll = poll.0; voters = voters.0; hours = hours.0 }, hours.1)

-- ---- an office

-- the code and the kind of an office that stands behind others
unfoldable pub start_reading : List SaidOffice → FieldsLeft → Result (ℕ × FieldsLeft) FieldFault
start_reading before s = do
  code ← row_reading TABLE.office s
  behind ← held s.next (may_have_code (codes_in before) code.0) code.1
  kind ← row_reading TABLE.kind behind
  held behind.next (kind.0 == kind_number (code_proportional code.0)) (code.0, kind.1)

-- the party votes of a party and its total, behind its candidates
unfoldable pub party_end_reading : ℕ → List Count → FieldsLeft → Result (SaidParty × FieldsLeft) FieldFault
party_end_reading number candidates s = do
  legend ← row_reading TABLE.party_legend s
  total ← sum_reading TABLE.party_total (votes_of candidates + legend.0) legend.1
  Ok (record { number = number; candidates = candidates; legend = legend.0; total = total.0 }, total.1)

-- the party votes of an office, which only a proportional one says
unfoldable pub legend_reading : Bool → ℕ → FieldsLeft → Result (ℕ × FieldsLeft) FieldFault
legend_reading proportional legend s = if proportional then sum_reading TABLE.legend legend s else Ok (0, s)

-- the sums of an office, behind its votes, where each voter has so many
unfoldable pub sums_reading : Bool → Voters → ℕ → ℕ → ℕ → FieldsLeft → Result (Sums × FieldsLeft) FieldFault
sums_reading proportional voters places nominal legend s = do
  a ← sum_reading TABLE.office_able voters.able s
  n ← sum_reading TABLE.nominal nominal a.1
  l ← legend_reading proportional legend n.1
  blank ← row_reading TABLE.blank l.1
  null_votes ← row_reading TABLE.null_votes blank.1
  total ← sum_reading TABLE.total (n.0 + l.0 + blank.0 + null_votes.0) null_votes.1
  end ← agreed null_votes.1.next (voters.came * places) total.0 total.1
  Ok (record { able = a.0; nominal = n.0; legend = l.0; blank = blank.0; null_votes = null_votes.0; total = total.0 }, end)

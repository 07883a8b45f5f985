-- How far the reading of a text has come, between two of its sections, and what reading on from there gives.
use Rattle.std.specs.Prelude.{◌≡◌, ℕ, if◌then◌else◌, List, [], ◌∷◌, ◌++◌, Result, Ok, Err}
use Rattle.election_tables.specs.Offices.{code_proportional}
use Rattle.poll_report.specs.declared.report.Count.{Count}
use Rattle.qr_text.specs.Reading.{State, Mode, Code, Places, Vote, Party, OfParty, Done, able_step, reading, step, new_office, no_party}
use Rattle.qr_text.specs.Sections.{FieldsLeft}
use Rattle.qr_text.specs.declared.fault.FieldError.TheVariants.{Memory, Fault}
use Rattle.qr_text.specs.declared.fault.FieldError.{FieldError}
use Rattle.qr_text.specs.declared.fault.FieldFault.{FieldFault}
use Rattle.qr_text.specs.declared.head.Head as H
use Rattle.qr_text.specs.declared.office.Sums.{Sums}
use Rattle.qr_text.specs.declared.said.Said.{Said}
use Rattle.qr_text.specs.declared.said.SaidOffice.{SaidOffice}
use Rattle.qr_text.specs.declared.said.SaidParty.{SaidParty}

-- P holds of what was read, or Q of the fault; nothing is said where memory ran out
abbrev pub MatchRead : {A : Type 0} → Result A FieldError → (A → Type 0) → (FieldFault → Type 0) → Type 0
MatchRead (Ok x) P Q = P x
MatchRead (Err Memory) P Q = Unit {0}
MatchRead (Err (Fault f)) P Q = Q f

-- what reading on gives
abbrev pub goes : State → FieldsLeft → Result Said FieldFault
goes st s = reading s.next st s.left

-- ---- between offices

-- all that is said, by these fields before the offices and these offices
abbrev pub said_of : H.Head → List SaidOffice → Said
said_of h offices = record {
  process = h.poll.process;
  date = h.poll.date;
  turn = h.poll.turn;
  zone = h.poll.zone;
  section = h.poll.section;
  able = h.voters.able;
  came = h.voters.came;
  missed = h.voters.missed;
  open_date = h.hours.open_date;
  open_time = h.hours.open_time;
  close_date = h.hours.close_date;
  close_time = h.hours.close_time;
  offices = offices;
}

-- an office is wanted, and behind the first the text may end
abbrev pub mode_behind : List SaidOffice → Mode
mode_behind [] = Code
mode_behind (o ∷ offices) = Done

-- no office is begun
abbrev pub at_mode : Mode → Said → State
at_mode mode q = record { mode = mode; said = q; office = new_office 0; party = no_party }

-- behind these offices
abbrev pub behind : H.Head → List SaidOffice → State
behind h offices = at_mode (mode_behind offices) (said_of h offices)

-- ---- within an office

abbrev pub sums : ℕ → ℕ → ℕ → ℕ → ℕ → ℕ → Sums
sums able nominal legend blank null_votes total = record { able = able; nominal = nominal; legend = legend; blank = blank; null_votes = null_votes; total = total }

-- an office with these places, candidates, parties and sums
abbrev pub with_sums : ℕ → ℕ → List Count → List SaidParty → Sums → SaidOffice
with_sums code places cs ps x = record {
  code = code;
  places = places;
  candidates = cs;
  parties = ps;
  able = x.able;
  nominal = x.nominal;
  legend = x.legend;
  blank = x.blank;
  null_votes = x.null_votes;
  total = x.total;
}

-- none of its sums was read
abbrev pub without_sums : ℕ → ℕ → List Count → List SaidParty → SaidOffice
without_sums code places cs ps = with_sums code places cs ps (sums 0 0 0 0 0 0)

abbrev pub in_office : Mode → Said → SaidOffice → State
in_office mode q o = record { mode = mode; said = q; office = o; party = no_party }

-- its code and its kind were read
abbrev pub begun : Said → ℕ → State
begun q code = in_office (if code_proportional code then Party else Places) q (without_sums code 1 [] [])

-- in a majority office its places may stand
abbrev pub placing : Said → ℕ → State
placing q code = in_office Places q (without_sums code 1 [] [])

-- these candidates of an office of so many places were read
abbrev pub voting : Said → ℕ → ℕ → List Count → State
voting q code places cs = in_office Vote q (without_sums code places cs [])

-- these parties were read
abbrev pub with_parties : Said → ℕ → List SaidParty → State
with_parties q code ps = in_office Party q (without_sums code 1 [] ps)

-- and no party's number stands behind them
abbrev pub NoParty : Said → ℕ → List SaidParty → FieldsLeft → Type 0
NoParty q code ps s = (p : List ℕ) (more : List (List ℕ)) → s.left ≡ p ∷ more → step (with_parties q code ps) p ≡ able_step (with_parties q code ps) p

-- or the number of a party does, and these of its candidates
abbrev pub in_party : Said → ℕ → List SaidParty → ℕ → List Count → State
in_party q code ps number cs = record { mode = OfParty; said = q; office = without_sums code 1 [] ps; party = record no_party { number = number; candidates = cs } }

-- the whole office was read
abbrev pub after_office : Said → SaidOffice → State
after_office q o = record { mode = Done; said = record q { offices = q.offices ++ o ∷ [] }; office = o; party = no_party }

-- Reading a text line by line: the state between two lines, a step for each line, and the first bad one on the way. It is a device of proofs: what the text of a certificate
-- is, and what its first bad line, stands in `Text`.
use Rattle.std.specs.Prelude.{ℕ, ◌+◌, ◌==◌, nat_lt, if◌then◌else◌, List, [], ◌∷◌, ◌++◌, length, Option, Some, None, option_map, Result, Ok, Err}
use Rattle.std.specs.List.{slice_split}
use Rattle.std.specs.Option.{option_and_then, option_or}
use Rattle.std.specs.Str.{bytes_eq}
use Rattle.urna_base.specs.Digits.{decimal_within}
use Rattle.urna_base.specs.Words.{cut_at, pieces}
use Rattle.election_tables.specs.Offices.{code_proportional}
use Rattle.quotients.specs.Average.{AverageData}
use Rattle.seat_certificate.specs.declared.certificate.Certificate.{Certificate}
use Rattle.seat_certificate.specs.declared.certificate.FirstLine.{FirstLine}
use Rattle.seat_certificate.specs.declared.certificate.Round.{Round}
use Rattle.seat_certificate.specs.declared.read.CertTextError.TheVariants as error
use Rattle.seat_certificate.specs.declared.read.CertTextError.{CertTextError}
use Rattle.seat_certificate.specs.declared.table.TheConstants.{MOST_FIRST_LINES, MOST_ROUNDS, TABLE}

-- what stands first, and then what follows from it
infixl 10 ◌>>=◌
abbrev pub ◌>>=◌ : {A B : Type 0} → Option A → (A → Option B) → Option B
None >>= f = None
(Some x) >>= f = f x

-- ---- the lines of a text

-- those of some pieces between line feeds that have one behind them, and what stands behind the last one
abbrev pub with_feeds : List (List ℕ) → List (List ℕ) × List ℕ
with_feeds [] = ([], [])
with_feeds (piece ∷ []) = ([], piece)
with_feeds (piece ∷ next ∷ pieces) = (piece ∷ (with_feeds (next ∷ pieces)).0, (with_feeds (next ∷ pieces)).1)

-- the lines of a text that have a line feed (10), and what stands behind the last one
unfoldable pub lines_in : List ℕ → List (List ℕ) × List ℕ
lines_in bytes = with_feeds (slice_split (λ b. b == 10) bytes)

-- ---- words

-- a keyword and a number behind it, and the words behind that
unfoldable pub keyed : List ℕ → ℕ → ℕ → List (List ℕ) → Option (ℕ × List (List ℕ))
keyed word low high [] = None
keyed word low high (w ∷ []) = None
keyed word low high (w ∷ v ∷ ws) = if bytes_eq w word then option_map (λ n. (n, ws)) (decimal_within low high v) else None

-- no word is left
abbrev pub at_end : {A : Type 0} → A → List (List ℕ) → Option A
at_end x [] = Some x
at_end x (w ∷ ws) = None

-- ---- lines

-- one keyword and one number
unfoldable pub one_number : List ℕ → ℕ → ℕ → List ℕ → Option ℕ
one_number word low high line = do
  n ← keyed word low high (pieces line)
  at_end n.0 n.1

-- the line of a bloc in the first phase
unfoldable pub bloc_at : List ℕ → Option FirstLine
bloc_at line = do
  p ← keyed TABLE.party.word TABLE.party.low TABLE.party.high (pieces line)
  q ← keyed TABLE.party_quotient.word TABLE.party_quotient.low TABLE.party_quotient.high p.1
  a ← keyed TABLE.able.word TABLE.able.low TABLE.able.high q.1
  s ← keyed TABLE.seats.word TABLE.seats.low TABLE.seats.high a.1
  at_end (record { party = p.0; quotient = q.0; able = a.0; seats = s.0 }) s.1

-- bloc, votes and divisor
unfoldable pub average_at : List ℕ → Option AverageData
average_at w = do
  first ← cut_at TABLE.average_votes.mark w
  p ← decimal_within TABLE.average_party.low TABLE.average_party.high first.0
  second ← cut_at TABLE.average_divisor.mark first.1
  v ← decimal_within TABLE.average_votes.low TABLE.average_votes.high second.0
  d ← decimal_within TABLE.average_divisor.low TABLE.average_divisor.high second.1
  Some (record { votes = v; divisor = d; party = p })

-- the average of a word, where its bloc is above the last
unfoldable pub next_average : ℕ → List ℕ → Option AverageData
next_average last w = option_and_then (λ a. if nat_lt last a.party then Some a else None) (average_at w)

-- averages, blocs rising from above the last, behind some that were read
unfoldable pub averages_at : List AverageData → ℕ → List (List ℕ) → Option (List AverageData)
averages_at before last [] = Some before
averages_at before last (w ∷ ws) = elim (next_average last w) [ None ↦ None | Some a ↦ averages_at (before ++ a ∷ []) a.party ws ]

-- the front of a round, up to its averages
unfoldable pub round_front : ℕ → List ℕ → Option ((ℕ × ℕ) × List (List ℕ))
round_front k line = do
  n ← keyed TABLE.round k k (pieces line)
  f ← keyed TABLE.phase.word TABLE.phase.low TABLE.phase.high n.1
  p ← keyed TABLE.winner.word TABLE.winner.low TABLE.winner.high f.1
  Some ((f.0, p.0), p.1)

-- round number k
unfoldable pub round_at : ℕ → List ℕ → Option Round
round_at k line = option_and_then (λ x. option_map (λ xs. record { phase = x.0.0; party = x.0.1; averages = xs }) (averages_at [] 0 x.1)) (round_front k line)

-- ---- the state between two lines

-- what stands next, after what was read: the first line, the office, the quotient, or what may follow a bloc, a round, neither of both, the vacant seats and the end
pub data State : Type 0 where
  AtStart : State
  AtOffice : State
  AtQuotient : ℕ → State
  InFirst : ℕ → ℕ → List FirstLine → State
  InRounds : ℕ → ℕ → List FirstLine → List Round → State
  AtVacant : ℕ → ℕ → List FirstLine → List Round → State
  AtEnd : ℕ → Certificate → State
  AtDone : ℕ → Certificate → State

-- the last bloc of some lines, and 0 where there is none
abbrev pub last_bloc : ℕ → List FirstLine → ℕ
last_bloc last [] = last
last_bloc last (l ∷ lines) = last_bloc l.party lines

-- the first line
abbrev pub start_step : List ℕ → Option State
start_step line = if bytes_eq line TABLE.version then Some AtOffice else None

-- a code that is that of a proportional office
abbrev pub proportional_code : ℕ → Option ℕ
proportional_code code = if code_proportional code then Some code else None

-- the line of the office
unfoldable pub office_at : List ℕ → Option ℕ
office_at line = option_and_then proportional_code (one_number TABLE.office.word TABLE.office.low TABLE.office.high line)

-- one line more of the first phase
unfoldable pub next_bloc : List FirstLine → List ℕ → Option FirstLine
next_bloc before line =
    if nat_lt (length before) MOST_FIRST_LINES then option_and_then (λ l. if nat_lt (last_bloc 0 before) l.party then Some l else None) (bloc_at line) else None

-- one round more
unfoldable pub next_round : List Round → List ℕ → Option Round
next_round before line = if nat_lt (length before) MOST_ROUNDS then round_at (length before + 1) line else None

-- the line of the vacant seats
unfoldable pub vacant_at : List ℕ → Option ℕ
vacant_at line = one_number TABLE.vacant.word TABLE.vacant.low TABLE.vacant.high line

-- the certificate that was read
abbrev pub made : ℕ → List FirstLine → List Round → ℕ → Certificate
made q first rounds vacant = record { quotient = q; first = first; rounds = rounds; vacant = vacant }

-- the vacant seats behind the rounds
abbrev pub vacant_step : ℕ → ℕ → List FirstLine → List Round → List ℕ → Option State
vacant_step code q first rounds line = option_map (λ m. AtEnd code (made q first rounds m)) (vacant_at line)

-- a round more, or the vacant seats
abbrev pub rounds_step : ℕ → ℕ → List FirstLine → List Round → List ℕ → Option State
rounds_step code q first rounds line =
    option_or (option_map (λ r. InRounds code q first (rounds ++ r ∷ [])) (next_round rounds line)) (vacant_step code q first rounds line)

-- one line more
unfoldable pub step : State → List ℕ → Option State
step AtStart line = start_step line
step AtOffice line = option_map (λ code. AtQuotient code) (office_at line)
step (AtQuotient code) line = option_map (λ q. InFirst code q []) (one_number TABLE.quotient.word TABLE.quotient.low TABLE.quotient.high line)
step (InFirst code q first) line = option_or (option_map (λ l. InFirst code q (first ++ l ∷ [])) (next_bloc first line)) (rounds_step code q first [] line)
step (InRounds code q first rounds) line = rounds_step code q first rounds line
step (AtVacant code q first rounds) line = vacant_step code q first rounds line
step (AtEnd code c) line = if bytes_eq line TABLE.end then Some (AtDone code c) else None
step (AtDone code c) line = None

-- at the end of a text, with nothing behind the last line feed, all lines were read; else the line with this number is bad
abbrev pub ended : ℕ → State → List ℕ → Result (ℕ × Certificate) ℕ
ended k (AtDone code c) [] = Ok (code, c)
ended k st tail = Err k

-- what these lines and what stands behind them give from this state on; the first of them has this number
unfoldable pub goes : ℕ → State → List (List ℕ) → List ℕ → Result (ℕ × Certificate) ℕ
goes k st [] tail = ended k st tail
goes k st (line ∷ lines) tail = elim (step st line) [ None ↦ Err k | Some more ↦ goes (k + 1) more lines tail ]

-- what a text gives from this state on
abbrev pub text_goes : ℕ → State → List ℕ → Result (ℕ × Certificate) ℕ
text_goes k st text = goes k st (lines_in text).0 (lines_in text).1

-- a whole text
unfoldable pub read_by : List ℕ → Result (ℕ × Certificate) ℕ
read_by bytes = text_goes 1 AtStart bytes

-- P holds of what was read, or Q of the number of a line; nothing is said where memory ran out
abbrev pub MatchRead : {A : Type 0} → Result A CertTextError → (A → Type 0) → (ℕ → Type 0) → Type 0
MatchRead (Ok x) P Q = P x
MatchRead (Err error.Memory) P Q = Unit {0}
MatchRead (Err (error.Line k)) P Q = Q k

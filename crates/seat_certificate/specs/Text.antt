-- The text of a certificate of an office, and the first fault of any other text (docs/FORMATS.md, "Certificate")
use Rattle.std.specs.Prelude.{◌≡◌, ◌⊎◌, ℕ, ◌+◌, ◌^◌, ◌≤◌, ◌<◌, true, List, [], ◌∷◌, ◌++◌, length, map, take, flat_map}
use Rattle.std.specs.Fmt.{decimal}
use Rattle.std.specs.List.{AllByRecursion}
use Rattle.urna_base.specs.Lines.{lines_text}
use Rattle.urna_base.specs.Words.{joined}
use Rattle.election_tables.specs.Offices.{code_proportional}
use Rattle.quotients.specs.Average.{AverageData}
use Rattle.seat_remainders.specs.declared.contest.Contest.{Contest}
use Rattle.seat_certificate.specs.declared.certificate.Certificate.{Certificate}
use Rattle.seat_certificate.specs.declared.certificate.FirstLine.{FirstLine}
use Rattle.seat_certificate.specs.declared.certificate.Round.{Round}
use Rattle.seat_certificate.specs.declared.table.TheConstants.{MOST_FIRST_LINES, MOST_ROUNDS, TABLE}

-- ---- which certificates have a text

-- a bloc has a number of two digits
abbrev pub IsBloc : ℕ → Type 0
IsBloc p = (TABLE.party.low ≤ p) × (p ≤ TABLE.party.high)

-- a number that a decimal of at most 18 digits writes
abbrev pub IsDecimalNumber : ℕ → Type 0
IsDecimalNumber n = n < 10 ^ 18

-- and one of 32 bits
abbrev pub IsNarrow : ℕ → Type 0
IsNarrow n = n < 2 ^ 32

-- numbers rise from above this one, each greater than the one before it
abbrev pub RiseAbove : ℕ → List ℕ → Type 0
RiseAbove last [] = Unit {0}
RiseAbove last (n ∷ numbers) = (last < n) × RiseAbove n numbers

-- a line of the first phase that has a text
pub record LineFits (l : FirstLine) : Type 0 where
  pub party : IsBloc l.party
  pub quotient : IsDecimalNumber l.quotient
  pub able : IsNarrow l.able
  pub seats : IsNarrow l.seats

-- an average that has one
pub record AverageFits (a : AverageData) : Type 0 where
  pub party : IsBloc a.party
  pub votes : IsDecimalNumber a.votes
  pub some : 1 ≤ a.divisor
  pub divisor : IsNarrow a.divisor

-- a round that has one: its averages rise by bloc
pub record RoundFits (r : Round) : Type 0 where
  pub phase : (r.phase ≡ 2) ⊎ (r.phase ≡ 3)
  pub party : IsBloc r.party
  pub averages : AllByRecursion AverageFits r.averages
  pub rise : RiseAbove 0 (map (λ a. a.party) r.averages)

-- a certificate of a proportional office that has a text: its numbers are decimals, its blocs rise, and it has at most 40 lines of the first
-- phase and 200 rounds
pub record HasText (code : ℕ) (c : Certificate) : Type 0 where
  pub office : code_proportional code ≡ true
  pub quotient : IsDecimalNumber c.quotient
  pub first : AllByRecursion LineFits c.first
  pub few_lines : length c.first ≤ MOST_FIRST_LINES
  pub rise : RiseAbove 0 (map (λ l. l.party) c.first)
  pub rounds : AllByRecursion RoundFits c.rounds
  pub few_rounds : length c.rounds ≤ MOST_ROUNDS
  pub vacant : IsNarrow c.vacant

-- a contest of at most 40 blocs, each with a number of two digits, and fewer than 2^32 candidates, as each list has
pub record HasFewBlocs (contest : Contest) : Type 0 where
  pub few : length contest.parties ≤ MOST_FIRST_LINES
  pub numbers : AllByRecursion (λ p. IsBloc p.number) contest.parties
  pub candidates : AllByRecursion (λ p. IsNarrow (length p.candidates)) contest.parties

-- ---- the text

-- the line of an office's code
abbrev pub office_line : ℕ → List ℕ
office_line code = joined (TABLE.office.word ∷ decimal code ∷ [])

-- that of the electoral quotient
abbrev pub quotient_line : ℕ → List ℕ
quotient_line q = joined (TABLE.quotient.word ∷ decimal q ∷ [])

-- that of a bloc in the first phase
abbrev pub bloc_line : FirstLine → List ℕ
bloc_line l =
    joined (TABLE.party.word ∷ decimal l.party ∷ TABLE.party_quotient.word ∷ decimal l.quotient ∷ TABLE.able.word ∷ decimal l.able ∷ TABLE.seats.word ∷ decimal l.seats ∷ [])

-- an average behind a space, as bloc, votes and divisor
abbrev pub average_word : AverageData → List ℕ
average_word a = TABLE.average_party.mark ∷ (decimal a.party ++ TABLE.average_votes.mark ∷ (decimal a.votes ++ TABLE.average_divisor.mark ∷ decimal a.divisor))

-- round number k
abbrev pub round_line : ℕ → Round → List ℕ
round_line k r =
    joined (TABLE.round ∷ decimal k ∷ TABLE.phase.word ∷ decimal r.phase ∷ TABLE.winner.word ∷ (decimal r.party ++ flat_map average_word r.averages) ∷ [])

-- rounds, the first of them with this number
abbrev pub round_lines : ℕ → List Round → List (List ℕ)
round_lines k [] = []
round_lines k (r ∷ rounds) = round_line k r ∷ round_lines (k + 1) rounds

-- that of the vacant seats
abbrev pub vacant_line : ℕ → List ℕ
vacant_line m = joined (TABLE.vacant.word ∷ decimal m ∷ [])

-- the lines of a certificate of the office of a code
abbrev pub certificate_lines : ℕ → Certificate → List (List ℕ)
certificate_lines code c =
    TABLE.version ∷ office_line code ∷ quotient_line c.quotient ∷ map bloc_line c.first ++ (round_lines 1 c.rounds ++ (vacant_line c.vacant ∷ TABLE.end ∷ []))

-- its text
unfoldable pub certificate_text : ℕ → Certificate → List ℕ
certificate_text code c = lines_text (certificate_lines code c)

-- ---- what a text is

-- a text spells a certificate of the office of a code
pub record Spells (bytes : List ℕ) (code : ℕ) (c : Certificate) : Type 0 where
  pub fits : HasText code c
  pub text : bytes ≡ certificate_text code c

-- the first k lines of a text, each with its line feed, are those of this certificate
abbrev pub BeginsAs : ℕ → List ℕ → ℕ → Certificate → Type 0
BeginsAs k bytes code c = (k ≤ length (certificate_lines code c)) × (rest : List ℕ) × (bytes ≡ lines_text (take k (certificate_lines code c)) ++ rest)

-- Line number k is the first that may not stand there: the lines before it are those of some certificate that has a text, no such certificate has these and this line,
-- and the whole text is none's. A line that is missing or has no line feed may not stand there, nor may a line behind the last.
pub record IsFirstBadLine (bytes : List ℕ) (k : ℕ) : Type 0 where
  pub place : ℕ
  pub number : k ≡ place + 1
  pub code : ℕ
  pub certificate : Certificate
  pub fits : HasText code certificate
  pub before : BeginsAs place bytes code certificate
  pub here : (n : ℕ) (c : Certificate) → HasText n c → BeginsAs (place + 1) bytes n c → ⊥
  pub whole : (n : ℕ) (c : Certificate) → Spells bytes n c → ⊥

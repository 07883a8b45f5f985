-- What a valid certificate says
use Rattle.std.specs.Prelude.{◌≡◌, ◌⊎◌, ℕ, true, ◌+◌, ◌≤◌, ◌==◌, List, ◌++◌, length, map, count_by}
use Rattle.std.specs.List.Sorted.{IsPermutation}
use Rattle.seat_remainders.specs.declared.contest.Contest.{Contest}
use Rattle.seat_remainders.specs.declared.contest.Contestant.{Contestant}
use Rattle.seat_remainders.specs.declared.outcome.Award.{Award}
use Rattle.seat_remainders.specs.declared.outcome.Outcome.{Outcome}
use Rattle.seat_remainders.specs.declared.outcome.Outcome.TheVariants as outcome
use Rattle.seat_remainders.specs.declared.outcome.Seats.{Seats as SeatsData}
use Rattle.election_tables.specs.Offices.{code_proportional}
use Rattle.seat_remainders.specs.Contest.{IsContest}
use Rattle.seat_remainders.specs.Outcome.{AreSeats, IsOutcome, elected_of}
use Rattle.seat_remainders.specs.Rounds.{seats_after}
use Rattle.seat_certificate.specs.declared.certificate.Certificate.{Certificate}
use Rattle.seat_certificate.specs.declared.certificate.FirstLine.{FirstLine}
use Rattle.seat_certificate.specs.Certificate.{awards_in, certificate_of}
use Rattle.seat_certificate.specs.Substitutes.{substitutes_of}
use Rattle.seat_certificate.specs.Text.{HasFewBlocs, HasText, IsFirstBadLine, Spells, certificate_text}
use Rattle.seat_certificate.specs.Valid.{IsValid}

-- the seats that a certificate tells of the bloc of a line: those of the first phase, and one for each round that the bloc takes
abbrev pub seats_told : Certificate → FirstLine → ℕ
seats_told c l = l.seats + count_by (λ r. r.party == l.party) c.rounds

-- a certificate tells these seats
pub record Tells (c : Certificate) (s : SeatsData) : Type 0 where
  pub quotient : c.quotient ≡ s.quotient
  pub blocs : map (λ l. l.party) c.first ≡ map (λ p. p.number) s.parties
  pub seats : map (seats_told c) c.first ≡ map (λ p. p.seats) s.parties
  pub awards : awards_in c.rounds ≡ s.awards
  pub vacant : c.vacant ≡ s.vacant

-- where a certificate is valid, what comes of the contest is the seats that it tells, whoever made it
abbrev pub ValidTellsOutcome : Type 0
ValidTellsOutcome = (contest : Contest) (c : Certificate) (o : Outcome) → IsValid contest c → IsOutcome contest o → (s : SeatsData) × (o ≡ outcome.Seats s) × Tells c s

-- where a contest comes to seats, their certificate is valid
abbrev pub SeatsAreCertified : Type 0
SeatsAreCertified = (contest : Contest) (s : SeatsData) → AreSeats contest s → IsValid contest (certificate_of contest s)

-- a contest has one valid certificate at most
abbrev pub OneIsValid : Type 0
OneIsValid = (contest : Contest) (c d : Certificate) → IsValid contest c → IsValid contest d → c ≡ d

-- the elected and the substitutes of a bloc with a seat are all its candidates, each once
abbrev pub ElectedAndSubstitutesAreAll : Type 0
ElectedAndSubstitutesAreAll = (qe : ℕ) (awards : List Award) (p : Contestant) → 1 ≤ seats_after qe awards p
    → IsPermutation (map (λ c. c.number) p.candidates) (elected_of qe awards p ++ map (λ s. s.number) (substitutes_of qe awards p))

-- ---- texts

-- each text spells a certificate, or has a first bad line
abbrev pub SpellsOrBad : Type 0
SpellsOrBad = (bytes : List ℕ) → ((code : ℕ) × (c : Certificate) × Spells bytes code c) ⊎ ((k : ℕ) × IsFirstBadLine bytes k)

-- and never both
abbrev pub NotSpelledAndBad : Type 0
NotSpelledAndBad = (bytes : List ℕ) (code : ℕ) (c : Certificate) (k : ℕ) → Spells bytes code c → IsFirstBadLine bytes k → ⊥

-- it spells one certificate at most
abbrev pub SpellsOne : Type 0
SpellsOne = (bytes : List ℕ) (m n : ℕ) (c d : Certificate) → Spells bytes m c → Spells bytes n d → (m ≡ n) × (c ≡ d)

-- and has one first bad line at most
abbrev pub OneBadLine : Type 0
OneBadLine = (bytes : List ℕ) (j k : ℕ) → IsFirstBadLine bytes j → IsFirstBadLine bytes k → j ≡ k

-- the text of a certificate has at most 1,048,576 bytes
abbrev pub TextIsShort : Type 0
TextIsShort = (code : ℕ) (c : Certificate) → HasText code c → length (certificate_text code c) ≤ 1048576

-- a valid certificate of a contest of few blocs has a text
abbrev pub ValidHasText : Type 0
ValidHasText = (contest : Contest) (c : Certificate) (code : ℕ) → IsContest contest → HasFewBlocs contest → code_proportional code ≡ true → IsValid contest c → HasText code c

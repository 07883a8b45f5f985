-- The ten lines that tell a rehearsal (docs/FORMATS.md, "The rehearsal"), each with its line feed.
use Rattle.std.specs.Prelude.{◌≡◌, ℕ, ◌-◌, nat_lt, if◌then◌else◌, true, List, [], ◌∷◌, ◌++◌, codes, count_by, length}
use Rattle.std.specs.Fmt.{decimal}
use Rattle.std.specs.List.{flat_map, range_with_len}
use Rattle.urna_base.specs.Words.{pieces}
use Rattle.urna_base.specs.Lines.{number_line, two_number_line, word_line}
use Rattle.election_tables.specs.TablesData.{TablesData}
use Rattle.vote_kinds.specs.Ballot.{panel_at}
use Rattle.poll_report.specs.declared.report.Report.{Report}
use Rattle.qr_text.specs.Spelling.{report_text}
use Rattle.hash_chain.specs.Cut.{cut}
use Rattle.seat_remainders.specs.Majority.{majority_outcome}
use Rattle.seat_remainders.specs.Outcome.{IsOutcome}
use Rattle.seat_remainders.specs.declared.outcome.MajorityOutcome.{MajorityOutcome}
use Rattle.seat_remainders.specs.declared.outcome.MajorityOutcome.TheVariants as majority
use Rattle.seat_remainders.specs.declared.outcome.Outcome.{Outcome}
use Rattle.seat_remainders.specs.declared.outcome.Outcome.TheVariants as outcome
use Rattle.seat_remainders.specs.declared.outcome.PartySeats.{PartySeats}
use Rattle.totals.specs.Contest.{contest_in, entries_in, votes_in}
use Rattle.totals.specs.Lines.{valid_of}
use Rattle.totals.specs.declared.votes.PanelVotes.{PanelVotes}
use Rattle.rehearsal.specs.Typing.{is_suspended}

-- how many of so many voters the clerk suspends
abbrev pub suspended_among : ℕ → ℕ
suspended_among voters = count_by is_suspended (range_with_len 0 voters)

-- the votes of an office, by its code
abbrev pub votes_line : ℕ → PanelVotes → List ℕ
votes_line code v =
    codes "CARGO " ++ decimal code ++ codes " VALIDOS " ++ decimal (valid_of v) ++ codes " BRANCOS " ++ decimal v.blank
    ++ codes " NULOS " ++ decimal v.null_votes ++ 10 ∷ []

-- ---- councillor

-- the electoral quotient, and the vacant ones of the 9 seats
abbrev pub seats_line : ℕ → ℕ → List ℕ
seats_line quotient vacant = two_number_line (codes "CARGO 13 QUOCIENTE ") quotient (codes " VAGAS 9 VACANTES ") vacant

-- that; or that there is no quotient, for so many valid votes; or that the first phase
-- comes to more seats than there are
abbrev pub quotient_line : Outcome → List ℕ
quotient_line (outcome.Seats s) = seats_line s.quotient s.vacant
quotient_line (outcome.NoQuotient valid seats) = two_number_line (codes "CARGO 13 SEM QUOCIENTE ") valid (codes " ") seats
quotient_line (outcome.Over first seats) = two_number_line (codes "CARGO 13 QUOCIENTE EXCEDIDO ") first (codes " ") seats

-- what each party has, rising by number, where seats are given
abbrev pub parties_in : Outcome → List PartySeats
parties_in (outcome.Seats s) = s.parties
parties_in (outcome.NoQuotient valid seats) = []
parties_in (outcome.Over first seats) = []

-- a party and its seats, if it has any
abbrev pub seats_words : ℕ → ℕ → List ℕ
seats_words party seats = if nat_lt 0 seats then codes " " ++ decimal party ++ codes ":" ++ decimal seats else []

-- parties, those that have seats
abbrev pub elected_words : List PartySeats → List ℕ
elected_words parties = flat_map (λ p. seats_words p.number p.seats) parties

-- the parties with seats
abbrev pub elected_line : Outcome → List ℕ
elected_line o = codes "CARGO 13 ELEITOS" ++ elected_words (parties_in o) ++ 10 ∷ []

-- ---- mayor

-- who is elected, or the two who go to a second turn
abbrev pub mayor_line : MajorityOutcome → List ℕ
mayor_line (majority.Elected number) = number_line (codes "CARGO 11 ELEITO ") number
mayor_line (majority.Runoff first second) = two_number_line (codes "CARGO 11 SEGUNDO TURNO ") first (codes " ") second
mayor_line majority.Nobody = word_line (codes "CARGO 11 NINGUEM")

-- ---- all ten

-- of a poll of so many voters with this report, and this outcome of the contest for councillor
abbrev pub rehearsal_lines : ℕ → TablesData → Report → Outcome → List (List ℕ)
rehearsal_lines voters t r o =
    number_line (codes "ENSAIO ") voters
    ∷ number_line (codes "COMP ") r.came
    ∷ number_line (codes "FALT ") (r.able - r.came)
    ∷ number_line (codes "SUSPENSOS ") (suspended_among voters)
    ∷ votes_line 13 (votes_in (r ∷ []) 0)
    ∷ quotient_line o
    ∷ elected_line o
    ∷ votes_line 11 (votes_in (r ∷ []) 1)
    ∷ mayor_line (majority_outcome (entries_in (r ∷ []) 1 (panel_at t 1)) true)
    ∷ number_line (codes "PARTES ") (length (cut (pieces (report_text r))))
    ∷ []

-- These lines tell the rehearsal of so many voters, by the report of its poll and by the law of seats over that report.
pub record TellRehearsal (voters : ℕ) (t : TablesData) (r : Report) (lines : List (List ℕ)) : Type 0 where
  pub seats : Outcome
  pub lawful : IsOutcome (contest_in t (r ∷ []) 0) seats
  pub all : lines ≡ rehearsal_lines voters t r seats

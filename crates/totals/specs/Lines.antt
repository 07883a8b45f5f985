-- The lines of the totals (docs/FORMATS.md, "Totals"), each with its line feed
use Rattle.std.specs.Prelude.{ℕ, ◌+◌, List, [], ◌∷◌, ◌++◌, codes, map, if◌then◌else◌}
use Rattle.std.specs.Fmt.{decimal}
use Rattle.urna_base.specs.Lines.{number_line, two_number_line, word_line}
use Rattle.election_tables.specs.TablesData.{TablesData, is_federation}
use Rattle.seat_remainders.specs.declared.contest.Entry.{Entry}
use Rattle.seat_remainders.specs.declared.outcome.Award.{Award}
use Rattle.seat_remainders.specs.declared.outcome.MajorityOutcome.{MajorityOutcome}
use Rattle.seat_remainders.specs.declared.outcome.MajorityOutcome.TheVariants as majority
use Rattle.seat_remainders.specs.declared.outcome.Outcome.{Outcome}
use Rattle.seat_remainders.specs.declared.outcome.Outcome.TheVariants as outcome
use Rattle.seat_remainders.specs.declared.outcome.PartySeats.{PartySeats}
use Rattle.seat_remainders.specs.declared.outcome.Seats.{Seats as SeatsData}
use Rattle.totals.specs.declared.votes.PanelVotes.{PanelVotes}

-- how many reports were accepted, and of how many sections
abbrev pub section_line : ℕ → ℕ → List ℕ
section_line accepted sections = two_number_line (codes "SECOES ") accepted (codes " DE ") sections

-- the valid votes, which are the nominal and the party votes
abbrev pub valid_of : PanelVotes → ℕ
valid_of v = v.nominal + v.party

-- and all votes
abbrev pub total_of : PanelVotes → ℕ
total_of v = valid_of v + (v.blank + v.null_votes)

-- the votes of an office
abbrev pub office_line : ℕ → PanelVotes → List ℕ
office_line code v =
    codes "CARGO " ++ decimal code ++ codes " VALIDOS " ++ decimal (valid_of v) ++ codes " NOMINAIS " ++ decimal v.nominal
    ++ codes " LEGENDA " ++ decimal v.party ++ codes " BRANCOS " ++ decimal v.blank ++ codes " NULOS " ++ decimal v.null_votes
    ++ codes " TOTAL " ++ decimal (total_of v) ++ 10 ∷ []

-- a candidate and the nominal votes
abbrev pub candidate_line : Entry → List ℕ
candidate_line c = two_number_line (codes "CANDIDATO ") c.number (codes " VOTOS ") c.votes

-- ---- a majority office

-- what comes of it
abbrev pub majority_line : MajorityOutcome → List ℕ
majority_line (majority.Elected number) = number_line (codes "ELEITO ") number
majority_line (majority.Runoff first second) = two_number_line (codes "SEGUNDO TURNO ") first (codes " ") second
majority_line majority.Nobody = word_line (codes "NINGUEM")

-- whom the simple rule elects: a line for each of them, in order, or that there is nobody
abbrev pub simple_lines : List ℕ → List (List ℕ)
simple_lines [] = word_line (codes "NINGUEM") ∷ []
simple_lines (n ∷ ns) = map (number_line (codes "ELEITO ")) (n ∷ ns)

-- ---- a proportional office

-- the word for a bloc: a federation, or a party
abbrev pub bloc_word : TablesData → ℕ → List ℕ
bloc_word t bloc = if is_federation t.federations bloc then codes "FEDERACAO " else codes "PARTIDO "

-- what a bloc has: its valid votes, its quotient and its seats
abbrev pub bloc_line : TablesData → PartySeats → List ℕ
bloc_line t p =
    bloc_word t p.number ++ decimal p.number ++ codes " VOTOS " ++ decimal p.votes ++ codes " QP " ++ decimal p.quotient
    ++ codes " VAGAS " ++ decimal p.seats ++ 10 ∷ []

-- the seat of a round, by its number
abbrev pub award_line : TablesData → ℕ → Award → List ℕ
award_line t round award =
    codes "SOBRA " ++ decimal round ++ codes " FASE " ++ decimal award.phase ++ codes " " ++ bloc_word t award.party ++ decimal award.party
    ++ 10 ∷ []

-- of rounds, the first of which has this number
abbrev pub award_lines : TablesData → ℕ → List Award → List (List ℕ)
award_lines t round [] = []
award_lines t round (award ∷ awards) = award_line t round award ∷ award_lines t (round + 1) awards

-- one who is elected, and the nominal votes
abbrev pub elected_line : ℕ → ℕ → List ℕ
elected_line number votes = two_number_line (codes "ELEITO ") number (codes " VOTOS ") votes

-- of several, where each number has so many votes
abbrev pub elected_lines : (ℕ → ℕ) → List ℕ → List (List ℕ)
elected_lines votes numbers = map (λ number. elected_line number (votes number)) numbers

-- the seats that were given: the electoral quotient, the blocs, the rounds, the elected and the vacant seats
abbrev pub seats_lines : TablesData → (ℕ → ℕ) → SeatsData → List (List ℕ)
seats_lines t votes s =
    number_line (codes "QUOCIENTE ") s.quotient
    ∷ (map (bloc_line t) s.parties ++ (award_lines t 1 s.awards ++ (elected_lines votes s.elected ++ number_line (codes "VAGAS VAZIAS ") s.vacant ∷ [])))

-- what comes of its contest, where each number has so many votes
abbrev pub outcome_lines : TablesData → (ℕ → ℕ) → Outcome → List (List ℕ)
outcome_lines t votes (outcome.Seats s) = seats_lines t votes s
outcome_lines t votes (outcome.NoQuotient valid seats) = two_number_line (codes "SEM QUOCIENTE ") valid (codes " ") seats ∷ []
outcome_lines t votes (outcome.Over first seats) = two_number_line (codes "QUOCIENTE EXCEDIDO ") first (codes " ") seats ∷ []

-- What is so of all totals
use Rattle.std.specs.Prelude.{◌≡◌, ◌==◌, ℕ, ◌<◌, ◌≤◌, Bool, false, IsTrue, List, [], ◌∷◌, count_by, filter, length, map, min, nat_eq, nat_lt}
use Rattle.std.specs.List.{All, AllByRecursion, Any, Contains, flat_map, list_any}
use Rattle.election_tables.specs.TablesData.{IsTables, TablesData, bloc_of}
use Rattle.election_tables.specs.Fields.{first_two}
use Rattle.election_tables.specs.declared.tables.panels.Panel.{Panel}
use Rattle.election_tables.specs.declared.tables.parties.Party.{Party}
use Rattle.poll_report.specs.declared.report.Report.{Report}
use Rattle.vote_kinds.specs.Ballot.{is_proportional, line_of, panel_at}
use Rattle.section_intake.specs.Fits.{Fits}
use Rattle.section_intake.specs.Sums.{all_sum, party_sum}
use Rattle.seat_remainders.specs.Majority.{majority_outcome}
use Rattle.seat_remainders.specs.Outcome.{AreSeats, elected_of}
use Rattle.seat_remainders.specs.Parties.{nominal_votes, valid_votes}
use Rattle.seat_remainders.specs.declared.contest.Contestant.{Contestant}
use Rattle.seat_remainders.specs.declared.contest.Entry.{Entry}
use Rattle.seat_remainders.specs.declared.outcome.MajorityOutcome.{MajorityOutcome}
use Rattle.seat_remainders.specs.declared.outcome.MajorityOutcome.TheVariants as majority
use Rattle.seat_remainders.specs.declared.outcome.Seats.{Seats as SeatsData}
use Rattle.totals.specs.Contest.{blocs_of, contest_in, contestant_in, entries_in, parties_of, votes_in}
use Rattle.totals.specs.Lines.{total_of, valid_of}
use Rattle.totals.specs.Simple.{elected_simply}
use Rattle.totals.specs.Totals.{AreTotals}

-- over each list of reports there are totals,
abbrev pub SomeTotals : Type 0
SomeTotals = (t : TablesData) (reports : List Report) → (lines : List (List ℕ)) × AreTotals t reports lines

-- and no others
abbrev pub OneTotals : Type 0
OneTotals = (t : TablesData) (reports : List Report) (lines others : List (List ℕ)) → AreTotals t reports lines → AreTotals t reports others → lines ≡ others

-- ---- the votes of an office

-- TOTAL is the number of all votes that the reports have in the panel
abbrev pub TotalIsAllVotes : Type 0
TotalIsAllVotes = (reports : List Report) (panel : ℕ) → total_of (votes_in reports panel) ≡ all_sum panel reports

-- Over reports that fit the tables the nominal votes are those of the candidates,
abbrev pub CandidatesHaveNominalVotes : Type 0
CandidatesHaveNominalVotes = (t : TablesData) (reports : List Report) (panel : ℕ) → IsTables t → AllByRecursion (Fits t) reports → panel < length t.panels
    → nominal_votes (entries_in reports panel (panel_at t panel)) ≡ (votes_in reports panel).nominal

-- the valid votes are those of the contest, so that each candidate and each party is counted for one bloc alone,
abbrev pub ContestHasValidVotes : Type 0
ContestHasValidVotes = (t : TablesData) (reports : List Report) (panel : ℕ) → IsTables t → AllByRecursion (Fits t) reports → panel < length t.panels
    → valid_votes (contest_in t reports panel).parties ≡ valid_of (votes_in reports panel)

-- and a majority office has no party votes
abbrev pub MajorityHasNoPartyVotes : Type 0
MajorityHasNoPartyVotes = (t : TablesData) (reports : List Report) (panel : ℕ) → AllByRecursion (Fits t) reports
    → is_proportional (panel_at t panel).office.kind ≡ false → (votes_in reports panel).party ≡ 0

-- ---- the blocs

-- each party of the tables is of exactly one bloc;
abbrev pub EachPartyHasOneBloc : Type 0
EachPartyHasOneBloc = (t : TablesData) (party : ℕ) → IsTables t → IsTrue (list_any (λ q. q.number == party) t.parties)
    → count_by (λ bloc. list_any (nat_eq party) (parties_of t bloc)) (blocs_of t) ≡ 1

-- a party with its party votes and its candidates in the panel
abbrev pub party_in : List Report → ℕ → Panel → Party → Contestant
party_in reports panel p q = record {
  number = q.number;
  party_votes = party_sum panel q.number reports;
  candidates = filter (λ c. first_two p.office.digits c.number == q.number) (entries_in reports panel p);
}

-- without federations the contest is that of the parties
abbrev pub WithoutFederations : Type 0
WithoutFederations = (t : TablesData) (reports : List Report) (panel : ℕ) → IsTables t → t.federations ≡ []
    → (contest_in t reports panel).parties ≡ map (party_in reports panel (panel_at t panel)) t.parties

-- ---- the elected

-- whoever has a seat is a candidate of the office,
abbrev pub SeatsAreOfCandidates : Type 0
SeatsAreOfCandidates = (t : TablesData) (reports : List Report) (panel : ℕ) (s : SeatsData) → AreSeats (contest_in t reports panel) s
    → All (Contains (line_of t panel).candidates) s.elected

-- and of a party of the bloc that has it: the elected stand bloc by bloc,
abbrev pub SeatsAreOfBlocs : Type 0
SeatsAreOfBlocs = (t : TablesData) (reports : List Report) (panel : ℕ) (s : SeatsData) → AreSeats (contest_in t reports panel) s
    → (own : ℕ → List ℕ) × (s.elected ≡ flat_map own (blocs_of t))
    × ((bloc : ℕ) → (own bloc ≡ elected_of s.quotient s.awards (contestant_in t reports panel (panel_at t panel) bloc))
    × All (λ number. bloc_of t.federations (first_two (panel_at t panel).office.digits number) ≡ bloc) (own bloc))

-- and nobody has two
abbrev pub NobodyHasTwoSeats : Type 0
NobodyHasTwoSeats = (t : TablesData) (reports : List Report) (panel number : ℕ) (s : SeatsData) → IsTables t → panel < length t.panels
    → AreSeats (contest_in t reports panel) s → count_by (λ n. number == n) s.elected ≤ 1

-- whom a majority office elects, or sends to a second round
abbrev pub named_by : MajorityOutcome → List ℕ
named_by (majority.Elected number) = number ∷ []
named_by (majority.Runoff first second) = first ∷ second ∷ []
named_by majority.Nobody = []

-- they too are candidates of the office
abbrev pub MajorityIsOfCandidates : Type 0
MajorityIsOfCandidates = (t : TablesData) (reports : List Report) (panel : ℕ) (absolute : Bool)
    → All (Contains (line_of t panel).candidates) (named_by (majority_outcome (entries_in reports panel (panel_at t panel)) absolute))

-- ---- by the simple rule

-- to one seat it elects whom `majority` elects by it;
abbrev pub OneSeatByMajority : Type 0
OneSeatByMajority = (candidates : List Entry) → elected_simply 1 candidates ≡ named_by (majority_outcome candidates false)

-- to any number of seats it elects candidates of the office,
abbrev pub ElectedAreCandidates : Type 0
ElectedAreCandidates = (t : TablesData) (reports : List Report) (panel seats : ℕ)
    → All (Contains (line_of t panel).candidates) (elected_simply seats (entries_in reports panel (panel_at t panel)))

-- nobody twice,
abbrev pub NobodyIsElectedTwice : Type 0
NobodyIsElectedTwice = (t : TablesData) (reports : List Report) (panel seats number : ℕ) → IsTables t → panel < length t.panels
    → count_by (λ n. number == n) (elected_simply seats (entries_in reports panel (panel_at t panel))) ≤ 1

-- and nobody without a vote;
abbrev pub ElectedHaveVotes : Type 0
ElectedHaveVotes = (seats : ℕ) (candidates : List Entry)
    → All (λ number. Any (λ c. (c.number ≡ number) × (0 < c.votes)) candidates) (elected_simply seats candidates)

-- they are as many as there are seats, and all who have a vote where these are fewer
abbrev pub SeatsAreTaken : Type 0
SeatsAreTaken = (seats : ℕ) (candidates : List Entry) → length (elected_simply seats candidates) ≡ min seats (count_by (λ c. nat_lt 0 c.votes) candidates)

-- The contests that the law is applied to
use Rattle.std.specs.Prelude.{◌≤◌, ◌^◌, List, [], ◌∷◌, ◌++◌, map}
use Rattle.std.specs.List.Sorted.{IsStrictlyIncreasing}
use Rattle.seat_remainders.specs.declared.contest.Contestant.{Contestant}
use Rattle.seat_remainders.specs.declared.contest.Contest.{Contest}
use Rattle.seat_remainders.specs.declared.contest.Entry.{Entry}
use Rattle.seat_remainders.specs.Parties.{valid_votes}

-- a party that a candidate has joined, behind its others
abbrev pub joined_by : Entry → Contestant → Contestant
joined_by c p = record { number = p.number; party_votes = p.party_votes; candidates = p.candidates ++ c ∷ [] }

-- parties rise by number; none stands twice
abbrev pub PartiesRise : List Contestant → Type 0
PartiesRise parties = IsStrictlyIncreasing (map (λ p. p.number) parties)

-- a proportional office: 1 to 200 seats, parties that rise, and at most 10^12 valid votes
pub record IsContest (contest : Contest) : Type 0 where
  pub some : 1 ≤ contest.seats
  pub few : contest.seats ≤ 200
  pub rising : PartiesRise contest.parties
  pub votes : valid_votes contest.parties ≤ 10 ^ 12

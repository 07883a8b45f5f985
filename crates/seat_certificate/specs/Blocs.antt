-- Blocs between two rounds, as the code keeps them: each is counted before the first one, and then only its seats change.
use Rattle.std.specs.Prelude.{◌≡◌, ℕ, ◌+◌, ◌==◌, Bool, false, nat_lt, if◌then◌else◌, List, map, filter}
use Rattle.std.specs.List.{AllByRecursion, Contains, list_any}
use Rattle.quotients.specs.Average.{AverageData, comes_before}
use Rattle.seat_remainders.specs.declared.contest.Contestant.{Contestant}
use Rattle.seat_remainders.specs.declared.outcome.Award.{Award}
use Rattle.seat_remainders.specs.Rounds.{seats_after}
use Rattle.seat_remainders.specs.Standing.{most_by, standing_of}
use Rattle.seat_certificate.specs.declared.blocs.Bloc.{Bloc}
use Rattle.seat_certificate.specs.declared.certificate.Round.{Round}

-- a bloc after these awards
abbrev pub bloc_after : ℕ → List Award → Contestant → Bloc
bloc_after qe awards p = record { standing = standing_of qe p; seats = seats_after qe awards p }

-- and all blocs of a contest
abbrev pub blocs_after : ℕ → List Award → List Contestant → List Bloc
blocs_after qe awards parties = map (bloc_after qe awards) parties

-- a bloc competes in a round of this phase: it has fewer seats than it can have at most
abbrev pub competes : ℕ → Bloc → Bool
competes phase b = nat_lt b.seats (most_by phase b.standing)

-- its next average
abbrev pub next_average : Bloc → AverageData
next_average b = record { votes = b.standing.votes; divisor = b.seats + 1; party = b.standing.party }

-- the averages of the blocs that compete
abbrev pub averages_of : ℕ → List Bloc → List AverageData
averages_of phase blocs = map next_average (filter (competes phase) blocs)

-- the phase of the round that follows
abbrev pub phase_of : List Bloc → ℕ
phase_of blocs = if list_any (competes 2) blocs then 2 else 3

-- none of these averages comes before this one
abbrev pub Unbeaten : List AverageData → AverageData → Type 0
Unbeaten averages own = AllByRecursion (λ a. comes_before a own ≡ false) averages

-- a bloc has one of these averages, and none of them comes before that
abbrev pub TakesSeatOf : List AverageData → ℕ → Type 0
TakesSeatOf averages party = (own : AverageData) × Contains averages own × (own.party ≡ party) × Unbeaten averages own

-- a round is the one that follows: it has their phase, the averages that compete, and the bloc that takes the seat among them
pub record IsNext (blocs : List Bloc) (r : Round) : Type 0 where
  pub phase : r.phase ≡ phase_of blocs
  pub averages : r.averages ≡ averages_of r.phase blocs
  pub seat : TakesSeatOf r.averages r.party

-- a bloc behind a round that the bloc with this number takes
abbrev pub seated : ℕ → Bloc → Bloc
seated party b = record { standing = b.standing; seats = if b.standing.party == party then b.seats + 1 else b.seats }

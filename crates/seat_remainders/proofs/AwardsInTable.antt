-- The awards of seats are those of the averages behind them.
use Rattle.std.proofs.Common.{◌≡◌, ℕ, ◌-◌, List, [], ◌∷◌, ◌++◌, length, take, refl, subst, arith}
use Rattle.std.specs.List.{AllByRecursion}
use Rattle.quotients.specs.Average.{AverageData}
use Rattle.seat_remainders.specs.declared.contest.Contest.{Contest}
use Rattle.seat_remainders.specs.declared.outcome.Award.{Award}
use Rattle.seat_remainders.specs.declared.outcome.Seats.{Seats as SeatsData}
use Rattle.seat_remainders.specs.Computed.{averages_in_order}
use Rattle.seat_remainders.specs.Contest.{PartiesRise}
use Rattle.seat_remainders.specs.Outcome.{AreSeats}
use Rattle.seat_remainders.specs.Parties.{quotient_of, first_phase}
use Rattle.seat_remainders.specs.Rounds.{AreRounds}
use Rattle.seat_remainders.specs.Table.{awards_for, entries_of, limit_of, seats_left}
use Rattle.seat_remainders.proofs.BothTables.{fronts_are_rounds}
use Rattle.seat_remainders.proofs.ComputedTable.{computed_is}
use Rattle.seat_remainders.proofs.OneOutcome.{one_rounds}
use Rattle.seat_remainders.proofs.Rising.{are_rising}

all_of_phase : (phase : ℕ) (averages : List AverageData) → AllByRecursion (λ (w : Award). w.phase ≡ phase) (awards_for phase averages)
all_of_phase phase [] = tt
all_of_phase phase (a ∷ averages) = (refl, all_of_phase phase averages)

pub awards_begin : (contest : Contest) (s : SeatsData) → PartiesRise contest.parties → AreSeats contest s
    → (later : List Award) × (s.awards ≡ awards_for 2 (take (seats_left contest) s.averages) ++ later) × AllByRecursion (λ award. award.phase ≡ 3) later
awards_begin contest s rise given =
    let qe = quotient_of contest in
    let left = seats_left contest in
    let before = awards_for 2 (take left s.averages) in
    let limit = limit_of qe 3 before (left - length before) in
    let three = averages_in_order (entries_of qe before limit contest.parties) in
    let rounds : AreRounds qe contest.parties left s.awards s.vacant =
    subst (λ (q : ℕ). AreRounds q contest.parties (contest.seats - first_phase q contest.parties) s.awards s.vacant) given.quotient given.rounds in
    let fronts = fronts_are_rounds qe contest.parties left s.averages three (omega (arith, given.some, given.quotient)) (are_rising contest.parties rise) given.averages (computed_is qe before limit contest.parties) in (
      awards_for 3 (take (left - length before) three),
      one_rounds qe contest.parties left _ _ _ _ rounds fronts,
      all_of_phase 3 (take (left - length before) three),
    )

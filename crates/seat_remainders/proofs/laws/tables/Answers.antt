use Rattle.seat_remainders.proofs.AwardsInTable.{awards_begin}
use Rattle.seat_remainders.proofs.BothTables.{fronts_are_rounds, next_of_table, none_in_two, phase_two_follows}
use Rattle.seat_remainders.proofs.OneTable.{none_left, one_list}
use Rattle.seat_remainders.proofs.Rising.{are_rising}
use Rattle.seat_remainders.specs.Parties.{quotient_of}
use Rattle.seat_remainders.specs.Table.{seats_left}
use Rattle.seat_remainders.proofs.laws.tables.Goals as goal

pub returns-clause-one : goal.returns-clause-one
returns-clause-one _ = one_list

pub returns-clause-none : goal.returns-clause-none
returns-clause-none _ = none_left

pub returns-clause-next : goal.returns-clause-next
returns-clause-next _ = next_of_table

pub returns-clause-phase_two : goal.returns-clause-phase_two
returns-clause-phase_two _ =
    λ contest averages some rise table. (
      phase_two_follows (quotient_of contest) contest.parties (seats_left contest) averages some (are_rising contest.parties rise) table,
      λ short. none_in_two (quotient_of contest) contest.parties (seats_left contest) averages some (are_rising contest.parties rise) table short,
    )

pub returns-clause-fronts : goal.returns-clause-fronts
returns-clause-fronts _ =
    λ contest two three some rise averages table. fronts_are_rounds (quotient_of contest) contest.parties (seats_left contest) two three some (are_rising contest.parties rise) averages table

pub returns-clause-awards : goal.returns-clause-awards
returns-clause-awards _ = awards_begin

use Rattle.std.proofs.Common.{◌≡◌, ◌∷◌, [], ◌++◌, map, List, inl, refl, sym, ap, subst, ◌∙◌}
use Rattle.seat_remainders.specs.Outcome.{IsOutcome}
use Rattle.seat_remainders.specs.declared.contest.Contest.{Contest}
use Rattle.seat_remainders.specs.declared.outcome.Outcome.{Outcome}
use Rattle.seat_remainders.specs.declared.outcome.Outcome.TheVariants as outcome
use Rattle.seat_remainders.specs.declared.outcome.Seats.{Seats as SeatsData}
use Rattle.seat_remainders.proofs.OneOutcome.{only_outcome}
use Rattle.seat_certificate.specs.declared.substitute.Substitute.{Substitute}
use Rattle.urna_commands.specs.Certifica.{HasNoSeats, certified_line, substitute_line}
use Rattle.urna_commands.proofs.certifica.lines_of.Goals as goal

-- where what comes of a contest isn't seats, no seats do
no_seats : (contest : Contest) (o : Outcome) → IsOutcome contest o → ((s : SeatsData) → ¬ (o ≡ outcome.Seats s)) → HasNoSeats contest
no_seats contest o is not s are = not s (only_outcome contest o is ∙ sym (only_outcome contest (outcome.Seats s) are))

pub returns-in_default : goal.returns-in_default
returns-in_default c = record { ok = tt; err = inl (refl, no_seats c.args.contest.now c.in_ok-seats.field-0 c.in_ok-seats.ensures c.in_default.not-Seats) }

pub returns-clause-ok : goal.returns-clause-ok
returns-clause-ok c = (
  c.in-Seats.seats,
  subst (IsOutcome c.args.contest.now) c.in-Seats.is c.in_ok-seats.ensures,
  c.in_ok-certified_lines.ensures ∙ ap (λ (l : List Substitute). map substitute_line l ++ certified_line c.args.code ∷ []) c.in_ok-substitutes.ensures,
)

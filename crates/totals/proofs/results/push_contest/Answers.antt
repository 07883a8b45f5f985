use Rattle.std.proofs.Common.{subst}
use Rattle.seat_remainders.specs.Outcome.{IsOutcome}
use Rattle.seat_remainders.specs.declared.contest.Contest.{Contest}
use Rattle.totals.proofs.LineLaws.{on_ok}
use Rattle.totals.proofs.results.push_contest.Goals as goal

pub returns : goal.returns
returns c =
    on_ok c.push_outcome.result
    (λ lines reports read. (
      c.in_ok-outcome.outcome,
      subst (λ (k : Contest). IsOutcome k c.in_ok-outcome.outcome) (c.in_ok-contest.ensures.contest reports read) c.in_ok-outcome.ensures,
      lines reports read,
    ))
    c.push_outcome.ensures

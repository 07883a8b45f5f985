use Rattle.std.proofs.Common.{refl, sym, ◌∙◌, subst}
use Rattle.seat_remainders.specs.declared.outcome.Outcome.{Outcome}
use Rattle.seat_remainders.specs.declared.outcome.Outcome.TheVariants as outcome
use Rattle.seat_remainders.specs.Outcome.{IsOutcome}
use Rattle.seat_remainders.proofs.OneOutcome.{only_outcome}
use Rattle.seat_certificate.proofs.certified.certify.Goals as goal

pub returns-in-Over-clause-none : goal.returns-in-Over-clause-none
returns-in-Over-clause-none c =
    let is = subst (λ (o : Outcome). IsOutcome c.args.contest.now o) c.in-Over.is c.in_ok-seats.ensures in (
      (λ _ s given.
          let same = only_outcome c.args.contest.now (outcome.Over c.in-Over.first c.in-Over.seats) is ∙ sym (only_outcome c.args.contest.now (outcome.Seats s) given) in
          absurd (cc)),
      (λ _. refl),
    )

use Rattle.std.proofs.Common.{List, sum_by, refl, ap, ◌∙◌, arith}
use Rattle.seat_remainders.specs.declared.standing.Standing.{Standing}
use Rattle.seat_remainders.proofs.Results.{seats_given}
use Rattle.seat_remainders.proofs.distribution.distribute.Goals as goal

pub returns : goal.returns
returns c =
    let contest = c.args.contest.now in
    let qe = c.quotient-qe.result in
    let e = c.in_ok-seats.ensures in
    let counted = c.in_ok-standings.ensures.counted in
    let first = c.first_phase-first.ensures ∙ ap (λ (l : List Standing). sum_by (λ (s : Standing). s.first) l) c.deref.ensures.value ∙ c.in_ok-standings.ensures.first in
    seats_given contest c.in_ok-seats.seats qe c.valid_votes-valid.result c.first_phase-first.result _ c.in_ok-awards.awards c.in_ok-averages.averages c.valid_votes-valid.ensures c.quotient-qe.ensures
    (omega (arith, c.if-qe-eq0.false)) first (omega (arith, c.if-first-from.false, c.from.ensures)) refl (c.in_ok-averages.ensures qe contest.parties c.requires.rising (c.deref-2.ensures.value ∙ counted))
    (c.in_ok-awards.ensures qe contest.parties (omega (arith, c.if-qe-eq0.false)) c.requires.rising (c.deref-3.ensures.value ∙ counted)) e.quotient e.parties e.awards e.elected e.averages e.vacant

use Rattle.std.proofs.Common.{◌++◌, List, take, ap, ◌∙◌, arith}
use Rattle.seat_remainders.specs.declared.outcome.Award.{Award}
use Rattle.seat_remainders.specs.Table.{awards_for}
use Rattle.seat_remainders.proofs.BothTables.{both_taken, first_enough}
use Rattle.seat_remainders.proofs.awards.award_seats.Goals as goal

pub returns-then-vacant-eq0 : goal.returns-then-vacant-eq0
returns-then-vacant-eq0 c =
    λ qe parties some rise is.
    first_enough qe parties c.args.left c.args.averages.now c.push_awards.new.awards some rise (c.requires.table qe parties rise is)
    (c.in_ok-push_awards.ensures ∙ ap (λ (l : List Award). l ++ awards_for 2 (take c.args.left c.args.averages.now)) c.new-awards.ensures) (omega (arith, c.len.ensures, c.if-vacant-eq0.true))

pub returns : goal.returns
returns c =
    λ qe parties some rise is.
    both_taken qe parties c.args.left c.len.result c.args.averages.now c.in_ok-third.third c.push_awards.new.awards c.as_slice.result.now c.push_awards-2.new.awards some rise (c.requires.table qe parties rise is)
    (c.in_ok-push_awards.ensures ∙ ap (λ (l : List Award). l ++ awards_for 2 (take c.args.left c.args.averages.now)) c.new-awards.ensures) c.as_slice.ensures.items c.len.ensures (c.in_ok-third.ensures qe parties rise is)
    c.in_ok-push_awards-2.ensures

use Rattle.std.proofs.Common.{◌++◌, List, ap, ◌∙◌, arith}
use Rattle.quotients.specs.Average.{AverageData}
use Rattle.quotients.specs.Order.{parts_of}
use Rattle.seat_remainders.specs.Table.{awards_for}
use Rattle.seat_remainders.proofs.BothTables.{pushed_award, all_taken}
use Rattle.seat_remainders.proofs.awards.push_awards.Goals as goal

pub loop-i-preserved : goal.loop-i-preserved
loop-i-preserved c =
    c.in_ok-push.ensures.pushed
    ∙ pushed_award c.args.awards.now c.loop-i.awards c.args.phase c.args.averages.now c.loop-i.i (parts_of c.get.result.now) c.party-party.result c.loop-i.invariant c.get.ensures c.party-party.ensures

pub returns : goal.returns
returns c =
    c.loop-i.invariant
    ∙ ap (λ (l : List AverageData). c.args.awards.now ++ awards_for c.args.phase l) (all_taken c.args.averages.now c.loop-i.i c.args.seats (omega (arith, c.loop-i-test.false, c.loop-i.auto.i-end, c.min-i-end.ensures, c.len.ensures)))

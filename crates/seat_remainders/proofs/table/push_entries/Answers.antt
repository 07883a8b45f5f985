use Rattle.std.proofs.Common.{◌==◌, ◌+◌, List, inl, ap, ◌∙◌, map, count_by, arith}
use Rattle.quotients.specs.Order.{parts_of}
use Rattle.quotients.specs.declared.average.Average.{Average}
use Rattle.seat_remainders.specs.declared.standing.Standing.{Standing}
use Rattle.seat_remainders.specs.Standing.{most_by}
use Rattle.seat_remainders.proofs.MadeTable.{parts_are, pushed_more, all_pushed}
use Rattle.seat_remainders.proofs.table.push_entries.Goals as goal

pub loop-seats-preserved : goal.loop-seats-preserved
loop-seats-preserved c =
    record {
      pushed = λ qe p is.
          let part = parts_are c.new.result p c.args.standing.now.votes c.loop-seats.seats c.new.ensures.votes (ap (λ (s : Standing). s.votes) is) c.new.ensures.divisor (c.new.ensures.party ∙ ap (λ (s : Standing). s.party) is) in
          ap (λ (l : List Average). map parts_of l) c.in_ok-push.ensures.items
          ∙ pushed_more c.args.entries.now.items c.loop-seats.entries.items c.new.result p c.seats_after-first.result c.loop-seats.seats (c.loop-seats.invariant.pushed qe p is) c.loop-seats.auto.seats part;
      count = omega (arith, c.loop-seats.invariant.count, c.in_ok-push.ensures.len, c.loop-seats.auto.seats);
      within = inl (omega (arith, c.loop-seats-test.true));
    }

pub returns-clause-pushed : goal.returns-clause-pushed
returns-clause-pushed c =
    λ qe p is.
    let first = c.seats_after-first.ensures ∙ ap (λ (s : Standing). s.first + count_by (λ w. w.party == s.party) c.args.awards.now) is in
    let most = c.most_seats.ensures ∙ ap (λ (s : Standing). most_by c.args.phase s) is in
    all_pushed qe c.args.phase c.args.left c.args.awards.now _ _ p _ _ _ (c.loop-seats.invariant.pushed qe p is) c.loop-seats.invariant.within c.loop-seats-test.false c.loop-seats.auto.seats first
    (omega (arith, c.min-limit.ensures, most))

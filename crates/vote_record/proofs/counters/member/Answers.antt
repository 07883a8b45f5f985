use Rattle.std.proofs.Common.{sym, ◌∙◌}
use Rattle.vote_record.proofs.StoredCounters.{found_here, found_later, within_later}
use Rattle.vote_record.proofs.counters.member.Goals as goal

pub returns-then-left-counter : goal.returns-then-left-counter
returns-then-left-counter c =
    sym c.loop-counter.invariant.same ∙ found_here c.args.counters.now c.loop-counter.counter-index c.loop-counter.left _ c.loop-counter-test.true c.if-left-counter.true

pub loop-counter-preserved : goal.loop-counter-preserved
loop-counter-preserved c =
    let counters = c.args.counters.now in
    let k = c.loop-counter.counter-index in
    let left = c.loop-counter.left in
    record {
      same = found_later counters k left _ c.loop-counter-test.true c.if-left-counter.false ∙ c.loop-counter.invariant.same;
      within = within_later counters k left _ c.loop-counter-test.true c.if-left-counter.false c.loop-counter.invariant.within;
    }

use Rattle.std.proofs.Common.{List, sym, ◌∙◌, ap, arith, length, length-append}
use Rattle.poll_report.specs.Report.{digits_in, votes_of}
use Rattle.poll_report.specs.declared.report.Count.{Count}
use Rattle.qr_text.proofs.VoteLaws.{votes_some, votes_none, votes_snoc}
use Rattle.qr_text.proofs.votes.read_votes.Goals as goal
use Rattle.qr_text.specs.Sections.{FieldsLeft}
use Rattle.qr_text.specs.Votes.{votes_reading}

pub overflow_add-votes : goal.overflow_add-votes
overflow_add-votes c = omega (arith, c.loop-count.invariant.few, c.loop-count.invariant.short, c.in-Some.ensures.few, c.in-Some.ensures.one)

pub push-requires : goal.push-requires
push-requires c = omega (arith, c.loop-count.invariant.fewer, c.loop-count.invariant.short, c.in-Some.ensures.one)

pub loop-count-preserved : goal.loop-count-preserved
loop-count-preserved c =
    let first = rw c.digits_in-digits.ensures.digits at c.in-Some.ensures.exact in
    let pushed = ap (λ (cs : List Count). votes_of cs) c.in_ok-push.ensures.pushed ∙ votes_snoc c.loop-count.counts c.in-Some.count in
    record {
      same =
          c.loop-count.invariant.same
          ∙ (votes_some (digits_in c.args.code) c.args.party c.loop-count.last c.loop-count.counts c.loop-count.reader c.in-Some.count c.try_vote.new.self first
          ∙ ap (λ (cs : List Count). votes_reading (digits_in c.args.code) c.args.party c.in-Some.count.number cs c.try_vote.new.self) (sym c.in_ok-push.ensures.pushed));
      votes = omega (arith, c.loop-count.invariant.votes, pushed, c.from-votes.ensures);
      few = omega (arith, c.loop-count.invariant.few, c.in-Some.ensures.few, c.in-Some.ensures.one, c.from-votes.ensures);
      short = c.loop-count.invariant.short;
      fewer = omega (arith, c.loop-count.invariant.fewer, c.in-Some.ensures.one, ap length c.in_ok-push.ensures.pushed, length-append {A = Count});
    }

pub returns-clause-exact : goal.returns-clause-exact
returns-clause-exact c =
    c.loop-count.invariant.same
    ∙ (votes_none (digits_in c.args.code) c.args.party c.loop-count.last c.loop-count.counts c.loop-count.reader (rw c.digits_in-digits.ensures.digits at c.in_default.ensures.exact.0)
    ∙ ap (λ (s : FieldsLeft). (c.loop-count.counts, s)) (sym c.in_default.ensures.exact.1))

use Rattle.std.proofs.Common.{ℕ, ◌+◌, ◌-◌, List, sym, ap, ◌∙◌, is_some, arith}
use Rattle.vote_kinds.specs.Ballot.{BallotLine, line_of}
use Rattle.image_codec.specs.DecodedVotes.{votes_in}
use Rattle.image_codec.proofs.ReadParts.{votes_none, votes_more, votes_missing}
use Rattle.image_codec.proofs.codec.votes.has_bag.Goals as goal

pub returns-in-None : goal.returns-in-None
returns-in-None c =
    sym (votes_missing (line_of c.args.tables.now c.args.panel) c.loop.before c.args.count c.loop.counter c.loop.rest.now c.loop-test.true (sym c.vote_in.ensures ∙ c.in-None.is))
    ∙ c.loop.invariant.same

pub loop-preserved : goal.loop-preserved
loop-preserved c =
    let line : BallotLine = line_of c.args.tables.now c.args.panel in
    let i : ℕ = c.loop.counter in
    record {
      long = omega (arith, c.split_at-in-loop.ensures.back_len);
      same =
          ap (λ (t : List ℕ). is_some (votes_in line c.in-Some.choice (c.args.count - (i + 1)) t)) c.split_at-in-loop.ensures.back
          ∙ sym (votes_more line c.loop.before c.in-Some.choice c.args.count i c.loop.rest.now c.loop-test.true (sym c.vote_in.ensures ∙ c.in-Some.is))
          ∙ c.loop.invariant.same;
    }

pub returns : goal.returns
returns c =
    sym (votes_none (line_of c.args.tables.now c.args.panel) c.loop.before c.args.count c.loop.counter c.loop.rest.now (omega arith))
    ∙ c.loop.invariant.same

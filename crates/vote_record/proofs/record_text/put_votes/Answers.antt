use Rattle.vote_record.specs.Bag.{bag_at}
use Rattle.vote_record.specs.RecordText.{vote_line}
use Rattle.vote_record.proofs.TextLaws.{one_more}
use Rattle.vote_record.proofs.record_text.put_votes.Goals as goal

pub loop-i-preserved : goal.loop-i-preserved
loop-i-preserved c =
    one_more vote_line (bag_at c.args.votes.now.bags c.args.panel) c.loop-i.i c.vote.result _ _ _ c.vote.ensures c.loop-i.invariant
    c.in_ok-put_vote.ensures

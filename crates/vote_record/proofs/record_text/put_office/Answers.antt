use Rattle.vote_record.proofs.TextLaws.{office_joined}
use Rattle.vote_record.proofs.record_text.put_office.Goals as goal

pub returns : goal.returns
returns c =
    office_joined c.args.code c.args.votes c.args.out.now.items _ _ _ (rw c.from.ensures at c.in_ok-put_numbered.ensures)
    (rw c.from-2.ensures at c.in_ok-put_numbered-2.ensures)
    c.in_ok-push.ensures.items

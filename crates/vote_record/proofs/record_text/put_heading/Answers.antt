use Rattle.vote_record.proofs.TextLaws.{heading_joined}
use Rattle.vote_record.proofs.record_text.put_heading.Goals as goal

pub returns : goal.returns
returns c =
    let t = c.args.tables.now in
    let section = c.args.section in
    heading_joined t.process t.date t.turn section.zone section.number c.args.out.now.items _ _ _ _ _ _ _
    (rw (c.from.ensures, c.process.ensures) at c.in_ok-put_numbered.ensures)
    c.in_ok-extend_from_slice.ensures.items
    (rw (c.from-2.ensures, c.date.ensures) at c.in_ok-put_digits.ensures.ok)
    (rw (c.from-3.ensures, c.turn.ensures) at c.in_ok-put_numbered-2.ensures)
    (rw c.from-4.ensures at c.in_ok-put_numbered-3.ensures) (rw c.from-5.ensures at c.in_ok-put_numbered-4.ensures) c.in_ok-push.ensures.items

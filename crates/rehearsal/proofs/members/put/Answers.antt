use Rattle.rehearsal.proofs.Inserted.{members_view-insert}
use Rattle.rehearsal.proofs.members.put.Goals as goal

pub returns : goal.returns
returns c = rw (c.in_ok-insert.ensures.entries, members_view-insert c.args.table.now.entries c.in_ok-key.key c.args.value, c.in_ok-key.ensures.ok)

use Rattle.std.proofs.Common.{rules}
use Rattle.memory_outside.proofs.ItemLemmas.{put_first}
use Rattle.memory_outside.proofs.items.Items.put.Goals as goal

pub returns-clause-files : goal.returns-clause-files
returns-clause-files c =
    let self = c.args.self.now in
    put_first self.row.items c.args.name.now c.args.bytes.now c.extend_from_slice-2.new.self.items self.items.items c.insert.new.self.items self.within (search rules) (search rules)

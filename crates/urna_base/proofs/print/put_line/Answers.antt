use Rattle.urna_base.proofs.LineLaws.{line_put}
use Rattle.urna_base.proofs.print.put_line.Goals as goal

pub returns : goal.returns
returns c = line_put c.args.out.now.items c.extend_from_slice.new.self.items c.push.new.self.items c.args.line.now c.in_ok-extend_from_slice.ensures.items c.in_ok-push.ensures.items

use Rattle.std.proofs.Common.{arith}
use Rattle.memory_outside.proofs.KeptLemmas.{length-kept_ops}
use Rattle.memory_outside.proofs.tape.Tape.len.Goals as goal

pub returns : goal.returns
returns c =
    omega (arith, length-kept_ops c.args.self.now.trail.items c.args.self.now.puts.items c.args.self.now.shown.items)

use Rattle.std.proofs.Common.{◌≡◌, length, arith, rules}
use Rattle.urna_base.specs.Lines.{lines_of}
use Rattle.election_tables.proofs.RollLines.{roll_valid}
use Rattle.election_tables.proofs.roll.Roll.read.Goals as goal

pub invariant_of-result : goal.invariant_of-result
invariant_of-result c =
    let size : length c.digest.result ≡ 32 = search rules in
    roll_valid (lines_of c.args.bytes.now) c.in-Ok.titles.items c.digest.result (omega arith) (omega arith) c.in-Ok.ensures size

pub returns-in-Ok-clause-roll : goal.returns-in-Ok-clause-roll
returns-in-Ok-clause-roll c =
    let size : length c.digest.result ≡ 32 = search rules in
    roll_valid (lines_of c.args.bytes.now) c.in-Ok.titles.items c.digest.result (omega arith) (omega arith) c.in-Ok.ensures size

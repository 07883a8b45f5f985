use Rattle.std.proofs.Common.{arith}
use Rattle.seat_certificate.proofs.Passing.{last_at}
use Rattle.seat_certificate.proofs.read.last_bloc.Goals as goal

pub returns-else-count-eq0 : goal.returns-else-count-eq0
returns-else-count-eq0 c = last_at 0 c.args.before.now _ c.get.result.now (omega (arith, c.len-count.ensures, c.if-count-eq0.false)) c.get.ensures

use Rattle.std.proofs.Common.{rules}
use Rattle.std.proofs.lemmas.Fmt.{decimal_nonempty}
use Rattle.urna_base.proofs.print.decimal_into.Goals as goal

pub returns-clause-some : goal.returns-clause-some
returns-clause-some c = search (rules, decimal_nonempty)

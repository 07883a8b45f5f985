use Rattle.urna_base.proofs.DecimalLaws.{decimal_value-decimal, decimal_value-below, decimal-decimal_value}
use Rattle.urna_base.proofs.laws.decimal_round_trip.Goals as goal

pub returns-clause-reads : goal.returns-clause-reads
returns-clause-reads c = decimal_value-decimal

pub returns-clause-prints : goal.returns-clause-prints
returns-clause-prints c = λ bytes value e. (decimal_value-below bytes value e, decimal-decimal_value bytes value e)

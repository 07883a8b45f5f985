use Rattle.urna_base.proofs.DigitLaws.{digits_value-padded, digits_value-below, padded-digits_value}
use Rattle.urna_base.proofs.laws.padded_round_trip.Goals as goal

pub returns-clause-reads : goal.returns-clause-reads
returns-clause-reads c = digits_value-padded

pub returns-clause-prints : goal.returns-clause-prints
returns-clause-prints c = λ n bytes value e. (digits_value-below n bytes value e, padded-digits_value n bytes value e)

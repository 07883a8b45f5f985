use Rattle.election_tables.proofs.Determined.{tables_determined, roll_determined}
use Rattle.election_tables.proofs.laws.reading_is_determined.Goals as goal

pub returns-clause-tables : goal.returns-clause-tables
returns-clause-tables c = tables_determined

pub returns-clause-roll : goal.returns-clause-roll
returns-clause-roll c = roll_determined

use Rattle.election_tables.proofs.Reading.{read_ok, read_rule, read_rule_number, read_rule_there, read_ok_there}
use Rattle.election_tables.proofs.tables.Tables.read.Goals as goal

pub returns-in-Ok-clause-ok : goal.returns-in-Ok-clause-ok
returns-in-Ok-clause-ok c = read_ok _ _ _ c.from_table.result c.digest.ensures c.in-Ok.ensures.ok c.from_table.ensures

pub returns-in-Ok-clause-rule : goal.returns-in-Ok-clause-rule
returns-in-Ok-clause-rule c = read_rule _ _ _ c.from_table.result c.in-Ok.ensures.ok c.from_table.ensures

pub returns-in-Ok-clause-rule_number : goal.returns-in-Ok-clause-rule_number
returns-in-Ok-clause-rule_number c = read_rule_number _ _ c.from_table.result c.from_table.ensures

pub returns-in-Ok-clause-rule_there : goal.returns-in-Ok-clause-rule_there
returns-in-Ok-clause-rule_there c = read_rule_there _ _ _ c.from_table.result c.in-Ok.ensures.ok c.from_table.ensures

pub returns-in-Ok-clause-ok_there : goal.returns-in-Ok-clause-ok_there
returns-in-Ok-clause-ok_there c = read_ok_there _ _ _ c.from_table.result c.in-Ok.ensures.ok c.from_table.ensures

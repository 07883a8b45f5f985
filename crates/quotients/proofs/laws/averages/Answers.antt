use Rattle.quotients.proofs.Averages.{before_all_behind, falls_with, is_order_of_law, not_itself, some_order}
use Rattle.quotients.proofs.laws.averages.Goals as goal

pub returns-clause-strict : goal.returns-clause-strict
returns-clause-strict _ = not_itself

pub returns-clause-total : goal.returns-clause-total
returns-clause-total _ = some_order

pub returns-clause-transitive : goal.returns-clause-transitive
returns-clause-transitive _ = before_all_behind

pub returns-clause-kept : goal.returns-clause-kept
returns-clause-kept _ = is_order_of_law

pub returns-clause-falls : goal.returns-clause-falls
returns-clause-falls _ = falls_with

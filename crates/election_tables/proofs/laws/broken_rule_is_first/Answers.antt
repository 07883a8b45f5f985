use Rattle.election_tables.proofs.Breaks.{broken_is_first, first_is_broken, kept_is_all, all_is_kept}
use Rattle.election_tables.proofs.laws.broken_rule_is_first.Goals as goal

pub returns-clause-first : goal.returns-clause-first
returns-clause-first c ms k = (broken_is_first ms k, first_is_broken ms k)

pub returns-clause-kept : goal.returns-clause-kept
returns-clause-kept c ms = (kept_is_all ms, all_is_kept ms)

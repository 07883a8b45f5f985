use Rattle.section_intake.proofs.VerdictLaws.{one_verdict, some_verdict}
use Rattle.section_intake.proofs.laws.verdicts.Goals as goal

pub returns-clause-some : goal.returns-clause-some
returns-clause-some c = some_verdict

pub returns-clause-one : goal.returns-clause-one
returns-clause-one c = one_verdict

use Rattle.record_audit.proofs.Agreeing.{agree_says_same, says_same_agrees}
use Rattle.record_audit.proofs.Records.{section_agrees}
use Rattle.record_audit.proofs.laws.records.Goals as goal

pub returns-clause-section : goal.returns-clause-section
returns-clause-section c = section_agrees

pub returns-clause-agree : goal.returns-clause-agree
returns-clause-agree c = agree_says_same

pub returns-clause-same : goal.returns-clause-same
returns-clause-same c = says_same_agrees

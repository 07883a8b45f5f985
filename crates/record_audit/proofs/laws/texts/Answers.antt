use Rattle.record_audit.proofs.Lengths.{text_is_short}
use Rattle.record_audit.proofs.Spellings.{never_both, one_answer, one_fault}
use Rattle.record_audit.proofs.laws.texts.Goals as goal

pub returns-clause-one_answer : goal.returns-clause-one_answer
returns-clause-one_answer c = one_answer

pub returns-clause-never_both : goal.returns-clause-never_both
returns-clause-never_both c = never_both

pub returns-clause-one_fault : goal.returns-clause-one_fault
returns-clause-one_fault c = one_fault

pub returns-clause-short : goal.returns-clause-short
returns-clause-short c = text_is_short

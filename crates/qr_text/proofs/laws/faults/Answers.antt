use Rattle.qr_text.proofs.Faults.{one_of_both, not_both, one_fault, says_one}
use Rattle.qr_text.proofs.laws.faults.Goals as goal

pub returns-clause-one_of_both : goal.returns-clause-one_of_both
returns-clause-one_of_both c = one_of_both

pub returns-clause-not_both : goal.returns-clause-not_both
returns-clause-not_both c = not_both

pub returns-clause-one_fault : goal.returns-clause-one_fault
returns-clause-one_fault c = one_fault

pub returns-clause-says_one : goal.returns-clause-says_one
returns-clause-says_one c = says_one

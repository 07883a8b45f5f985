use Rattle.turnout.proofs.Marks.{number_came-replicate, number_came-le-length, number_came-set, has_come-replicate, has_come-set_same, has_come-set_other, same_came}
use Rattle.turnout.proofs.laws.marks.Goals as goal

pub returns-clause-none : goal.returns-clause-none
returns-clause-none _ = λ voters place. (has_come-replicate voters place, number_came-replicate voters)

pub returns-clause-marked : goal.returns-clause-marked
returns-clause-marked _ = has_come-set_same

pub returns-clause-others : goal.returns-clause-others
returns-clause-others _ = has_come-set_other

pub returns-clause-count : goal.returns-clause-count
returns-clause-count _ = number_came-set

pub returns-clause-most : goal.returns-clause-most
returns-clause-most _ = number_came-le-length

pub returns-clause-known : goal.returns-clause-known
returns-clause-known _ = same_came

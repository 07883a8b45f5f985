use Rattle.section_intake.proofs.ReportLaws.{one_list}
use Rattle.section_intake.proofs.AcceptedLaws.{some_reports, sums_are_few, sums_are_small, sums_within_all}
use Rattle.section_intake.proofs.VotesOfTables.{each_vote_is_of_the_tables, votes_add_up}
use Rattle.section_intake.proofs.laws.sums.Goals as goal

pub returns-clause-some : goal.returns-clause-some
returns-clause-some c = some_reports

pub returns-clause-few : goal.returns-clause-few
returns-clause-few c = sums_are_few

pub returns-clause-one : goal.returns-clause-one
returns-clause-one c = one_list

pub returns-clause-within : goal.returns-clause-within
returns-clause-within c = sums_within_all

pub returns-clause-small : goal.returns-clause-small
returns-clause-small c = sums_are_small

pub returns-clause-told : goal.returns-clause-told
returns-clause-told c = each_vote_is_of_the_tables

pub returns-clause-whole : goal.returns-clause-whole
returns-clause-whole c = votes_add_up

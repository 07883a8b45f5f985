use Rattle.section_intake.proofs.BehindLaws.{each_is_accepted, each_section_once, one_list_of_verdicts, some_verdicts}
use Rattle.section_intake.proofs.AcceptedLaws.{no_more_than_sections}
use Rattle.section_intake.proofs.FirstLaws.{firsts_are_accepted, same_sections}
use Rattle.section_intake.proofs.laws.offers.Goals as goal

pub returns-clause-some : goal.returns-clause-some
returns-clause-some c = some_verdicts

pub returns-clause-one : goal.returns-clause-one
returns-clause-one c = one_list_of_verdicts

pub returns-clause-each : goal.returns-clause-each
returns-clause-each c = each_is_accepted

pub returns-clause-once : goal.returns-clause-once
returns-clause-once c = each_section_once

pub returns-clause-few : goal.returns-clause-few
returns-clause-few c = no_more_than_sections

pub returns-clause-first : goal.returns-clause-first
returns-clause-first c = firsts_are_accepted

pub returns-clause-sections : goal.returns-clause-sections
returns-clause-sections c = same_sections

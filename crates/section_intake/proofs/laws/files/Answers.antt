use Rattle.section_intake.proofs.FileLaws.{file_is_accepted, text_has_parts}
use Rattle.section_intake.proofs.laws.files.Goals as goal

pub returns-clause-parts : goal.returns-clause-parts
returns-clause-parts c = text_has_parts

pub returns-clause-accepted : goal.returns-clause-accepted
returns-clause-accepted c = file_is_accepted

use Rattle.qr_text.proofs.Spellings.{never_both, one_answer, one_text, text_spells_report}
use Rattle.qr_text.proofs.laws.spellings.Goals as goal

pub returns-clause-one_answer : goal.returns-clause-one_answer
returns-clause-one_answer c = one_answer

pub returns-clause-never_both : goal.returns-clause-never_both
returns-clause-never_both c = never_both

pub returns-clause-one_text : goal.returns-clause-one_text
returns-clause-one_text c = one_text

pub returns-clause-one_report : goal.returns-clause-one_report
returns-clause-one_report c = text_spells_report

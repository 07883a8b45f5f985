use Rattle.qr_text.proofs.Flattening.{one_report}
use Rattle.qr_text.proofs.Rebuilding.{said_is_report}
use Rattle.qr_text.proofs.Texts.{report_is_said}
use Rattle.qr_text.proofs.laws.reports.Goals as goal

pub returns-clause-said : goal.returns-clause-said
returns-clause-said c = report_is_said

pub returns-clause-one : goal.returns-clause-one
returns-clause-one c = one_report

pub returns-clause-back : goal.returns-clause-back
returns-clause-back c = said_is_report

use Rattle.poll_report.proofs.Spelled.{report_spelled}
use Rattle.poll_report.proofs.laws.reports.Goals as goal

pub returns : goal.returns
returns _ = report_spelled

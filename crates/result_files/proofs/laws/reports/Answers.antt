use Rattle.result_files.proofs.Reports.{sealed_has_file, sealed_has_report, sealed_has_text, sealed_is_accepted}
use Rattle.result_files.proofs.laws.reports.Goals as goal

pub returns-clause-report : goal.returns-clause-report
returns-clause-report _ = sealed_has_report

pub returns-clause-text : goal.returns-clause-text
returns-clause-text _ = sealed_has_text

pub returns-clause-file : goal.returns-clause-file
returns-clause-file _ = sealed_has_file

pub returns-clause-accepted : goal.returns-clause-accepted
returns-clause-accepted _ = sealed_is_accepted

use Rattle.std.proofs.Common.{subst}
use Rattle.section_intake.specs.Checked.{IsChecked}
use Rattle.section_intake.specs.Fits.{Fits}
use Rattle.section_intake.specs.Verdict.{IsReportFile, accepted}
use Rattle.section_intake.proofs.checking.judge.Goals as goal

pub returns-in-Report : goal.returns-in-Report
returns-in-Report c =
    let is : IsReportFile c.args.bytes.now c.in-Report.report × Fits c.args.tables.now c.in-Report.report =
    subst (IsChecked c.args.tables.now c.args.bytes.now) c.in-Report.is c.in_ok-report.ensures in
    accepted is.0 is.1

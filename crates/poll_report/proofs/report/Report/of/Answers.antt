use Rattle.poll_report.proofs.Spelled.{report_spelled}
use Rattle.poll_report.proofs.report.Report.of.Goals as goal

pub returns-clause-spelled : goal.returns-clause-spelled
returns-clause-spelled c =
    rw (c.process.ensures, c.date.ensures, c.turn.ensures, c.len.ensures.count, c.in_ok-count_offices.ensures.counts)
    (report_spelled c.args.tables.now c.args.section c.args.votes.now c.args.turnout.now c.args.opened c.args.closed c.count_offices.ensures.tables c.requires)

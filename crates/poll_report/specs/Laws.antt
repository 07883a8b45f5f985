-- What is so of all reports of sections
use Rattle.std.specs.Prelude.{ℕ, List, Bool}
use Rattle.election_tables.specs.TablesData.{TablesData, IsTables}
use Rattle.election_tables.specs.declared.tables.sections.Section.{Section}
use Rattle.vote_record.specs.RdvData.{RdvData}
use Rattle.poll_report.specs.Counted.{HasReport, report_of}
use Rattle.poll_report.specs.Report.{IsReport}

-- the report of a section is one that has a spelling
abbrev pub HaveSpelling : Type 0
HaveSpelling = (t : TablesData) (section : Section) (votes : RdvData) (came : List Bool) (opened closed : ℕ) → IsTables t
    → HasReport t section votes came opened closed → IsReport (report_of t section votes.bags came opened closed)

-- The lines that tell what a recount finds (docs/FORMATS.md, "Shown texts")
use Rattle.std.specs.Prelude.{ℕ, List, [], ◌∷◌, ◌++◌, codes, slice_get}
use Rattle.std.specs.Fmt.{decimal}
use Rattle.std.specs.Option.{unwrap_or}
use Rattle.vote_kinds.specs.declared.choice.Choice.{Choice}
use Rattle.vote_kinds.specs.declared.choice.Choice.TheVariants as choice
use Rattle.poll_report.specs.declared.report.Report.{Report}
use Rattle.record_audit.specs.Finding.{finding}
use Rattle.record_audit.specs.Spelling.{codes_in}
use Rattle.record_audit.specs.declared.finding.Finding.{Finding}
use Rattle.record_audit.specs.declared.finding.Finding.TheVariants as found
use Rattle.record_audit.specs.declared.text.RecordText.{RecordText}
use Rattle.urna_commands.specs.declared.status.Status.{Status}
use Rattle.urna_commands.specs.declared.status.Status.TheVariants as status

-- how a line names a choice
abbrev pub choice_text : Choice → List ℕ
choice_text (choice.Nominal number) = codes "NOMINAL " ++ decimal number
choice_text (choice.Party number) = codes "LEGENDA " ++ decimal number
choice_text choice.Blank = codes "BRANCO"
choice_text choice.Null = codes "NULO"

-- the code of the office of a panel, where the offices have these codes
abbrev pub code_at : List ℕ → ℕ → ℕ
code_at offices panel = unwrap_or (slice_get offices panel) 0

-- what tells a finding, without the line feed, where the offices have these codes: both agree; or they are of another election or section; or
-- from this place on they have other offices; or in this office the record has so many lines of a choice, and the report another number
abbrev pub finding_text : List ℕ → Finding → List ℕ
finding_text offices found.Agree = codes "CONFERE"
finding_text offices found.Heading = codes "DIFERE CABECALHO"
finding_text offices (found.Office k) = codes "DIFERE CARGOS " ++ decimal k
finding_text offices (found.Differs panel c lines said) =
    codes "DIFERE CARGO " ++ decimal (code_at offices panel) ++ codes " " ++ choice_text c
    ++ codes " REGISTRO " ++ decimal lines ++ codes " BOLETIM " ++ decimal said

-- the line that tells what a recount of a record against a report finds
abbrev pub finding_line : RecordText → Report → List ℕ
finding_line r p = finding_text (codes_in r.offices) (finding r p) ++ 10 ∷ []

-- a finding other than that both agree is a status of its own
abbrev pub finding_status : Finding → Status
finding_status found.Agree = status.Done
finding_status found.Heading = status.Disagrees found.Heading
finding_status (found.Office k) = status.Disagrees (found.Office k)
finding_status (found.Differs panel c lines said) = status.Disagrees (found.Differs panel c lines said)

-- The lines of the display as bytes (docs/FORMATS.md, "Shown texts"), each with its line feed
use Rattle.std.specs.Prelude.{ℕ, ◌<◌, ◌^◌, List, [], ◌∷◌, ◌++◌, codes, flat_map, length}
use Rattle.std.specs.Fmt.{decimal}
use Rattle.urna_base.specs.Digits.{padded}
use Rattle.urna_base.specs.Lines.{number_line, two_number_line, word_line}
use Rattle.election_tables.specs.TablesData.{TablesData}
use Rattle.turnout.specs.declared.phase.Phase.{Phase}
use Rattle.turnout.specs.declared.phase.Phase.TheVariants as phase
use Rattle.vote_kinds.specs.Ballot.{IsField, line_of}
use Rattle.voter_term.specs.Screen.{screen_text}
use Rattle.poll_report.specs.Counts.{count_lines}
use Rattle.flash_store.specs.Pieces.{quiet, telling}
use Rattle.state_store.specs.Pieces.{Piece}
use Rattle.station.specs.Output.{Output, Says, Commits, Reports}
use Rattle.station.specs.declared.line.Line.{Line}
use Rattle.station.specs.declared.line.Line.TheVariants as line
use Rattle.station.specs.declared.line.Title.{Title}
use Rattle.station.specs.declared.line.Title.TheVariants as title

-- how the opening line names a phase
abbrev pub poll_text : Phase → List ℕ
poll_text phase.Ready = codes "URNA PRONTA "
poll_text (phase.Polling opened) = codes "URNA ABERTA "
poll_text (phase.Sealed opened closed) = codes "URNA LACRADA "

-- the text of a line, with its line feed
abbrev pub line_text : TablesData → Line → List ℕ
line_text t (line.Poll p came) = number_line (poll_text p) came
line_text t (line.Refused n) = number_line (codes "RECUSA ") n
line_text t (line.Voter number) = codes "ELEITOR " ++ padded 12 number ++ 10 ∷ []
line_text t line.Released = word_line (codes "LIBERADO")
line_text t line.Canceled = word_line (codes "CANCELADO")
line_text t line.Suspended = word_line (codes "SUSPENSO")
line_text t (line.Ballot number code) = two_number_line (codes "VOTO ") number (codes " CARGO ") code
line_text t (line.Screen panel before f) = screen_text t panel before f
line_text t (line.Opened m) = codes "ABERTA " ++ padded 14 m ++ 10 ∷ []
line_text t line.Ended = word_line (codes "FIM")
line_text t (line.Sealed m came) = codes "ENCERRADA " ++ padded 14 m ++ codes " " ++ decimal came ++ 10 ∷ []

-- the line over the counts
abbrev pub title_text : Title → List ℕ
title_text title.Zeresima = codes "ZERESIMA" ++ 10 ∷ []
title_text title.Boletim = codes "BOLETIM" ++ 10 ∷ []

-- what an output puts out, in order: a state that it tells is committed just before its line
abbrev pub output_pieces : TablesData → Output → List Piece
output_pieces t (Says l) = quiet (line_text t l ∷ [])
output_pieces t (Commits s l) = telling s (line_text t l)
output_pieces t (Reports title s) = quiet (title_text title ∷ count_lines t s.bags)

-- what a session puts out
abbrev pub session_pieces : TablesData → List Output → List Piece
session_pieces t out = flat_map (output_pieces t) out

-- A line whose numbers have the digits of its format. A screen is that of a panel of the tables, with no more digits than its
-- office.
abbrev pub IsLine : TablesData → Line → Type 0
IsLine t (line.Poll p came) = Unit {0}
IsLine t (line.Refused n) = Unit {0}
IsLine t (line.Voter number) = number < 10 ^ 12
IsLine t line.Released = Unit {0}
IsLine t line.Canceled = Unit {0}
IsLine t line.Suspended = Unit {0}
IsLine t (line.Ballot number code) = Unit {0}
IsLine t (line.Screen panel before f) = (panel < length t.panels) × IsField (line_of t panel).digits f
IsLine t (line.Opened m) = m < 10 ^ 14
IsLine t line.Ended = Unit {0}
IsLine t (line.Sealed m came) = m < 10 ^ 14

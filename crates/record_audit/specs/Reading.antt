-- Reading a record text line by line: what one line says, and how far a text was read.
use Rattle.std.specs.Prelude.{ℕ, ◌*◌, ◌<◌, ◌≤◌, ◌+◌, ◌-◌, Bool, true, ◌&&◌, ◌==◌, nat_lt, if◌then◌else◌, List, [], ◌∷◌, ◌++◌, codes, length, slice_get, Option, None, Some, option_map, Result, Ok, Err}
use Rattle.std.specs.Option.{option_and_then, option_map_or}
use Rattle.std.specs.Str.{bytes_eq}
use Rattle.urna_base.specs.Digits.{decimal_value, digits_value, decimal_within}
use Rattle.urna_base.specs.Moment.{is_date}
use Rattle.urna_base.specs.Words.{after_word, cut_at}
use Rattle.election_tables.specs.Fields.{has_digits}
use Rattle.election_tables.specs.Limits.{greatest_process, greatest_section, most_offices}
use Rattle.election_tables.specs.Offices.{code_proportional, greatest_code}
use Rattle.vote_kinds.specs.Choice.{choice_le}
use Rattle.vote_kinds.specs.declared.choice.Choice.{Choice}
use Rattle.vote_kinds.specs.declared.choice.Choice.TheVariants as choice
use Rattle.vote_record.specs.RecordText.{end_words, format_words}
use Rattle.poll_report.specs.Report.{digits_in, may_have_code}
use Rattle.record_audit.specs.Spelling.{codes_in, most_votes}
use Rattle.record_audit.specs.declared.fault.RecordError.{RecordError}
use Rattle.record_audit.specs.declared.fault.RecordError.TheVariants.{Memory, Line}
use Rattle.record_audit.specs.declared.stage.Stage.{Stage}
use Rattle.record_audit.specs.declared.stage.Stage.TheVariants.{Start, Begun, Offices, Votes, Ended}
use Rattle.record_audit.specs.declared.text.RecordOffice.{RecordOffice}
use Rattle.record_audit.specs.declared.text.RecordText.{RecordText}

-- P holds of what was read, or Q of the fault; nothing is said where memory ran out
abbrev pub MatchRead : {A : Type 0} → Result A RecordError → (A → Type 0) → (ℕ → Type 0) → Type 0
MatchRead (Ok x) P Q = P x
MatchRead (Err Memory) P Q = Unit {0}
MatchRead (Err (Line k)) P Q = Q k

-- ---- what one line says

-- a valid date
unfoldable pub date_in : List ℕ → Option ℕ
date_in text = option_and_then (λ n. if is_date n then Some n else None) (digits_value 8 text)

-- what stands behind a word, up to the next space (32), and what stands behind that
unfoldable pub cell : List ℕ → List ℕ → Option (List ℕ × List ℕ)
cell word text = option_and_then (cut_at 32) (after_word word text)

-- a number behind a word, and what stands behind it
unfoldable pub number_cell : List ℕ → ℕ → ℕ → List ℕ → Option (ℕ × List ℕ)
number_cell word low high text = option_and_then (λ x. option_map (λ n. (n, x.1)) (decimal_within low high x.0)) (cell word text)

-- a date behind a word, and what stands behind it
unfoldable pub date_cell : List ℕ → List ℕ → Option (ℕ × List ℕ)
date_cell word text = option_and_then (λ x. option_map (λ n. (n, x.1)) (date_in x.0)) (cell word text)

-- a section behind its word, at the end of a line
unfoldable pub section_in : List ℕ → Option ℕ
section_in text = option_and_then (decimal_within 1 greatest_section) (after_word (codes "SECA ") text)

-- which election and section it is, no office being read: five cells, of which each stands behind the one before it (read from below)
unfoldable pub heading_in : List ℕ → Option RecordText
heading_in line =
    option_and_then (λ process. option_and_then (λ date. option_and_then (λ turn. option_and_then (λ zone.
    option_map (λ section. record { process = process.0; date = date.0; turn = turn.0; zone = zone.0; section = section; offices = [] })
    (section_in zone.1))
    (number_cell (codes "ZONA ") 1 greatest_section turn.1))
    (number_cell (codes "TURN ") 1 2 date.1))
    (date_cell (codes "DTPL ") process.1))
    (number_cell (codes "PROC ") 1 greatest_process line)

-- the code of an office that may stand behind those with these codes, and how many votes it has
unfoldable pub office_in : List ℕ → List ℕ → Option (ℕ × ℕ)
office_in before line =
    option_and_then (λ code. option_and_then (λ votes. if may_have_code before code.0 then Some (code.0, votes) else None)
    (decimal_within 0 most_votes code.1))
    (number_cell (codes "CARG ") 0 greatest_code line)

-- the candidate of an office
unfoldable pub candidate_in : ℕ → List ℕ → Option Choice
candidate_in code text = option_and_then (λ n. if has_digits (digits_in code) n then Some (choice.Nominal n) else None) (decimal_value text)

-- the party of an office that is decided in proportion
unfoldable pub party_in : ℕ → List ℕ → Option Choice
party_in code text = option_and_then (λ n. if code_proportional code then Some (choice.Party n) else None) (decimal_within 10 99 text)

-- the choice of a vote in an office
unfoldable pub choice_in : ℕ → List ℕ → Option Choice
choice_in code line =
    if bytes_eq line (codes "B") then Some choice.Blank
    else (if bytes_eq line (codes "X") then Some choice.Null
    else elim (after_word (codes "N ") line) [
      | Some text ↦ candidate_in code text
      | None ↦ option_and_then (party_in code) (after_word (codes "L ") line)
    ])

-- a choice stands at or behind the last of some
abbrev pub may_follow : List Choice → Choice → Bool
may_follow votes c = option_map_or (λ d. choice_le d c) (slice_get votes (length votes - 1)) true

-- the choice of the next vote of an office
unfoldable pub vote_in : RecordOffice → List ℕ → Option Choice
vote_in office line = option_and_then (λ c. if may_follow office.votes c then Some c else None) (choice_in office.code line)

-- ---- how far a text was read

-- there are no more offices than a report has, and an office that still wants votes has no more of them than there may be
abbrev pub HasRoom : Stage → Type 0
HasRoom Start = Unit {0}
HasRoom Begun = Unit {0}
HasRoom (Offices text) = length text.offices ≤ most_offices
HasRoom (Votes text office left) = (length text.offices < most_offices) × (0 < left) × (length office.votes + left ≤ most_votes)
HasRoom (Ended text) = length text.offices ≤ most_offices

-- the greatest number that the next line can have
abbrev pub most_lines : Stage → ℕ
most_lines Start = 1
most_lines Begun = 2
most_lines (Offices text) = 3 + (most_votes + 1) * length text.offices
most_lines (Votes text office left) = 4 + (most_votes + 1) * length text.offices + length office.votes
most_lines (Ended text) = 4 + (most_votes + 1) * length text.offices

-- an office, of whose votes so many are still wanted
unfoldable pub in_office : RecordText → RecordOffice → ℕ → Stage
in_office text office left =
    if left == 0 then Offices (record text { offices = text.offices ++ office ∷ [] }) else Votes text office left

-- a line is the last one, behind some offices
abbrev pub is_end : List RecordOffice → List ℕ → Bool
is_end offices line = bytes_eq line end_words && nat_lt 0 (length offices)

-- the next line is that of an office, or the end
unfoldable pub after_offices : RecordText → List ℕ → Option Stage
after_offices text line =
    if is_end text.offices line then Some (Ended text)
    else option_map (λ x. in_office text (record { code = x.0; votes = [] }) x.1) (office_in (codes_in text.offices) line)

-- the next line is that of a vote
unfoldable pub after_votes : RecordText → RecordOffice → ℕ → List ℕ → Option Stage
after_votes text office left line =
    option_map (λ c. in_office text (record office { votes = office.votes ++ c ∷ [] }) (left - 1)) (vote_in office line)

-- with one line more, if it may stand there
unfoldable pub with_line : Stage → List ℕ → Option Stage
with_line Start line = if bytes_eq line format_words then Some Begun else None
with_line Begun line = option_map (λ text. Offices text) (heading_in line)
with_line (Offices text) line = after_offices text line
with_line (Votes text office left) line = after_votes text office left line
with_line (Ended text) line = None

-- a line without its line feed, if it has one
unfoldable pub line_in : List ℕ → Option (List ℕ)
line_in row = option_and_then (λ x. if length x.1 == 0 then Some x.0 else None) (cut_at 10 row)

-- the record that was read, where no line may follow
abbrev pub whole_text : Stage → Option RecordText
whole_text Start = None
whole_text Begun = None
whole_text (Offices text) = None
whole_text (Votes text office left) = None
whole_text (Ended text) = Some text

-- the record that a text says, or the number of the line that may not stand there; line k comes next
unfoldable pub reading : ℕ → Stage → List (List ℕ) → Result RecordText ℕ
reading k st [] = elim (whole_text st) [
  | Some text ↦ Ok text
  | None ↦ Err k
]
reading k st (row ∷ rows) = elim (option_and_then (with_line st) (line_in row)) [
  | Some next ↦ reading (k + 1) next rows
  | None ↦ Err k
]

-- The lines of a ballot, and the choice that a field stands for
use Rattle.std.specs.Prelude.{ℕ, ◌+◌, ◌^◌, ◌<◌, ◌≤◌, Bool, true, false, not, ◌&&◌, List, [], ◌∷◌, ◌++◌, map, Option, Some, None, unwrap_or, slice_get, nat_eq, nat_le, ◌==◌, if◌then◌else◌}
use Rattle.std.specs.List.{list_any}
use Rattle.election_tables.specs.Fields.{first_two}
use Rattle.election_tables.specs.TablesData.{TablesData, line_panels, places_in}
use Rattle.election_tables.specs.declared.tables.panels.Panel.{Panel}
use Rattle.election_tables.specs.declared.office.Kind.{Kind}
use Rattle.election_tables.specs.declared.office.Kind.TheVariants as kind
use Rattle.vote_kinds.specs.declared.choice.Choice.{Choice}
use Rattle.vote_kinds.specs.declared.choice.Choice.TheVariants as choice
use Rattle.vote_kinds.specs.declared.choice.Field.{Field}
use Rattle.vote_kinds.specs.declared.choice.Field.TheVariants as field

-- what the voting rules need to know of a line of the ballot
pub record BallotLine : Type 0 where
  pub panel : ℕ  -- the panel that it stands in, counted from 0
  pub code : ℕ  -- of the office
  pub digits : ℕ  -- of the office
  pub proportional : Bool
  pub places : ℕ  -- how many votes a voter has in the panel
  pub candidates : List ℕ  -- the numbers of the office's candidates
  pub parties : List ℕ  -- the numbers of the parties

-- the office is decided in proportion
abbrev pub is_proportional : Kind → Bool
is_proportional kind.Proportional = true
is_proportional kind.Absolute = false
is_proportional kind.Simple = false

-- a line of the panel whose number is this
abbrev pub line_for : TablesData → ℕ → Panel → BallotLine
line_for t number p = record {
  panel = number;
  code = p.office.code;
  digits = p.office.digits;
  proportional = is_proportional p.office.kind;
  places = places_in p;
  candidates = map (λ c. c.number) p.candidates;
  parties = map (λ q. q.number) t.parties;
}

-- what stands for a panel that isn't there
abbrev pub no_panel : Panel
no_panel = record { office = record { code = 0; digits = 0; kind = kind.Simple; seats = 0 }; candidates = [] }

-- the panel of a number
abbrev pub panel_at : TablesData → ℕ → Panel
panel_at t number = unwrap_or (slice_get t.panels number) no_panel

-- a line of the panel of a number
abbrev pub line_of : TablesData → ℕ → BallotLine
line_of t number = line_for t number (panel_at t number)

-- the lines of these panels, the first of which has this number
abbrev pub lines_from : TablesData → ℕ → List Panel → List BallotLine
lines_from t first [] = []
lines_from t first (p ∷ panels) = line_for t first p ∷ lines_from t (first + 1) panels

-- one line for each panel, in the order of the tables
unfoldable pub lines_by_panel : TablesData → List BallotLine
lines_by_panel t = lines_from t 0 t.panels

-- the lines of the ballot: for each panel one line for each vote that a voter has in it, panels in order
unfoldable pub ballot_lines : TablesData → List BallotLine
ballot_lines t = map (line_of t) (line_panels t)

-- A field of a line with so many digits.
abbrev pub IsField : ℕ → Field → Type 0
IsField digits field.Empty = Unit {0}
IsField digits field.Blank = Unit {0}
IsField digits (field.Digits count value) = (1 ≤ count) × (count ≤ digits) × (value < 10 ^ count)

-- CONFIRMA is taken at a blank field, in a proportional office from two digits on, and in a majority office at all of them.
abbrev pub is_confirmable : BallotLine → Field → Bool
is_confirmable line field.Empty = false
is_confirmable line field.Blank = true
is_confirmable line (field.Digits count value) = if line.proportional then nat_le 2 count else count == line.digits

-- all digits are typed, and name a candidate of the office
abbrev pub names_candidate : BallotLine → ℕ → ℕ → Bool
names_candidate line count value = count == line.digits && list_any (nat_eq value) line.candidates

-- a choice, if there is one, of the candidate with this number
abbrev pub is_nominal_of : ℕ → Option Choice → Bool
is_nominal_of number None = false
is_nominal_of number (Some (choice.Nominal other)) = nat_eq number other
is_nominal_of number (Some (choice.Party other)) = false
is_nominal_of number (Some choice.Blank) = false
is_nominal_of number (Some choice.Null) = false

-- The choice that a field stands for (Lei 9.504/1997 art. 59 paragraph 2), where the same voter chose `earlier` on the line
-- before, if that is of the same panel: a candidate whom all digits name, unless it was the earlier choice; else, in a
-- proportional office, the party of the first two digits, if no candidate was named; else null.
abbrev pub choice_of : BallotLine → Option Choice → Field → Choice
choice_of line earlier field.Blank = choice.Blank
choice_of line earlier field.Empty = choice.Null
choice_of line earlier (field.Digits count value) =
    if names_candidate line count value && not (is_nominal_of value earlier) then choice.Nominal value
    else (if line.proportional && (not (names_candidate line count value) && list_any (nat_eq (first_two count value)) line.parties)
    then choice.Party (first_two count value) else choice.Null)

-- what may be chosen on a line
abbrev pub is_choice : BallotLine → Choice → Bool
is_choice line (choice.Nominal number) = list_any (nat_eq number) line.candidates
is_choice line (choice.Party number) = line.proportional && list_any (nat_eq number) line.parties
is_choice line choice.Blank = true
is_choice line choice.Null = true

-- the choices of a line in the order of choices: its candidates, in a proportional office the parties, blank and null
abbrev pub choices_of : BallotLine → List Choice
choices_of line =
    map (λ n. choice.Nominal n) line.candidates
    ++ ((if line.proportional then map (λ n. choice.Party n) line.parties else []) ++ choice.Blank ∷ choice.Null ∷ [])

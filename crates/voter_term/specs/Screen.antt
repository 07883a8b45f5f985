-- The screen of a panel (docs/FORMATS.md, "Shown texts")
use Rattle.std.specs.Prelude.{ℕ, List, [], ◌∷◌, ◌++◌, codes, Option, Some, None, unwrap_or, if◌then◌else◌}
use Rattle.urna_base.specs.Digits.{padded}
use Rattle.election_tables.specs.TablesData.{TablesData, candidates_at, candidate_name, party_name}
use Rattle.vote_kinds.specs.declared.choice.Choice.{Choice}
use Rattle.vote_kinds.specs.declared.choice.Choice.TheVariants as choice
use Rattle.vote_kinds.specs.declared.choice.Field.{Field}
use Rattle.vote_kinds.specs.declared.choice.Field.TheVariants as field
use Rattle.vote_kinds.specs.Ballot.{BallotLine, line_of, is_confirmable, choice_of}

-- the digits stand as typed, leading zeros too
abbrev pub field_text : Field → List ℕ
field_text field.Empty = codes "VAZIA"
field_text field.Blank = codes "BRANCO"
field_text (field.Digits count value) = padded count value

-- the choice that a field stands for, where it may be confirmed; `earlier` is the same voter's choice of the line before, of the same panel
abbrev pub shown_choice : BallotLine → Option Choice → Field → Option Choice
shown_choice line earlier f = if is_confirmable line f then Some (choice_of line earlier f) else None

-- a candidate and a party are named; blank stands there as the field
abbrev pub choice_text : TablesData → ℕ → Option Choice → List ℕ
choice_text t panel None = []
choice_text t panel (Some (choice.Nominal number)) = codes " CANDIDATO " ++ unwrap_or (candidate_name number (candidates_at panel t)) []
choice_text t panel (Some (choice.Party number)) = codes " LEGENDA " ++ unwrap_or (party_name number t.parties) []
choice_text t panel (Some choice.Blank) = []
choice_text t panel (Some choice.Null) = codes " NULO"

-- the screen of a panel's field, and of the choice that it stands for
abbrev pub screen_text : TablesData → ℕ → Option Choice → Field → List ℕ
screen_text t panel earlier f = codes "TELA " ++ field_text f ++ choice_text t panel (shown_choice (line_of t panel) earlier f) ++ 10 ∷ []

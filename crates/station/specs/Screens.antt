-- The screens of a visit, by the lines of the ballot
use Rattle.std.specs.Prelude.{◌≡◌, ℕ, Bool, true, false, List, [], ◌∷◌, ◌++◌, Option, Some, if◌then◌else◌, flat_map, slice_get, take}
use Rattle.key_script.specs.declared.keys.Event.{Event}
use Rattle.vote_kinds.specs.declared.choice.Choice.{Choice}
use Rattle.vote_kinds.specs.declared.choice.Field.{Field}
use Rattle.vote_kinds.specs.Ballot.{BallotLine, is_confirmable, choice_of}
use Rattle.image_codec.specs.State.{State}
use Rattle.station.specs.Output.{Output, Says, Commits, Reports, earlier_for}
use Rattle.station.specs.Run.{Visit, whole, suspended}
use Rattle.station.specs.Setting.{Setting}
use Rattle.station.specs.declared.line.Line.{Line}
use Rattle.station.specs.declared.line.Line.TheVariants.{Ballot, Screen}

-- the line of an output, without those of a report of counts
abbrev pub lines_told : Output → List Line
lines_told (Says l) = l ∷ []
lines_told (Commits s l) = l ∷ []
lines_told (Reports t s) = []

-- the line that calls a line of the ballot
abbrev pub is_call : Line → Bool
is_call (Ballot number code) = true
is_call _ = false

abbrev pub is_screen : Line → Bool
is_screen (Screen panel before f) = true
is_screen _ = false

-- the screens before the next call
abbrev pub screens_until_call : List Line → List Line
screens_until_call [] = []
screens_until_call (l ∷ lines) = if is_call l then [] else (if is_screen l then l ∷ screens_until_call lines else screens_until_call lines)

-- for each call, in order, the screens behind it and before the next call
abbrev pub screens_by_call : List Line → List (List Line)
screens_by_call [] = []
screens_by_call (l ∷ lines) = if is_call l then screens_until_call lines ∷ screens_by_call lines else screens_by_call lines

-- the screens that outputs show on each line of the ballot that they call, in order
abbrev pub screens_of : List Output → List (List Line)
screens_of out = screens_by_call (flat_map lines_told out)

-- The choice with this number, from 0, is that of the last screen which the outputs show on the line of the ballot with this
-- number: CONFIRMA is taken at the field of this screen, and the choice is the one that the field stands for.
pub record IsOfLastScreen (v : Setting) (choices : List Choice) (out : List Output) (number : ℕ) (c : Choice) : Type 0 where
  pub line : BallotLine
  pub earlier : Option Choice
  pub field : Field
  pub before : List Line
  pub stands : slice_get v.lines number ≡ Some line
  pub earlier_is : earlier ≡ earlier_for v (take number choices) line
  pub screens : slice_get (screens_of out) number ≡ Some (before ++ Screen line.panel earlier field ∷ [])
  pub confirmable : is_confirmable line field ≡ true
  pub chosen : c ≡ choice_of line earlier field

abbrev pub AreOfLastScreens : Setting → List Choice → List Output → Type 0
AreOfLastScreens v choices out = (number : ℕ) (c : Choice) → slice_get choices number ≡ Some c → IsOfLastScreen v choices out number c

-- the choices that were confirmed in a visit, in order
abbrev pub confirmed_in : {v : Setting} {s t : State} {place : ℕ} {es : List Event} {out : List Output} → Visit v s place es t out → List Choice
confirmed_in (whole {choices} votes at) = choices
confirmed_in (suspended {choices} on) = choices

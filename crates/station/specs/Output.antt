-- What a session puts out: lines, reports of counts, and states that are committed just before the line that tells them
use Rattle.std.specs.Prelude.{◌+◌, ◌-◌, ◌==◌, List, [], ◌∷◌, ◌++◌, Option, Some, None, if◌then◌else◌, length, slice_get}
use Rattle.key_script.specs.declared.keys.Key.{Key}
use Rattle.key_script.specs.Event.{is_confirm}
use Rattle.vote_kinds.specs.declared.choice.Choice.{Choice}
use Rattle.vote_kinds.specs.declared.choice.Field.{Field}
use Rattle.vote_kinds.specs.Ballot.{BallotLine}
use Rattle.voter_term.specs.Field.{field_after, same_field}
use Rattle.clerk_term.specs.declared.replies.ClerkAnswer.{ClerkAnswer}
use Rattle.clerk_term.specs.declared.replies.ClerkAnswer.TheVariants as answer
use Rattle.image_codec.specs.State.{State}
use Rattle.station.specs.Setting.{Setting}
use Rattle.station.specs.declared.line.Line.{Line}
use Rattle.station.specs.declared.line.Line.TheVariants as line
use Rattle.station.specs.declared.line.Title.{Title}

-- what a run puts out
pub data Output : Type 0 where
  Says : Line → Output  -- a line
  Commits : State → Line → Output  -- the state is on the flashes, and then the line tells it
  Reports : Title → State → Output  -- the counts of a state's record

-- the states that are committed, in order
abbrev pub commits_of : List Output → List State
commits_of [] = []
commits_of (Says l ∷ out) = commits_of out
commits_of (Commits s l ∷ out) = s ∷ commits_of out
commits_of (Reports t s ∷ out) = commits_of out

-- what shows that a key of the clerk is refused
abbrev pub refusal : ClerkAnswer → List Output
refusal (answer.Refused n) = Says (line.Refused n) ∷ []
refusal (answer.Opens m) = []
refusal (answer.Identifies p) = []
refusal (answer.Releases p) = []
refusal (answer.Cancels p) = []
refusal (answer.Suspends p) = []
refusal (answer.Seals m) = []

-- the line of the ballot that comes after so many choices, if one is left
abbrev pub line_at : Setting → List Choice → Option BallotLine
line_at v choices = slice_get v.lines (length choices)

-- the choice of the line before, where that line is of the same panel
abbrev pub earlier_of : Option BallotLine → Option Choice → BallotLine → Option Choice
earlier_of (Some previous) (Some choice) l = if previous.panel == l.panel then Some choice else None
earlier_of (Some previous) None l = None
earlier_of None choice l = None

-- the choice of the line before in the same visit, if that is of the same panel
abbrev pub earlier_for : Setting → List Choice → BallotLine → Option Choice
earlier_for v choices l = earlier_of (slice_get v.lines (length choices - 1)) (slice_get choices (length choices - 1)) l

-- what calls a line of the ballot, which has its number from 1
abbrev pub call_of : List Choice → BallotLine → Output
call_of choices l = Says (line.Ballot (length choices + 1) l.code)

-- the screen at a field, where the line before in the same visit has this choice of the panel, if it has one
abbrev pub screen : BallotLine → Option Choice → Field → Output
screen l earlier f = Says (line.Screen l.panel earlier f)

-- What a key shows after the word w, where it ends no panel word: CONFIRMA nothing, and each other key the screen where it
-- changes the field.
abbrev pub echo : BallotLine → Option Choice → List Key → Key → List Output
echo l earlier w k =
    if is_confirm k then [] else (if same_field (field_after l.digits (w ++ k ∷ [])) (field_after l.digits w) then []
    else screen l earlier (field_after l.digits (w ++ k ∷ [])) ∷ [])

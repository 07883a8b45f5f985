-- One key on a field: the table of the keypad
use Rattle.std.specs.Prelude.{ℕ, ◌+◌, ◌*◌, Option, nat_lt, if◌then◌else◌}
use Rattle.key_script.specs.declared.keys.Key.{Key}
use Rattle.key_script.specs.declared.keys.Key.TheVariants as key
use Rattle.key_script.specs.Event.{is_confirm}
use Rattle.vote_kinds.specs.declared.choice.Choice.{Choice}
use Rattle.vote_kinds.specs.declared.choice.Field.{Field}
use Rattle.vote_kinds.specs.declared.choice.Field.TheVariants as field
use Rattle.vote_kinds.specs.Ballot.{BallotLine, is_confirmable, choice_of}
use Rattle.voter_term.specs.Field.{same_field}
use Rattle.voter_term.specs.declared.panel.Shown.{Shown}
use Rattle.voter_term.specs.declared.panel.Shown.TheVariants as shown

-- the field after one more key, where so many digits may stand
abbrev pub next_field : ℕ → Field → Key → Field
next_field digits f key.Correct = field.Empty
next_field digits f key.Confirm = f
next_field digits field.Empty key.Blank = field.Blank
next_field digits field.Blank key.Blank = field.Blank
next_field digits (field.Digits count value) key.Blank = field.Digits count value
next_field digits field.Empty (key.Digit d) = field.Digits 1 d
next_field digits field.Blank (key.Digit d) = field.Blank
next_field digits (field.Digits count value) (key.Digit d) =
    if nat_lt count digits then field.Digits (count + 1) (10 * value + d) else field.Digits count value

-- what one key shows at a field
abbrev pub next_shown : BallotLine → Option Choice → Field → Key → Shown
next_shown line earlier f k =
    if is_confirm k then (if is_confirmable line f then shown.Voted (choice_of line earlier f) else shown.Nothing)
    else (if same_field (next_field line.digits f k) f then shown.Nothing else shown.Screen)

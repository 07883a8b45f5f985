-- The lines of the rehearsal's script, their text and their events.
use Rattle.std.specs.Prelude.{ℕ, List, [], ◌∷◌, ◌++◌, map, Option, None, Some, if◌then◌else◌}
use Rattle.std.specs.List.{range_with_len, flat_map}
use Rattle.key_script.specs.declared.keys.Key.{Key}
use Rattle.key_script.specs.declared.keys.ClerkKey.{ClerkKey}
use Rattle.key_script.specs.declared.keys.ClerkKey.TheVariants.{Abre, Titulo, Libera, Suspende, Encerra}
use Rattle.key_script.specs.declared.keys.Event.{Event}
use Rattle.key_script.specs.declared.keys.Event.TheVariants.{Clerk, Voter}
use Rattle.key_script.specs.Spelling.{clerk_text, keys_text}
use Rattle.urna_base.specs.Lines.{lines_text}
use Rattle.rehearsal.specs.Roll.{title_at}
use Rattle.rehearsal.specs.Typing.{TypedPair, typed_at, typed_keys, is_suspended}

-- a line of a script: a key of the clerk, or keys of the voter
pub data ScriptLine : Type 0 where
  clerk : ClerkKey → ScriptLine
  voter : List Key → ScriptLine

-- how the line is written
abbrev pub script_line_text : ScriptLine → List ℕ
script_line_text (clerk key) = clerk_text key
script_line_text (voter keys) = keys_text keys

-- its events
abbrev pub script_line_events : ScriptLine → List Event
script_line_events (clerk key) = Clerk key ∷ []
script_line_events (voter keys) = map (λ key. Voter key) keys

-- behind panel 1: the clerk suspends the voter, or the voter types in panel 2
abbrev pub second_line : ℕ → TypedPair → ScriptLine
second_line place pair = if is_suspended place then clerk Suspende else voter (typed_keys pair.1)

-- the lines of a voter who types this, and none of one who doesn't come
abbrev pub visit_with : ℕ → Option TypedPair → List ScriptLine
visit_with place None = []
visit_with place (Some pair) =
    clerk (Titulo (title_at place)) ∷ clerk Libera ∷ voter (typed_keys pair.0) ∷ second_line place pair ∷ []

-- the lines of the voter at a place
abbrev pub visit_at : ℕ → List ScriptLine
visit_at place = visit_with place (typed_at place)

-- the lines of the first so many voters, one voter after another
abbrev pub visits : ℕ → List ScriptLine
visits voters = flat_map visit_at (range_with_len 0 voters)

-- the poll opens at 8:00:00 on its day
abbrev pub opening_moment : ℕ
opening_moment = 20261004080000

-- and is sealed at 17:00:00
abbrev pub closing_moment : ℕ
closing_moment = 20261004170000

-- the script for so many voters
abbrev pub generated_script : ℕ → List ScriptLine
generated_script voters = clerk (Abre opening_moment) ∷ visits voters ++ clerk (Encerra closing_moment) ∷ []

-- the text of lines of a script
abbrev pub text_of_script : List ScriptLine → List ℕ
text_of_script lines = lines_text (map script_line_text lines)

-- their events
abbrev pub events_in_script : List ScriptLine → List Event
events_in_script lines = flat_map script_line_events lines

-- the text of the script for so many voters
abbrev pub script_text : ℕ → List ℕ
script_text voters = text_of_script (generated_script voters)

-- and its events
abbrev pub generated_events : ℕ → List Event
generated_events voters = events_in_script (generated_script voters)

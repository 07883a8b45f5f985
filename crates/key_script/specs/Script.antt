-- The text of recorded keys: its lines, their events, and the first line outside the form.
use Rattle.std.specs.Prelude.{ℕ, ◌-◌, Bool, ◌==◌, if◌then◌else◌, List, [], ◌∷◌, length, map, codes, Option, None, Some, is_none}
use Rattle.std.specs.List.{flat_map, position_from}
use Rattle.std.specs.Option.{option_or, option_map, option_and_then}
use Rattle.std.specs.Str.{bytes_eq}
use Rattle.urna_base.specs.Digits.{is_digit, digits_value}
use Rattle.urna_base.specs.Lines.{lines_of}
use Rattle.urna_base.specs.Moment.{is_moment}
use Rattle.urna_base.specs.Words.{after_word}
use Rattle.key_script.specs.declared.keys.Key.{Key}
use Rattle.key_script.specs.declared.keys.Key.TheVariants.{Digit, Blank, Correct, Confirm}
use Rattle.key_script.specs.declared.keys.ClerkKey.{ClerkKey}
use Rattle.key_script.specs.declared.keys.ClerkKey.TheVariants.{Abre, Titulo, Libera, Cancela, Suspende, Encerra}
use Rattle.key_script.specs.declared.keys.Event.{Event}
use Rattle.key_script.specs.declared.keys.Event.TheVariants.{Clerk, Voter}

-- the first that is there
abbrev pub first_some : {A : Type 0} → List (Option A) → Option A
first_some [] = None
first_some (o ∷ os) = option_or o (first_some os)

-- all of them, where each is there
abbrev pub all_some : {A : Type 0} → List (Option A) → Option (List A)
all_some [] = Some []
all_some (None ∷ os) = None
all_some (Some x ∷ os) = option_map (λ xs. x ∷ xs) (all_some os)

-- the valid moment that 14 digits write
abbrev pub moment_value : List ℕ → Option ℕ
moment_value text = option_and_then (λ m. if is_moment m then Some m else None) (digits_value 14 text)

-- the key of a line that is a word and then a number
abbrev pub numbered : List ℕ → (List ℕ → Option ℕ) → (ℕ → ClerkKey) → List ℕ → Option ClerkKey
numbered word value key line = option_map key (option_and_then value (after_word word line))

-- the key of a line that is a word and nothing else
abbrev pub bare : List ℕ → ClerkKey → List ℕ → Option ClerkKey
bare word key line = if bytes_eq line word then Some key else None

-- the clerk's key that a line spells
unfoldable pub clerk_line : List ℕ → Option ClerkKey
clerk_line line =
    first_some (numbered (codes "M ABRE ") moment_value (λ m. Abre m) line
    ∷ numbered (codes "M TITULO ") (λ text. digits_value 12 text) (λ t. Titulo t) line
    ∷ bare (codes "M LIBERA") Libera line
    ∷ bare (codes "M CANCELA") Cancela line
    ∷ bare (codes "M SUSPENDE") Suspende line
    ∷ numbered (codes "M ENCERRA ") moment_value (λ m. Encerra m) line
    ∷ [])

-- the voter's key that a byte spells: '0' to '9' are digits, 'B' (66) is BRANCO, 'R' (82) is CORRIGE, 'C' (67) is
-- CONFIRMA
abbrev pub key_of_byte : ℕ → Option Key
key_of_byte c =
    if is_digit c then Some (Digit (c - 48)) else
    (if c == 66 then Some Blank else (if c == 82 then Some Correct else (if c == 67 then Some Confirm else None)))

-- the event of a byte that spells a key
abbrev pub voter_event : ℕ → Option Event
voter_event c = option_map (λ key. Voter key) (key_of_byte c)

-- one event for each byte, where each spells a key
unfoldable pub events_of_keys : List ℕ → Option (List Event)
events_of_keys bytes = all_some (map voter_event bytes)

-- the voter's events of a line: `E ` and then at least one key
unfoldable pub voter_line : List ℕ → Option (List Event)
voter_line line =
    option_and_then (λ keys. if length keys == 0 then None else events_of_keys keys) (after_word (codes "E ") line)

-- the events of a line of the form: the voter's, or else the clerk's one
unfoldable pub events_of_line : List ℕ → Option (List Event)
events_of_line line = option_or (voter_line line) (option_map (λ key. Clerk key ∷ []) (clerk_line line))

-- the events of the lines in order, where each is of the form
abbrev pub events_of_lines : List (List ℕ) → Option (List Event)
events_of_lines lines = option_map (λ each. flat_map (λ events. events) each) (all_some (map events_of_line lines))

-- a line is outside the form
abbrev pub is_bad : List ℕ → Bool
is_bad line = is_none (events_of_line line)

-- the events of a text, where each line is of the form
unfoldable pub events_of : List ℕ → Option (List Event)
events_of bytes = events_of_lines (lines_of bytes)

-- the number from 1 of the first line outside the form
unfoldable pub first_bad : List ℕ → Option ℕ
first_bad bytes = position_from is_bad 1 (lines_of bytes)

-- A text is read, or it has a first line outside the form, and never both.
use Rattle.std.specs.Prelude.{◌≡◌, ℕ, List, None, IsSome, MatchOption}
use Rattle.key_script.specs.Names.{names_of, first_bad_name}
use Rattle.key_script.specs.Script.{events_of, first_bad}

-- a text of keys has events exactly where no line is outside the form
abbrev pub OneAnswers : Type 0
OneAnswers = (bytes : List ℕ) → MatchOption (first_bad bytes) (IsSome (events_of bytes)) (λ _. events_of bytes ≡ None)

-- a list has names exactly where no line is outside the form
abbrev pub OneListAnswers : Type 0
OneListAnswers = (bytes : List ℕ) → MatchOption (first_bad_name bytes) (IsSome (names_of bytes)) (λ _. names_of bytes ≡ None)

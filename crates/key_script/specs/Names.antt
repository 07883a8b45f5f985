-- A list of names of files: which lines are names, and the first line outside the form.
use Rattle.std.specs.Prelude.{ℕ, ◌+◌, Bool, not, ◌&&◌, ◌==◌, nat_le, nat_lt, if◌then◌else◌, List, length, take, Option, Some, None}
use Rattle.std.specs.List.{list_all, position_from}
use Rattle.std.specs.Option.{option_or}
use Rattle.std.specs.Str.{is_utf8}
use Rattle.urna_base.specs.Lines.{lines_of}
use Rattle.urna_base.specs.Moment.{is_between}

-- the most names of a list
abbrev pub most_names : ℕ
most_names = 4096

-- the most bytes of a file's name
abbrev pub longest_file_name : ℕ
longest_file_name = 255

-- a line is the name of a file: 1 to 255 bytes of UTF-8, none of them zero
unfoldable pub is_name : List ℕ → Bool
is_name line = is_between 1 longest_file_name (length line) && (list_all (λ c. not (c == 0)) line && is_utf8 line)

-- each line is a name, and there are at most 4,096
abbrev pub are_names : List (List ℕ) → Bool
are_names lines = list_all is_name lines && nat_le (length lines) most_names

-- the names of a text are its lines, where they are names
unfoldable pub names_of : List ℕ → Option (List (List ℕ))
names_of bytes = if are_names (lines_of bytes) then Some (lines_of bytes) else None

-- a line is no name
abbrev pub is_no_name : List ℕ → Bool
is_no_name line = not (is_name line)

-- the number of the line that is one too many, whatever it holds
abbrev pub line_too_many : List (List ℕ) → Option ℕ
line_too_many lines = if nat_lt most_names (length lines) then Some (most_names + 1) else None

-- the number from 1 of the first line outside the form: of the first 4,096 lines the first that is no name, or else line 4,097
unfoldable pub first_bad_name : List ℕ → Option ℕ
first_bad_name bytes = option_or (position_from is_no_name 1 (take most_names (lines_of bytes))) (line_too_many (lines_of bytes))

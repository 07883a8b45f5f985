-- The words of a command
use Rattle.std.specs.Prelude.{ℕ, List, [], ◌∷◌, Option, Some, None, if◌then◌else◌, codes}
use Rattle.std.specs.Str.{bytes_eq}

-- recebe TABLES LIST: the names of the files
pub record Recebe : Type 0 where
  pub tables : List ℕ
  pub list : List ℕ

-- a command and its names: of abre and totais that of the tables
pub data Command : Type 0 where
  ToBegin : List ℕ → Command
  ToReceive : Recebe → Command
  ToTotal : List ℕ → Command

-- the word behind abre: TABLES
abbrev pub abre_of : List (List ℕ) → Option Command
abre_of (tables ∷ []) = Some (ToBegin tables)
abre_of [] = None
abre_of (a ∷ b ∷ more) = None

-- the words behind recebe: TABLES LIST
abbrev pub recebe_of : List (List ℕ) → Option Command
recebe_of (tables ∷ list ∷ []) = Some (ToReceive (record { tables = tables; list = list }))
recebe_of [] = None
recebe_of (a ∷ []) = None
recebe_of (a ∷ b ∷ c ∷ more) = None

-- the word behind totais: TABLES
abbrev pub totais_of : List (List ℕ) → Option Command
totais_of (tables ∷ []) = Some (ToTotal tables)
totais_of [] = None
totais_of (a ∷ b ∷ more) = None

-- the command of the words, if they are one: the first one says which
abbrev pub command_of : List (List ℕ) → Option Command
command_of [] = None
command_of (word ∷ names) =
    if bytes_eq word (codes "abre") then abre_of names
    else if bytes_eq word (codes "recebe") then recebe_of names
    else if bytes_eq word (codes "totais") then totais_of names
    else None

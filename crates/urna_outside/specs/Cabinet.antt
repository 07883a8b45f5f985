-- What a cabinet of files tells, and what its calls do to that.
use Rattle.std.specs.Prelude.{◌≡◌, ◌≢◌, ℕ, ◌<◌, ◌≤◌, List, [], ◌∷◌, Option, Some, None, if◌then◌else◌, length, IsSomeAnd, MatchOption}
use Rattle.std.specs.Str.{bytes_eq}
use Rattle.urna_outside.specs.Told.{Rose}

-- a file: the bytes of its name, and its bytes
pub record Entry : Type 0 where
  pub name : List ℕ
  pub bytes : List ℕ

-- A finite map from names to bytes. Where a name stands twice, the first counts.
abbrev pub Files : Type 0
Files = List Entry

-- the bytes of the file with this name, if it is there
abbrev pub file_at : List ℕ → Files → Option (List ℕ)
file_at name [] = None
file_at name (file ∷ files) = if bytes_eq file.name name then Some file.bytes else file_at name files

-- how often a call failed, how often a name was not found, and how often a file was found too long
pub record Tally : Type 0 where
  pub faults : ℕ
  pub missing : ℕ
  pub too_long : ℕ

-- A cabinet always tells its three counts. It may tell the map from names to bytes, and how many calls were made.
pub record CabinetTold : Type 0 where
  pub tally : Tally
  pub files : Option Files
  pub calls : Option ℕ

-- one count did not fall and rose
pub record Rises (before now : ℕ) : Type 0 where
  pub never_falls : before ≤ now
  pub rose : Rose before now

-- the count of faults rose, and the two others stayed
pub record CountsFault (old new : Tally) : Type 0 where
  pub faults : Rises old.faults new.faults
  pub missing : new.missing ≡ old.missing
  pub too_long : new.too_long ≡ old.too_long

-- the count of names not found rose, and the two others stayed
pub record CountsMissing (old new : Tally) : Type 0 where
  pub faults : new.faults ≡ old.faults
  pub missing : Rises old.missing new.missing
  pub too_long : new.too_long ≡ old.too_long

-- the count of files found too long rose, and the two others stayed
pub record CountsTooLong (old new : Tally) : Type 0 where
  pub faults : new.faults ≡ old.faults
  pub missing : new.missing ≡ old.missing
  pub too_long : Rises old.too_long new.too_long

-- the cabinet lacks this name
abbrev pub Lacks : List ℕ → Files → Type 0
Lacks name files = file_at name files ≡ None

-- the name's file is there, with these bytes
abbrev pub Holds : List ℕ → List ℕ → Files → Type 0
Holds name bytes files = file_at name files ≡ Some bytes

-- the name's file is there, and longer than the limit
abbrev pub HoldsLonger : List ℕ → ℕ → Files → Type 0
HoldsLonger name limit files = IsSomeAnd (file_at name files) (λ bytes. limit < length bytes)

-- what a put of this name leaves whatever its answer: all other names stay
abbrev pub IsPut : List ℕ → Files → Files → Type 0
IsPut name old new = (other : List ℕ) → other ≢ name → file_at other new ≡ file_at other old

-- What a put of this name does to the files, where they are told, whatever its answer: all other names stay. Whether they are told stays, too.
abbrev pub PutsInto : List ℕ → Option Files → Option Files → Type 0
PutsInto name old new = MatchOption old (new ≡ None) (λ files. IsSomeAnd new (IsPut name files))

-- Operations that put nothing on a flash
use Rattle.std.specs.Prelude.{List}
use Rattle.std.specs.List.{AllByRecursion}
use Rattle.urna_outside.specs.Flash.{Op, Put, Show, Sync}

-- an operation that puts nothing on a flash
abbrev pub PutsNothing : Op → Type 0
PutsNothing (Put d at bytes) = ⊥
PutsNothing (Sync d) = Unit {0}
PutsNothing (Show bytes) = Unit {0}

-- syncs and shows alone
abbrev pub AreIdle : List Op → Type 0
AreIdle ops = AllByRecursion PutsNothing ops

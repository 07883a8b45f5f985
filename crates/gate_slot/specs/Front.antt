-- How far operations went that a fault cut off.
use Rattle.std.specs.Prelude.{◌≡◌, ◌⊎◌, List, [], ◌∷◌, ◌++◌, Result, Ok, Err, length}
use Rattle.urna_outside.specs.Flash.{Op, Put, Sync, Show}
use Rattle.urna_outside.specs.Told.{Told, Runs, IsTornPut, IsTornShow}

-- what is done of an operation that fails: any bytes in one part of a write's range, or a front of a text; of a sync nothing
abbrev pub IsTornOf : Op → List Op → Type 0
IsTornOf (Put d at bytes) ops = IsTornPut d at (length bytes) ops
IsTornOf (Sync d) ops = ops ≡ []
IsTornOf (Show bytes) ops = IsTornShow bytes ops

-- the first operations were done as they are, and of the next one, which failed, a part or nothing
pub record IsFrontOf (whole ops : List Op) : Type 0 where
  pub before : List Op
  pub next : Op
  pub behind : List Op
  pub torn : List Op
  pub split : whole ≡ before ++ next ∷ behind
  pub torn_is : IsTornOf next torn
  pub in_row : ops ≡ before ++ torn

-- a front of operations that have P
abbrev pub IsFrontOfSome : (List Op → Type 0) → List Op → Type 0
IsFrontOfSome P ops = (whole : List Op) × P whole × IsFrontOf whole ops

-- operations that have P, or a front of them
abbrev pub IsUpTo : (List Op → Type 0) → List Op → Type 0
IsUpTo P ops = P ops ⊎ IsFrontOfSome P ops

-- Ok, operations that have P were done; an error tells that a front of such operations was.
abbrev pub RunsUpTo : {T E : Type 0} → Result T E → (List Op → Type 0) → Told → Told → Type 0
RunsUpTo (Ok x) P old new = Runs P old new
RunsUpTo (Err e) P old new = Runs (IsFrontOfSome P) old new

-- The two syncs with which a call begins that finds out what two flashes hold
use Rattle.std.specs.Prelude.{◌≡◌, ◌⊎◌, List, [], ◌∷◌, ◌++◌}
use Rattle.urna_outside.specs.Faults.{IsFaultless}
use Rattle.urna_outside.specs.Flash.{Op, Sync}
use Rattle.urna_outside.specs.Told.{Told, Does}
use Rattle.urna_outside.specs.declared.device.Dev.TheVariants.{Internal, External}

-- both devices, the internal one first
abbrev pub both_synced : List Op
both_synced = Sync Internal ∷ Sync External ∷ []

-- both were synced, nothing else was done, and no call failed
pub record IsSynced (old new : Told) : Type 0 where
  pub does : Does both_synced old new
  pub fine : IsFaultless old new

-- no call was made
abbrev pub IsUntouched : Told → Told → Type 0
IsUntouched old new = new ≡ old

-- of the two syncs the second wasn't done
abbrev pub IsWithinSyncs : List Op → Type 0
IsWithinSyncs ops = (ops ≡ []) ⊎ (ops ≡ Sync Internal ∷ [])

-- of the two syncs none, the first or both were done, and nothing else
abbrev pub IsFrontOfSyncs : List Op → Type 0
IsFrontOfSyncs ops = IsWithinSyncs ops ⊎ (ops ≡ both_synced)

-- The call ended within the two syncs, or they were done first, and P is of the rest.
abbrev pub FromSyncs : (List Op → Type 0) → List Op → Type 0
FromSyncs P ops = IsWithinSyncs ops ⊎ ((rest : List Op) × (ops ≡ both_synced ++ rest) × P rest)

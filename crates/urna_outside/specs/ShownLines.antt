-- Calls that show a text line by line, one show for each line.
use Rattle.std.specs.Prelude.{◌≡◌, ◌⊎◌, ℕ, List, [], ◌∷◌, Result, Ok, Err, map}
use Rattle.urna_outside.specs.Faults.{FaultsAt}
use Rattle.urna_outside.specs.Flash.{Op, Show}
use Rattle.urna_outside.specs.Told.{Told, Does, WithoutFault, StopsAtFault, IsTornShow}
use Rattle.urna_outside.specs.declared.device.Port.TheVariants.{Display}

-- one show for each line
abbrev pub shows : List (List ℕ) → List Op
shows lines = map (λ line. Show line) lines

-- the shows of the first lines, and of the next line what a show that failed left
abbrev pub IsCutShort : List (List ℕ) → List Op → Type 0
IsCutShort [] ops = ⊥
IsCutShort (line ∷ lines) ops = IsTornShow line ops ⊎ ((rest : List Op) × (ops ≡ Show line ∷ rest) × IsCutShort lines rest)

-- These lines were shown and nothing else was done, and no call failed.
pub record HasShown (lines : List (List ℕ)) (old new : Told) : Type 0 where
  pub does : Does (shows lines) old new
  pub faults : new.faults ≡ old.faults
  pub calls : WithoutFault old new

-- The display failed at one of these lines. Those before it were shown, and of it a front; nothing else was done, and no call
-- was made after the one that failed, as far as calls are told.
pub record IsCutOff (lines : List (List ℕ)) (old new : Told) : Type 0 where
  pub ops : List Op
  pub does : Does ops old new
  pub cut : IsCutShort lines ops
  pub faults : FaultsAt Display old.faults new.faults
  pub calls : StopsAtFault old new

-- A call shows these lines: all of them where it is Ok, and up to a fault of the display where it isn't.
abbrev pub Shows : {T E : Type 0} → Result T E → List (List ℕ) → Told → Told → Type 0
Shows (Ok x) lines old new = HasShown lines old new
Shows (Err e) lines old new = IsCutOff lines old new

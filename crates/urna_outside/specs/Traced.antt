-- A call over a machine that tells its flashes and its trail
use Rattle.std.specs.Prelude.{◌≡◌, List, ◌++◌, Some}
use Rattle.urna_outside.specs.Flash.{Flashes, Op}
use Rattle.urna_outside.specs.Told.{Told}

-- The flashes stood so before the call, and these operations are what the trail has more behind it.
pub record IsTraced (old new : Told) (start : Flashes) (ops : List Op) : Type 0 where
  pub flashes : old.flashes ≡ Some start
  pub before : List Op
  pub trail : old.trail ≡ Some before
  pub done : new.trail ≡ Some (before ++ ops)

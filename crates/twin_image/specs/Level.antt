-- Four live slots of one body.
use Rattle.std.specs.Prelude.{◌≡◌, ℕ, List, Option, length}
use Rattle.std.specs.Option.{ForSome}
use Rattle.urna_outside.specs.Flash.{Op, Flashes, flash_of}
use Rattle.urna_outside.specs.Told.{Told}
use Rattle.urna_outside.specs.declared.device.Dev.{Dev}
use Rattle.urna_outside.specs.declared.device.Dev.TheVariants.{Internal, External}
use Rattle.twin_image.specs.Twin.{IsTwin}
use Rattle.twin_image.specs.Pair.{AreOf}
use Rattle.twin_image.specs.Held.{LeavesEither}
use Rattle.twin_image.specs.Slots.{HaveRoom, AreClean, SlotCourse}
use Rattle.twin_image.specs.declared.level.Level.{Level}

-- all four slots have this body in every image, and nothing is dirty
pub record IsLevel (size : ℕ) (body : List ℕ) (flashes : Flashes) : Type 0 where
  pub twins : (d : Dev) → IsTwin size body (flash_of d flashes)
  pub clean : AreClean flashes

-- the body of a level
abbrev pub body_of : {SIZE : ℕ} → Level SIZE → List ℕ
body_of level = level.body.items

-- The tokens are those of the four slots of a machine that tells this, and what it tells of them is so.
pub record Stands {SIZE : ℕ} (told : Told) (level : Level SIZE) : Type 0 where
  pub internal : AreOf Internal level.internal.0 level.internal.1
  pub external : AreOf External level.external.0 level.external.1
  pub long : length (body_of level) ≡ SIZE
  pub fits : HaveRoom SIZE told.sizes
  pub flashes : ForSome told.flashes (IsLevel SIZE (body_of level))

-- what a commit does: at each stop both flashes, and each alone, hold the old body or the new one
abbrev pub CommitsTo : Told → (List ℕ → Option ℕ) → ℕ → List ℕ → List ℕ → List Op → Type 0
CommitsTo told rank size old new = SlotCourse told size 12 (λ start left. LeavesEither rank size old new left)

-- the tokens of a level are those of the four slots
pub record HasTokens {SIZE : ℕ} (level : Level SIZE) : Type 0 where
  pub internal : AreOf Internal level.internal.0 level.internal.1
  pub external : AreOf External level.external.0 level.external.1

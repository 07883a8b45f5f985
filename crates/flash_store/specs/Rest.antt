-- Flashes at rest with a body
use Rattle.std.specs.Prelude.{◌≡◌, ℕ, List}
use Rattle.urna_outside.specs.Flash.{Flashes, flash_of, IsClean}
use Rattle.urna_outside.specs.declared.device.Dev.{Dev}
use Rattle.twin_image.specs.Frame.{device_image}

-- Both devices are whole: each has its header, zeros behind both gates, and in both slots, whose gates are open, the body; and nothing is dirty.
pub record AreLaidWith (size : ℕ) (header : Dev → List ℕ) (body : List ℕ) (flashes : Flashes) : Type 0 where
  pub content : (d : Dev) → (flash_of d flashes).content ≡ device_image size (header d) body
  pub clean : (d : Dev) → IsClean (flash_of d flashes)

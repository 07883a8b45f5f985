-- What a call does on the four slots, and what it leaves alone.
use Rattle.std.specs.Prelude.{◌≡◌, ℕ, ◌≤◌, List, length, slice_index}
use Rattle.std.specs.Option.{ForSome}
use Rattle.urna_outside.specs.Flash.{Op, Flashes, flash_of, IsClean}
use Rattle.urna_outside.specs.Confined.{AreIn, count_syncs}
use Rattle.urna_outside.specs.Stop.{Left, AtEachStop, left_on}
use Rattle.urna_outside.specs.Told.{Told, Sizes, size_of}
use Rattle.urna_outside.specs.declared.device.Dev.{Dev}
use Rattle.urna_outside.specs.declared.device.Dev.TheVariants.{Internal, External}
use Rattle.gate_slot.specs.Slot.{room}
use Rattle.twin_image.specs.Twin.{IsOfTwin}

-- the other one of the two devices
abbrev pub beside : Dev → Dev
beside Internal = External
beside External = Internal

-- both devices have room for two slots
abbrev pub HaveRoom : ℕ → Sizes → Type 0
HaveRoom size sizes = (d : Dev) → room size ≤ size_of d sizes

-- nothing is dirty
abbrev pub AreClean : Flashes → Type 0
AreClean flashes = (d : Dev) → IsClean (flash_of d flashes)

-- an image of the same length, with the same bytes wherever no slot has its gate or its body
pub record KeepsFrame (size : ℕ) (before image : List ℕ) : Type 0 where
  pub same_length : length image ≡ length before
  pub bytes : (k : ℕ) → ¬ IsOfTwin size k → slice_index image k ≡ slice_index before k

-- Writes of gates and bodies alone, at most so many syncs; at each stop P of the start and of what is left, and the frames stay.
pub record SlotCourse (told : Told) (size most : ℕ) (P : Flashes → Left → Type 0) (ops : List Op) : Type 0 where
  pub within : AreIn (λ d k. IsOfTwin size k) ops
  pub syncs : count_syncs ops ≤ most
  pub stops : ForSome told.flashes (λ start. AtEachStop start ops (P start))
  pub frames : ForSome told.flashes (λ start. AtEachStop start ops (λ left. (d : Dev) → KeepsFrame size (flash_of d start).content (left_on d left)))

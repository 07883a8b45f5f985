-- What is so on one device, as far as a machine tells its flashes.
use Rattle.std.specs.Prelude.{ℕ}
use Rattle.std.specs.Option.{ForSome}
use Rattle.urna_outside.specs.Flash.{Flash, flash_of}
use Rattle.urna_outside.specs.Confined.{KeepsOthers}
use Rattle.urna_outside.specs.Told.{Told}
use Rattle.urna_outside.specs.declared.device.Dev.{Dev}

-- the flash of this device has F
abbrev pub OnFlash : Dev → (Flash → Type 0) → Told → Type 0
OnFlash d F told = ForSome told.flashes (λ flashes. F (flash_of d flashes))

-- Every byte of both devices but those places of this one is as before, and none of them became dirty.
abbrev pub KeepsRest : Dev → (ℕ → Type 0) → Told → Told → Type 0
KeepsRest d In old new = ForSome old.flashes (λ start. ForSome new.flashes (λ now. KeepsOthers d In start now))

-- Devices in use, which may not be loaded, and what a load does that makes none of them one
use Rattle.std.specs.Prelude.{◌≡◌, ◌⊎◌, ℕ, ◌<◌, ◌≤◌, List, ◌++◌, take}
use Rattle.std.specs.Option.{ForSome}
use Rattle.urna_outside.specs.Confined.{AreIn, count_syncs}
use Rattle.urna_outside.specs.Flash.{Op, Flashes, after, flash_of}
use Rattle.urna_outside.specs.Stop.{AtEachStop, left_on}
use Rattle.urna_outside.specs.Told.{Told}
use Rattle.urna_outside.specs.declared.device.Dev.{Dev}
use Rattle.urna_outside.specs.declared.device.Dev.TheVariants.{Internal, External}
use Rattle.gate_slot.specs.Slot.{body_in, gate_in, open_gate, room}
use Rattle.twin_image.specs.Lay.{load_ops}
use Rattle.flash_store.specs.Syncs.{both_synced}

-- by the magic with which a header begins, the size of a body, and which bodies are begun
module _ (magic : List ℕ) (size : ℕ) (IsBegun : List ℕ → Type 0) where
  -- the slot is open, and its body is begun
  abbrev pub IsUsed : ℕ → List ℕ → Type 0
  IsUsed index content = (gate_in size index content ≡ open_gate) × IsBegun (body_in size index content)

  -- a device in use: it begins with the magic, and one of its slots is used
  pub record IsInUse (content : List ℕ) : Type 0 where
    pub begins : take 8 content ≡ magic
    pub used : IsUsed 0 content ⊎ IsUsed 1 content

  -- the device is in use, and it is the first that is
  abbrev pub IsBusy : Dev → Flashes → Type 0
  IsBusy Internal flashes = IsInUse flashes.internal.content
  IsBusy External flashes = (¬ IsInUse flashes.internal.content) × IsInUse flashes.external.content

  -- no device is in use
  abbrev pub AreFree : Flashes → Type 0
  AreFree flashes = (d : Dev) → ¬ IsInUse (flash_of d flashes).content

  -- What loading does behind the two syncs: writes and few syncs. Neither device was in use, and at no stop behind the syncs one is.
  pub record Loads (told : Told) (ops : List Op) : Type 0 where
    pub within : AreIn (λ d k. k < room size) ops
    pub syncs : count_syncs ops ≤ 14
    pub free : ForSome told.flashes AreFree
    pub stops : ForSome told.flashes (λ start. AtEachStop (after both_synced start) ops (λ left. (d : Dev) → ¬ IsInUse (left_on d left)))

-- All that a load with a body does over these flashes: both are synced, and then the internal one is loaded and after it the external one. Of
-- each the gates that read open are shut, both bodies are put, header and paddings are written, and both gates are opened. Header and
-- paddings are synced together, every other write by itself.
abbrev pub IsLoad : ℕ → (Dev → List ℕ) → List ℕ → Flashes → List Op → Type 0
IsLoad size header body start ops = ops ≡ both_synced ++ load_ops size (header Internal) (header External) body start

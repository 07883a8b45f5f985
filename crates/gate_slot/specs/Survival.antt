-- Which operations leave a range alone.
use Rattle.std.specs.Prelude.{◌≡◌, ◌≢◌, ◌⊎◌, ℕ, ◌+◌, ◌≤◌, length}
use Rattle.urna_outside.specs.Flash.{Op, Put, Sync, Show, Flashes, flash_of}
use Rattle.urna_outside.specs.Confined.{IsInRange}
use Rattle.urna_outside.specs.declared.device.Dev.{Dev}

-- It writes no place of the range: it goes to another device or to other places, or is a sync or a show.
abbrev pub Misses : Dev → ℕ → ℕ → Op → Type 0
Misses d at len (Put e from bytes) =
    (e ≢ d) ⊎ ((k : ℕ) → IsInRange from (length bytes) k → ¬ IsInRange at len k)
Misses d at len (Sync e) = Unit {0}
Misses d at len (Show bytes) = Unit {0}

-- the operation lies on its device, which has a mark for each byte
abbrev pub LiesOn : Flashes → Op → Type 0
LiesOn flashes (Put e from bytes) =
    (from + length bytes ≤ length (flash_of e flashes).content) × (length (flash_of e flashes).dirty ≡ length (flash_of e flashes).content)
LiesOn flashes (Sync e) = Unit {0}
LiesOn flashes (Show bytes) = Unit {0}

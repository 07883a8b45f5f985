-- How a body takes the place of another one in a slot that is shut.
use Rattle.std.specs.Prelude.{ℕ, ◌*◌, ◌%◌, ◌≤◌, ◌==◌, List, length, if◌then◌else◌}
use Rattle.urna_outside.specs.Flash.{Op}
use Rattle.urna_outside.specs.declared.device.Dev.{Dev}
use Rattle.gate_slot.specs.Page.{page_size, changed_pages, patch_ops, put_bytes}
use Rattle.gate_slot.specs.Slot.{fill_ops}

-- Each page that changes is written, rising, and they are synced together. Where a body isn't a number of whole pages, the
-- whole of it is written, and synced.
abbrev pub rewrite_ops : ℕ → Dev → ℕ → List ℕ → List ℕ → List Op
rewrite_ops size d index old new =
    if size % page_size == 0 then patch_ops size d index old new else fill_ops size d index new

-- how many bytes are written so
abbrev pub rewrite_bytes : ℕ → List ℕ → List ℕ → ℕ
rewrite_bytes size old new = if size % page_size == 0 then page_size * length (changed_pages old new) else size

-- at most so many bytes are put
abbrev pub PutsAtMost : ℕ → List Op → Type 0
PutsAtMost most ops = put_bytes ops ≤ most

-- The pages of a body, and the step that writes those of them which change.
use Rattle.std.specs.Prelude.{◌≡◌, ℕ, ◌+◌, ◌*◌, ◌/◌, ◌<◌, ◌≤◌, List, [], ◌∷◌, ◌++◌, length, map, filter, not, Bool, true, false, get_or}
use Rattle.std.specs.List.{range_with_len}
use Rattle.std.specs.Str.{bytes_eq}
use Rattle.urna_outside.specs.Flash.{Op, Put, Sync, Show, part}
use Rattle.urna_outside.specs.Confined.{AreWithin, IsInRange, count_syncs}
use Rattle.urna_outside.specs.declared.device.Dev.{Dev}
use Rattle.gate_slot.specs.Slot.{body_offset}
use Rattle.gate_slot.specs.declared.changes.Changes.{Changes}

-- how many bytes a page has
abbrev pub page_size : ℕ
page_size = 512

-- a page of some bytes, by its number; the first one is page 0
abbrev pub page : ℕ → List ℕ → List ℕ
page k bytes = part bytes (k * page_size) page_size

-- two bodies differ in this page
abbrev pub is_changed : List ℕ → List ℕ → ℕ → Bool
is_changed old new k = not (bytes_eq (page k old) (page k new))

-- the pages in which they differ, rising, among the first n of them
abbrev pub changed_below : ℕ → List ℕ → List ℕ → List ℕ
changed_below n old new = filter (is_changed old new) (range_with_len 0 n)

-- and among all of them
abbrev pub changed_pages : List ℕ → List ℕ → List ℕ
changed_pages old new = changed_below (length new / page_size) old new

-- these changes have a mark for each of the first pages, which says whether the bodies differ in it
abbrev pub AreChanges : Changes → List ℕ → List ℕ → Type 0
AreChanges changes old new =
    (k : ℕ) → k < length changes.marks → k < length new / page_size → get_or changes.marks k false ≡ is_changed old new k

-- a place of a page in which they differ, where the bodies begin at that place
abbrev pub IsOfChanged : ℕ → List ℕ → List ℕ → ℕ → Type 0
IsOfChanged at old new k =
    (p : ℕ) × (p < length new / page_size) × (is_changed old new p ≡ true) × IsInRange (at + p * page_size) page_size k

-- these pages of a body are written, where the body begins at that place
abbrev pub put_each : Dev → ℕ → List ℕ → List ℕ → List Op
put_each d at new pages = map (λ k. Put d (at + k * page_size) (page k new)) pages

-- the pages are that differ
abbrev pub put_pages : Dev → ℕ → List ℕ → List ℕ → List Op
put_pages d at old new = put_each d at new (changed_pages old new)

-- the pages of a body that differ from the old one are written, and synced
abbrev pub patch_ops : ℕ → Dev → ℕ → List ℕ → List ℕ → List Op
patch_ops size d index old new = put_pages d (body_offset size index) old new ++ Sync d ∷ []

-- how many bytes these operations put
abbrev pub put_bytes : List Op → ℕ
put_bytes [] = 0
put_bytes (Put d at bytes ∷ ops) = length bytes + put_bytes ops
put_bytes (Sync d ∷ ops) = put_bytes ops
put_bytes (Show bytes ∷ ops) = put_bytes ops

-- writes of these places alone, of at most so many bytes together, and at most one sync of that device
pub record IsPatch (d : Dev) (In : ℕ → Type 0) (most : ℕ) (ops : List Op) : Type 0 where
  pub within : AreWithin d In ops
  pub bytes : put_bytes ops ≤ most
  pub syncs : count_syncs ops ≤ 1

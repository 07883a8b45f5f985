-- A body that is brought over another one: how many bytes, puts and syncs that takes.
use Rattle.std.proofs.Common.{◌≡◌, ◌≢◌, ℕ, zero, suc, ◌+◌, ◌*◌, ◌%◌, ◌<◌, ◌≤◌, cond, Bool, List, [], ◌∷◌, length, refl, ap, arith}
use Rattle.std.proofs.lemmas.Bool.{eq-eqb, ne_eqb}
use Rattle.urna_outside.specs.Flash.{Op, Put, Sync, Show}
use Rattle.urna_outside.specs.Confined.{AreWithin, IsInRange, count_puts}
use Rattle.urna_outside.specs.Told.{Told, Runs}
use Rattle.urna_outside.specs.declared.device.Dev.{Dev}
use Rattle.urna_outside.proofs.Doing.{runs-append}
use Rattle.gate_slot.specs.Page.{IsPatch, page_size, changed_pages, patch_ops, put_bytes}
use Rattle.gate_slot.specs.Slot.{IsOneWrite, fill_ops}
use Rattle.gate_slot.proofs.Paging.{bytes-append}
use Rattle.twin_image.specs.Rewrite.{PutsAtMost, rewrite_bytes, rewrite_ops}

-- no write puts more bytes than its places
put_fits : (at n from len : ℕ) → ((k : ℕ) → from ≤ k → k < from + len → IsInRange at n k) → len ≤ n
put_fits at n from zero within = omega arith
put_fits at n from (suc len) within =
    let first = within from (omega arith) (omega arith) in
    let last = within (from + len) (omega arith) (omega arith) in
    omega (arith, first.0, last.1)

no_bytes : (d : Dev) (In : ℕ → Type 0) (ops : List Op) → AreWithin d In ops → count_puts ops ≤ 0 → put_bytes ops ≡ 0
no_bytes d In [] all none = refl
no_bytes d In (Put e from bytes ∷ ops) all none = absurd (omega (arith, none))
no_bytes d In (Sync e ∷ ops) all none = no_bytes d In ops all.1 none
no_bytes d In (Show bytes ∷ ops) all none = absurd all.0

bytes_within : (d : Dev) (at n : ℕ) (ops : List Op) → AreWithin d (IsInRange at n) ops → count_puts ops ≤ 1 → put_bytes ops ≤ n
bytes_within d at n [] all one = omega arith
bytes_within d at n (Put e from bytes ∷ ops) all one =
    omega (arith, put_fits at n from (length bytes) all.0.1, no_bytes d (IsInRange at n) ops all.1 (omega (arith, one)))
bytes_within d at n (Sync e ∷ ops) all one = bytes_within d at n ops all.1 one
bytes_within d at n (Show bytes ∷ ops) all one = absurd all.0

-- one write is a patch of as many bytes as its range has
pub patch_of_write : (d : Dev) (at n : ℕ) (a b : Told) → Runs (IsOneWrite d (IsInRange at n)) a b → Runs (IsPatch d (IsInRange at n) n) a b
patch_of_write d at n a b run = (
  run.0,
  run.1,
  record {
    within = run.2.within;
    bytes = bytes_within d at n run.0 run.2.within run.2.puts;
    syncs = run.2.syncs;
  },
)

pub patch_bytes : (d : Dev) (In : ℕ → Type 0) (most : ℕ) (a b : Told) → Runs (IsPatch d In most) a b → Runs (PutsAtMost most) a b
patch_bytes d In most a b run = (run.0, run.1, run.2.bytes)

pub write_bytes : (d : Dev) (at n : ℕ) (a b : Told) → Runs (IsOneWrite d (IsInRange at n)) a b → Runs (PutsAtMost n) a b
write_bytes d at n a b run = patch_bytes d (IsInRange at n) n a b (patch_of_write d at n a b run)

-- few bytes, and then few more
pub puts-append : (m n p : ℕ) (a b c : Told) → m + n ≤ p → Runs (PutsAtMost m) a b → Runs (PutsAtMost n) b c → Runs (PutsAtMost p) a c
puts-append m n p a b c fits =
    runs-append (PutsAtMost m) (PutsAtMost n) (PutsAtMost p) a b c (λ xs ys few more. omega (arith, fits, few, more, bytes-append xs ys))

pub puts_more : (m p : ℕ) (a b : Told) → m ≤ p → Runs (PutsAtMost m) a b → Runs (PutsAtMost p) a b
puts_more m p a b fits run = (run.0, run.1, omega (arith, fits, run.2))

-- by the size of a body
pub in_pages : (size : ℕ) (d : Dev) (index : ℕ) (old new : List ℕ) → size % page_size ≡ 0 → rewrite_ops size d index old new ≡ patch_ops size d index old new
in_pages size d index old new is =
    ap (λ (t : Bool). cond t (patch_ops size d index old new) (fill_ops size d index new)) (eq-eqb (size % page_size) 0 is)

pub as_a_whole : (size : ℕ) (d : Dev) (index : ℕ) (old new : List ℕ) → size % page_size ≢ 0 → (rewrite_ops size d index old new ≡ fill_ops size d index new) × (rewrite_bytes size old new ≡ size)
as_a_whole size d index old new other = (
  ap (λ (t : Bool). cond t (patch_ops size d index old new) (fill_ops size d index new)) (ne_eqb (size % page_size) 0 other),
  ap (λ (t : Bool). cond t (page_size * length (changed_pages old new)) size) (ne_eqb (size % page_size) 0 other),
)

-- How many syncs, puts and bytes a commit has.
use Rattle.std.proofs.Common.{◌≡◌, ◌≢◌, ℕ, ◌+◌, ◌*◌, ◌%◌, Bool, true, false, cond, eqb, List, [], ◌∷◌, ◌++◌, length, refl, ap, ◌∙◌, arith}
use Rattle.std.proofs.lemmas.Bool.{eqb-true}
use Rattle.urna_outside.specs.Flash.{Op, Put, Sync, Show}
use Rattle.urna_outside.specs.Confined.{count_puts, count_syncs}
use Rattle.urna_outside.specs.declared.device.Dev.{Dev}
use Rattle.urna_outside.specs.declared.device.Dev.TheVariants.{Internal, External}
use Rattle.urna_outside.proofs.Runs.{syncs-append}
use Rattle.gate_slot.specs.Page.{page_size, changed_pages, patch_ops, put_bytes, put_each, put_pages}
use Rattle.gate_slot.specs.Slot.{body_offset, fill_ops, shut_ops, publish_ops}
use Rattle.gate_slot.proofs.Paging.{bytes-append, patch_pages}
use Rattle.twin_image.specs.Order.{IsTurn, IsRenewal, AreRenewals}
use Rattle.twin_image.specs.Rewrite.{rewrite_bytes, rewrite_ops}
use Rattle.twin_image.proofs.Ordering.{turn_ops}
use Rattle.twin_image.proofs.Rewriting.{as_a_whole, in_pages}

count-append : (xs ys : List Op) → count_puts (xs ++ ys) ≡ count_puts xs + count_puts ys
count-append [] ys = omega arith
count-append (Put d at bytes ∷ xs) ys = omega (arith, count-append xs ys)
count-append (Sync d ∷ xs) ys = count-append xs ys
count-append (Show bytes ∷ xs) ys = count-append xs ys

-- pages that are written: a put each, and no sync
each_page : (d : Dev) (at : ℕ) (new pages : List ℕ) → (count_puts (put_each d at new pages) ≡ length pages) × (count_syncs (put_each d at new pages) ≡ 0)
each_page d at new [] = (refl, refl)
each_page d at new (k ∷ pages) =
    let rest = each_page d at new pages in (omega (arith, rest.0), rest.1)

module _ (size : ℕ) (d : Dev) (index : ℕ) (old new : List ℕ) where
  abbrev Pages : List Op
  Pages = put_pages d (body_offset size index) old new

  rewrite_syncs : (t : Bool) → count_syncs (cond t (patch_ops size d index old new) (fill_ops size d index new)) ≡ 1
  rewrite_syncs true =
      omega (arith, syncs-append Pages (Sync d ∷ []), (each_page d (body_offset size index) new (changed_pages old new)).1)
  rewrite_syncs false = refl

  rewrite_puts : size % page_size ≡ 0 → count_puts (rewrite_ops size d index old new) ≡ length (changed_pages old new)
  rewrite_puts whole =
      ap count_puts (in_pages size d index old new whole)
      ∙ omega (arith, count-append Pages (Sync d ∷ []), (each_page d (body_offset size index) new (changed_pages old new)).0)

  rewrite_whole : size % page_size ≢ 0 → count_puts (rewrite_ops size d index old new) ≡ 1
  rewrite_whole other = ap count_puts (as_a_whole size d index old new other).0

  rewrite_puts_bytes : length new ≡ size → (t : Bool) → eqb (size % page_size) 0 ≡ t
      → put_bytes (cond t (patch_ops size d index old new) (fill_ops size d index new)) ≡ cond t (page_size * length (changed_pages old new)) size
  rewrite_puts_bytes long false is = omega (arith, long)
  rewrite_puts_bytes long true is =
      let whole : length new % page_size ≡ 0 = ap (λ (n : ℕ). n % page_size) long ∙ eqb-true (size % page_size) 0 is in
      omega (arith, bytes-append Pages (Sync d ∷ []), (patch_pages old new d (body_offset size index) whole).bytes)

  -- a slot has its turn
  pub turn_syncs : count_syncs (turn_ops size d index old new) ≡ 3
  turn_syncs =
      omega (arith, syncs-append (rewrite_ops size d index old new) (publish_ops size d index), rewrite_syncs (eqb (size % page_size) 0))

  pub turn_puts : size % page_size ≡ 0 → count_puts (turn_ops size d index old new) ≡ length (changed_pages old new) + 2
  turn_puts whole =
      omega (arith, count-append (rewrite_ops size d index old new) (publish_ops size d index), rewrite_puts whole)

  pub turn_whole : size % page_size ≢ 0 → count_puts (turn_ops size d index old new) ≡ 3
  turn_whole other =
      omega (arith, count-append (rewrite_ops size d index old new) (publish_ops size d index), rewrite_whole other)

  pub turn_bytes : length new ≡ size → put_bytes (turn_ops size d index old new) ≡ rewrite_bytes size old new + 2
  turn_bytes long =
      omega (arith, bytes-append (rewrite_ops size d index old new) (publish_ops size d index), rewrite_puts_bytes long (eqb (size % page_size) 0) refl)

-- What adds up over operations in a row, and is n of each turn, is four times as much of a commit.
module _ (size : ℕ) (old new : List ℕ) (count : List Op → ℕ) (adds : (xs ys : List Op) → count (xs ++ ys) ≡ count xs + count ys) (n : ℕ) (of_turn : (d : Dev) (index : ℕ) → count (turn_ops size d index old new) ≡ n) where
  of_one : (d : Dev) (index : ℕ) (ops : List Op) → IsTurn size d index old new ops → count ops ≡ n
  of_one d index ops is =
      let same = is.in_row ∙ ap (λ (body : List Op). shut_ops size d index ++ body ++ publish_ops size d index) is.body_is in
      ap count same ∙ of_turn d index

  of_renewal : (d : Dev) (ops : List Op) → IsRenewal size d old new ops → count ops ≡ 2 * n
  of_renewal d ops is =
      omega (arith, ap count is.in_row, adds is.first is.second, of_one d 0 is.first is.first_is, of_one d 1 is.second is.second_is)

  of_commit : (ops : List Op) → AreRenewals size old new ops → count ops ≡ 4 * n
  of_commit ops are =
      omega (arith, ap count are.in_row, adds are.internal are.external, of_renewal Internal are.internal are.internal_is, of_renewal External are.external are.external_is)

module _ (size : ℕ) (old new : List ℕ) (ops : List Op) (are : AreRenewals size old new ops) where
  pub commit_syncs : count_syncs ops ≡ 12
  commit_syncs = of_commit size old new count_syncs syncs-append 3 (λ d index. turn_syncs size d index old new) ops are

  pub commit_puts : size % page_size ≡ 0 → count_puts ops ≡ 4 * (length (changed_pages old new) + 2)
  commit_puts whole =
      of_commit size old new count_puts count-append (length (changed_pages old new) + 2) (λ d index. turn_puts size d index old new whole) ops are

  pub commit_whole : size % page_size ≢ 0 → count_puts ops ≡ 12
  commit_whole other =
      of_commit size old new count_puts count-append 3 (λ d index. turn_whole size d index old new other) ops are

  pub commit_bytes : length new ≡ size → put_bytes ops ≡ 4 * (rewrite_bytes size old new + 2)
  commit_bytes long =
      of_commit size old new put_bytes bytes-append (rewrite_bytes size old new + 2) (λ d index. turn_bytes size d index old new long) ops are

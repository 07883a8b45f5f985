-- What stands there after a patch.
use Rattle.std.proofs.Common.{◌≡◌, ℕ, zero, suc, ◌+◌, ◌*◌, ◌-◌, ◌/◌, ◌%◌, ◌≤◌, ◌<◌, inl, inr, Bool, true, false, cond, List, [], ◌∷◌, ◌++◌, length, get_or, refl, sym, ap, subst, ◌∙◌, arith}
use Rattle.std.specs.Option.{ForSome}
use Rattle.std.proofs.lemmas.Bool.{cases_lt}
use Rattle.urna_outside.specs.Flash.{Put, Sync, Flash, Flashes, flash_of, put, synced, after, after_one, overwrite, part, IsClean, Stably}
use Rattle.urna_outside.specs.Told.{Told, Does, AreSized, size_of}
use Rattle.urna_outside.specs.declared.device.Dev.{Dev}
use Rattle.urna_outside.proofs.Doing.{after-append, then_told}
use Rattle.urna_outside.proofs.Keeping.{flash_same, synced_clean, stands_clean}
use Rattle.urna_outside.proofs.Places.{length-overwrite, overwrite_inside, overwrite_outside, get_or-part, length-part, part_by_bytes}
use Rattle.gate_slot.specs.Page.{page_size, page, is_changed, put_each, put_pages}
use Rattle.gate_slot.proofs.Paging.{all_pages, changed_from, puts_from, same_page}

-- a byte of a page
in_page : (bytes : List ℕ) (k i : ℕ) → k * page_size ≤ i → i < (k + 1) * page_size → get_or (page k bytes) (i - k * page_size) 0 ≡ get_or bytes i 0
in_page bytes k i low high =
    let back : k * page_size + (i - k * page_size) ≡ i = omega arith in
    get_or-part bytes (k * page_size) page_size (i - k * page_size) (omega arith) ∙ ap (λ (n : ℕ). get_or bytes n 0) back

module _ (old new : List ℕ) (d : Dev) (at : ℕ) where
  -- the first n pages of what stands there are new, and the others old
  pub record IsPagedTo (n : ℕ) (f : Flash) : Type 0 where
    pub fits : at + length new ≤ length f.content
    pub done : (i : ℕ) → i < n * page_size → get_or f.content (at + i) 0 ≡ get_or new i 0
    pub ahead : (i : ℕ) → n * page_size ≤ i → i < length new → get_or f.content (at + i) 0 ≡ get_or old i 0

  pub page_put : (k : ℕ) (f : Flash) → (k + 1) * page_size ≤ length new → IsPagedTo k f → IsPagedTo (k + 1) (put (at + k * page_size) (page k new) f)
  page_put k f within paged =
      let from = at + k * page_size in
      let long = length-part new (k * page_size) page_size (omega arith) in
      let place : from + length (page k new) ≤ length f.content = omega (arith, long, paged.fits) in
      record {
        fits = omega (arith, paged.fits, length-overwrite f.content from (page k new) place);
        done = λ i below. elim (cases_lt i (k * page_size)) [
          | inl under ↦ overwrite_outside f.content from (page k new) place (at + i) 0 (λ above. absurd (omega (arith, above, under))) ∙ paged.done i under
          | inr over ↦
              let step : at + i ≡ from + (i - k * page_size) = omega (arith, over) in
              ap (λ (n : ℕ). get_or (overwrite f.content from (page k new)) n 0) step
              ∙ overwrite_inside f.content from (page k new) place (i - k * page_size) 0 (omega (arith, long, over, below))
              ∙ in_page new k i over below
        ];
        ahead = λ i over low. overwrite_outside f.content from (page k new) place (at + i) 0 (λ above. omega (arith, long, over)) ∙ paged.ahead i (omega (arith, over)) low;
      }

  pub page_kept : (k : ℕ) (f : Flash) → (k + 1) * page_size ≤ length new → page k old ≡ page k new → IsPagedTo k f → IsPagedTo (k + 1) f
  page_kept k f within same paged =
      record {
        fits = paged.fits;
        done = λ i below. elim (cases_lt i (k * page_size)) [
          | inl under ↦ paged.done i under
          | inr over ↦
              paged.ahead i over (omega (arith, within, below))
              ∙ sym (in_page old k i over below)
              ∙ ap (λ (l : List ℕ). get_or l (i - k * page_size) 0) same
              ∙ in_page new k i over below
        ];
        ahead = λ i over low. paged.ahead i (omega (arith, over)) low;
      }

  -- it is so of any flash with this content
  pub same_content : (n : ℕ) (f g : Flash) → f.content ≡ g.content → IsPagedTo n f → IsPagedTo n g
  same_content n f g same paged = record {
    fits = subst (λ (l : List ℕ). at + length new ≤ length l) same paged.fits;
    done = λ i below. subst (λ (l : List ℕ). get_or l (at + i) 0 ≡ get_or new i 0) same (paged.done i below);
    ahead = λ i over low. subst (λ (l : List ℕ). get_or l (at + i) 0 ≡ get_or old i 0) same (paged.ahead i over low);
  }

  paged_from : (k m : ℕ) (fs : Flashes) → (k + m) * page_size ≤ length new → IsPagedTo k (flash_of d fs) → IsPagedTo (k + m) (flash_of d (after (puts_from old new d at k m) fs))
  paged_from k zero fs within paged =
      let same : k ≡ k + 0 = omega arith in subst (λ (n : ℕ). IsPagedTo n (flash_of d fs)) same paged
  paged_from k (suc m) fs within paged =
      let step : k + 1 + m ≡ k + suc m = omega arith in
      subst (λ (n : ℕ). IsPagedTo n (flash_of d (after (puts_from old new d at k (suc m)) fs))) step
      (by (λ gs one. paged_from (k + 1) m gs (omega (arith, within)) one) (is_changed old new k) refl)
    where
      by : ((gs : Flashes) → IsPagedTo (k + 1) (flash_of d gs) → IsPagedTo (k + 1 + m) (flash_of d (after (puts_from old new d at (k + 1) m) gs))) → (t : Bool) → is_changed old new k ≡ t
          → IsPagedTo (k + 1 + m) (flash_of d (after (put_each d at new (cond t (k ∷ changed_from old new (k + 1) m) (changed_from old new (k + 1) m))) fs))
      by rest false is = rest fs (page_kept k (flash_of d fs) (omega arith) (same_page old new k is) paged)
      by rest true is =
          let f = put (at + k * page_size) (page k new) (flash_of d fs) in
          rest (after_one (Put d (at + k * page_size) (page k new)) fs) (subst (IsPagedTo (k + 1)) (sym (flash_same d f fs)) (page_put k (flash_of d fs) (omega arith) paged))

  paged : (start : Flashes) → length new % page_size ≡ 0 → at + length new ≤ length (flash_of d start).content → part (flash_of d start).content at (length new) ≡ old
      → Stably (flash_of d (after (put_pages d at old new ++ Sync d ∷ []) start)) at new × IsClean (flash_of d (after (put_pages d at old new ++ Sync d ∷ []) start))
  paged start whole fits was =
      let ops = put_pages d at old new in
      let there = flash_of d (after ops start) in
      let all = all_pages (length new) whole in
      let begun : IsPagedTo 0 (flash_of d start) = record {
        fits = fits;
        done = λ i below. absurd (omega (arith, below));
        ahead = λ i over low. sym (get_or-part (flash_of d start).content at (length new) i low) ∙ ap (λ (l : List ℕ). get_or l i 0) was;
      } in
      let to = paged_from 0 (length new / page_size) start (omega (arith, all)) begun in
      let same : flash_of d (after (ops ++ Sync d ∷ []) start) ≡ synced there = ap (flash_of d) (after-append ops (Sync d ∷ []) start) ∙ flash_same d (synced there) (after ops start) in
      subst (λ (f : Flash). Stably f at new × IsClean f) (sym same) (
        stands_clean (synced there) at new (synced_clean there) to.fits (part_by_bytes there.content new at to.fits (λ i below. to.done i (omega (arith, all, below)))),
        synced_clean there,
      )

-- After a patch the new body stands there, and nothing is dirty.
pub patched : (d : Dev) (at size : ℕ) (old new : List ℕ) (a b : Told) → length new ≡ size → size % page_size ≡ 0 → at + size ≤ size_of d a.sizes → ForSome a.flashes (AreSized a.sizes)
    → ForSome a.flashes (λ fs. part (flash_of d fs).content at size ≡ old) → Does (put_pages d at old new ++ Sync d ∷ []) a b → ForSome b.flashes (λ fs. Stably (flash_of d fs) at new × IsClean (flash_of d fs))
patched d at size old new a b long whole fits sized was does =
    then_told (put_pages d at old new ++ Sync d ∷ []) a b (λ fs. Stably (flash_of d fs) at new × IsClean (flash_of d fs)) does (λ start told.
    let all = ap (λ (n : ℕ). n % page_size) long ∙ whole in
    let there = ap (λ (n : ℕ). part (flash_of d start).content at n) long ∙ was start told in
    paged old new d at start all (omega (arith, fits, long, (sized start told).content d)) there)

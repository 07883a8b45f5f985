-- What there is for the next call of a program
use Rattle.std.proofs.Common.{◌≡◌, ◌≢◌, ◌⊎◌, inl, inr, ℕ, List, [], ◌∷◌, Option, Some, length, refl, sym, subst}
use Rattle.std.specs.Prelude.{false, replicate, slice_index_or}
use Rattle.std.proofs.lemmas.List.{length-replicate}
use Rattle.urna_outside.specs.Flash.{Flashes, IsClean, IsImage, Op, Sync, after, clean_flash, shown_by}
use Rattle.urna_outside.specs.Stop.{IsLeft, IsStop, Left}
use Rattle.urna_outside.specs.declared.device.Dev.TheVariants as dev
use Rattle.urna_outside.specs.declared.device.Port.{Port}
use Rattle.urna_outside.proofs.Keeping.{synced_clean}
use Rattle.urna_outside.proofs.Stops.{stop_whole}
use Rattle.flash_store.specs.Syncs.{IsWithinSyncs, both_synced}
use Rattle.flash_store.proofs.Resting.{clean_image}
use Rattle.command_parts.specs.Steps.{IsInterrupted, IsNext, cut, cut_behind, ended, stopped}

pub clean_is_clean : (content : List ℕ) → IsClean (clean_flash content)
clean_is_clean content =
    subst (λ (n : ℕ). (k : ℕ) → slice_index_or (replicate n false) k false ≡ false) (length-replicate (length content) false) (synced_clean (clean_flash content))

-- what a power cut left of flashes, on which nothing is dirty, is an image of them
pub left_images : (flashes : Flashes) (text : List ℕ) (left : Left) → IsLeft flashes text left → (a b : List ℕ)
    → IsImage (clean_flash left.internal) a → IsImage (clean_flash left.external) b → IsImage flashes.internal a × IsImage flashes.external b
left_images flashes text left is a b internal external =
    let i : a ≡ left.internal = clean_image (clean_flash left.internal) a (clean_is_clean left.internal) internal in
    let e : b ≡ left.external = clean_image (clean_flash left.external) b (clean_is_clean left.external) external in
    (subst (IsImage flashes.internal) (sym i) is.internal, subst (IsImage flashes.external) (sym e) is.external)

-- nothing was shown, or something
pub none_or_some : (l : List ℕ) → (l ≡ []) ⊎ (l ≢ [])
none_or_some [] = inl refl
none_or_some (one ∷ l) = inr (λ is. absurd (cc))

-- ---- stops

pub stop_none : (ops done : List Op) → ops ≡ [] → IsStop ops done → done ≡ []
stop_none ops [] none stop = refl
stop_none ops (one ∷ done) none stop = absurd (subst (λ (l : List Op). IsStop l (one ∷ done)) none stop)

nothing_stop : (done : List Op) → IsStop [] done → IsStop both_synced done
nothing_stop [] stop = tt
nothing_stop (one ∷ done) stop = absurd stop

first_stop : (done : List Op) → IsStop (Sync dev.Internal ∷ []) done → IsStop both_synced done
first_stop [] stop = tt
first_stop (one ∷ []) (inl whole) = inl (whole.0, tt)
first_stop (one ∷ two ∷ done) (inl whole) = absurd whole.1
first_stop (one ∷ done) (inr part) = absurd part.0

-- a stop of a call that ended within the two syncs is one of the syncs
pub within_stop : (ops done : List Op) → IsWithinSyncs ops → IsStop ops done → IsStop both_synced done
within_stop ops done (inl nothing) stop = nothing_stop done (subst (λ (l : List Op). IsStop l done) nothing stop)
within_stop ops done (inr one) stop = first_stop done (subst (λ (l : List Op). IsStop l done) one stop)

-- ---- a call that is over

module _ {S : Type 0} (port_status : Port → S) where
  -- it was interrupted, or ended
  abbrev pub IsOver : Option S → S → List Op → List Op → Type 0
  IsOver over answer all done = IsInterrupted port_status over ⊎ ((over ≡ Some answer) × (done ≡ all))

  -- what there is for the next call is an image of a stop
  pub goes : (start : Flashes) (answer : S) (ops done : List Op) (over : Option S) (next : Flashes) (P : List ℕ → List ℕ → Type 0) → IsNext start ops answer done over next
      → ((a b : List ℕ) → IsStop ops done → IsImage (after done start).internal a → IsImage (after done start).external b → IsOver over answer ops done → P a b)
      → (a b : List ℕ) → IsImage next.internal a → IsImage next.external b → P a b
  goes start answer ops _ _ _ P ended h a b internal external = h a b (stop_whole ops) internal external (inr (refl, refl))
  goes start answer ops _ _ _ P (cut_behind {left} is) h a b internal external =
      let images = left_images (after ops start) (shown_by ops) left is a b internal external in
      h a b (stop_whole ops) images.0 images.1 (inr (refl, refl))
  goes start answer ops done _ _ P (cut {left} stop is) h a b internal external =
      let images = left_images (after done start) (shown_by done) left is a b internal external in
      h a b stop images.0 images.1 (inl stopped)

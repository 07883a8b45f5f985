-- Puts and syncs of operations in a row, and what survives operations in some places.
use Rattle.std.proofs.Common.{◌≡◌, ℕ, ◌+◌, ◌<◌, List, [], ◌∷◌, ◌++◌, sym, ◌∙◌, arith}
use Rattle.std.specs.Option.{ForSome}
use Rattle.urna_outside.specs.Flash.{Op, Put, Sync, Show, Flashes, flash_of, after}
use Rattle.urna_outside.specs.Told.{Told, Does, AreSized, size_of}
use Rattle.urna_outside.specs.Confined.{AreWithin, KeepsOthers, count_syncs}
use Rattle.urna_outside.specs.declared.device.Dev.{Dev}
use Rattle.urna_outside.proofs.Keeping.{HasPlaces, within_keeps}
use Rattle.urna_outside.proofs.Doing.{then_told}

pub syncs-append : (xs ys : List Op) → count_syncs (xs ++ ys) ≡ count_syncs xs + count_syncs ys
syncs-append [] ys = omega arith
syncs-append (Put d at bytes ∷ xs) ys = syncs-append xs ys
syncs-append (Sync d ∷ xs) ys = omega (arith, syncs-append xs ys)
syncs-append (Show bytes ∷ xs) ys = syncs-append xs ys

-- the places of a told device
pub places_of : (d : Dev) (In : ℕ → Type 0) (a : Told) (start : Flashes) → AreSized a.sizes start → ((k : ℕ) → In k → k < size_of d a.sizes) → HasPlaces In (flash_of d start)
places_of d In a start sized bounded =
    record {
      even = sized.dirty d ∙ sym (sized.content d);
      bounded = λ k is. omega (arith, bounded k is, sized.content d);
    }

-- A fact that survives whatever keeps all but some places survives operations in those places.
pub run_keeps : (d : Dev) (In : ℕ → Type 0) (F : Flashes → Type 0) (ops : List Op) (a b : Told) → Does ops a b → AreWithin d In ops → ForSome a.flashes (AreSized a.sizes) → ((k : ℕ) → In k → k < size_of d a.sizes)
    → ((fs gs : Flashes) → KeepsOthers d In fs gs → F fs → F gs) → ForSome a.flashes F → ForSome b.flashes F
run_keeps d In F ops a b does within sized bounded survives fact =
    then_told ops a b F does (λ start told.
    survives start (after ops start) (within_keeps d In ops start within (places_of d In a start (sized start told) bounded)) (fact start told))

-- What is held of a few bodies, ranked by their length; how bodies of 4 and of 1,536 bytes take the place of others; and of a
-- fault before anything was done, in which slot and step it cut the renewal off.
use Rattle.std.proofs.Common.{◌≡◌, ℕ, List, [], ◌∷◌, ◌++◌, Option, Some, None, length, replicate, refl, ap, ◌∙◌}
use Rattle.urna_outside.specs.Flash.{Op, Put, Sync}
use Rattle.urna_outside.specs.declared.device.Dev.TheVariants.{Internal}
use Rattle.gate_slot.specs.declared.slot.Step.TheVariants.{Shutting, Publishing}
use Rattle.gate_slot.proofs.Fronts.{none_yet}
use Rattle.twin_image.specs.Cut.{IsRenewalCutIn, before_step}
use Rattle.twin_image.specs.Held.{held_body}
use Rattle.twin_image.specs.Rewrite.{rewrite_bytes, rewrite_ops}

by_length : List ℕ → Option ℕ
by_length body = Some (length body)

none_stands : held_body by_length [] ≡ None
none_stands = refl

greatest : held_body by_length ((1 ∷ []) ∷ (2 ∷ 3 ∷ []) ∷ (4 ∷ []) ∷ []) ≡ Some (2 ∷ 3 ∷ [])
unfolding by_length
greatest = refl

first_of_equals : held_body by_length ((1 ∷ []) ∷ (2 ∷ 3 ∷ []) ∷ (4 ∷ 5 ∷ []) ∷ []) ≡ Some (2 ∷ 3 ∷ [])
unfolding by_length
first_of_equals = refl

short_body : rewrite_ops 4 Internal 0 (1 ∷ 2 ∷ 3 ∷ 4 ∷ []) (1 ∷ 2 ∷ 3 ∷ 5 ∷ []) ≡ Put Internal 1024 (1 ∷ 2 ∷ 3 ∷ 5 ∷ []) ∷ Sync Internal ∷ []
short_body = refl

last_page : rewrite_ops 1536 Internal 0 (replicate 1536 1) (replicate 1024 1 ++ replicate 512 2) ≡ Put Internal 2048 (replicate 512 2) ∷ Sync Internal ∷ []
last_page = refl

bytes_of_one_page : rewrite_bytes 1536 (replicate 1536 1) (replicate 1024 1 ++ replicate 512 2) ≡ 512
bytes_of_one_page = refl

before_the_gate_opens : before_step 4 Internal 1 (1 ∷ 2 ∷ 3 ∷ 4 ∷ []) (1 ∷ 2 ∷ 3 ∷ 5 ∷ []) Publishing ≡ Put Internal 1028 (0x5A ∷ []) ∷ Sync Internal ∷ Put Internal 1540 (1 ∷ 2 ∷ 3 ∷ 5 ∷ []) ∷ Sync Internal ∷ []
before_the_gate_opens = refl

nothing_shut : (old new : List ℕ) → IsRenewalCutIn 4 Internal old new 0 Shutting []
nothing_shut old new =
    record { front = []; front_is = none_yet [] (Put Internal 512 (0x5A ∷ [])) (Sync Internal ∷ []); in_row = refl }

nothing_of_slot_1 : (old new : List ℕ) → ¬ IsRenewalCutIn 4 Internal old new 1 Shutting []
nothing_of_slot_1 old new cut =
    let begun = cut.in_row ∙ ap (λ (l : List Op). l ++ cut.rest) cut.first_is.in_row in absurd (cc)

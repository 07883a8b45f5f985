-- The marks of a device, of which all but some are known to be clean
use Rattle.std.proofs.Common.{◌≡◌, ℕ, ◌+◌, ◌-◌, ◌<◌, ◌≤◌, inl, inr, Bool, false, List, length, replicate, get_or, sym, ap, ◌∙◌, arith}
use Rattle.std.proofs.lemmas.Bool.{cases_lt}
use Rattle.std.proofs.lemmas.List.{ext_get_or, get_or-replicate, length-replicate}
use Rattle.urna_outside.specs.Flash.{overwrite}
use Rattle.memory_outside.specs.Marks.{IsCleanBut}
use Rattle.urna_outside.proofs.Places.{length-overwrite, overwrite_inside, overwrite_outside}

-- no byte is dirty
pub all_clean : (marks : List Bool) (n : ℕ) → length marks ≡ n → ((k : ℕ) → k < n → get_or marks k false ≡ false) → marks ≡ replicate n false
all_clean marks n long clean =
    ext_get_or false marks (replicate n false) (long ∙ sym (length-replicate n false)) (λ k below.
    let under : k < n = omega (arith, below, long) in
    clean k under ∙ sym (get_or-replicate n k false false under))

-- the others are wiped
pub wiped : (marks : List Bool) (first end : ℕ) → first < end → end ≤ length marks → IsCleanBut first end marks
    → overwrite marks first (replicate (end - first) false) ≡ replicate (length marks) false
wiped marks first end some within others =
    let new = replicate (end - first) false in
    let long = length-replicate (end - first) false in
    let fits : first + length new ≤ length marks = omega (arith, long, some, within) in
    all_clean (overwrite marks first new) (length marks) (length-overwrite marks first new fits) (λ k below. elim (cases_lt k first) [
      | inl before ↦ overwrite_outside marks first new fits k false (λ above. absurd (omega (arith, above, before))) ∙ others k below (inl before)
      | inr above ↦ elim (cases_lt k end) [
        | inl under ↦
            let place : k ≡ first + (k - first) = omega (arith, above) in
            ap (λ (i : ℕ). get_or (overwrite marks first new) i false) place
            ∙ overwrite_inside marks first new fits (k - first) false (omega (arith, long, above, under))
            ∙ get_or-replicate (end - first) (k - first) false false (omega (arith, above, under))
        | inr behind ↦ overwrite_outside marks first new fits k false (λ _. omega (arith, long, behind, some)) ∙ others k below (inr behind)
      ]
    ])

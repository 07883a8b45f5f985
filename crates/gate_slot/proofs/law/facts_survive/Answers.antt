use Rattle.std.proofs.Common.{inl, inr, ℕ, List, length, sym, subst, ◌∙◌, arith}
use Rattle.urna_outside.specs.Flash.{Op, Put, Sync, Show, Flash, Flashes, flash_of, put, synced, after_one, Stably}
use Rattle.urna_outside.specs.Confined.{IsInRange}
use Rattle.urna_outside.specs.declared.device.Dev.{Dev}
use Rattle.urna_outside.proofs.Frames.{same_or_not}
use Rattle.urna_outside.proofs.Keeping.{in_image, stays, put_keeps, synced_keeps, flash_same, flash_other}
use Rattle.gate_slot.specs.Survival.{Misses, LiesOn}
use Rattle.gate_slot.proofs.Images.{gate_image}
use Rattle.gate_slot.proofs.law.facts_survive.Goals as goal

-- places that the range has not
abbrev Apart : ℕ → ℕ → ℕ → ℕ → Type 0
Apart from len at n = (k : ℕ) → IsInRange from len k → ¬ IsInRange at n k

put_misses : (d : Dev) (at : ℕ) (bytes : List ℕ) (from : ℕ) (new : List ℕ) (fs : Flashes) → LiesOn fs (Put d from new) → Apart from (length new) at (length bytes) → Stably (flash_of d fs) at bytes → Stably (flash_of d (after_one (Put d from new) fs)) at bytes
put_misses d at bytes from new fs lies apart stands =
    let f = flash_of d fs in
    let keeps = put_keeps (IsInRange from (length new)) f from new lies.1 (λ k low high. (low, high)) (λ k is. omega (arith, is.1, lies.0)) in
    subst (λ (g : Flash). Stably g at bytes) (sym (flash_same d (put from new f) fs)) (stays (IsInRange from (length new)) f (put from new f) at bytes (λ k low high is. apart k is (low, high)) keeps stands)

survives : (d : Dev) (at : ℕ) (bytes : List ℕ) (op : Op) (fs : Flashes) → LiesOn fs op → Misses d at (length bytes) op → Stably (flash_of d fs) at bytes → Stably (flash_of d (after_one op fs)) at bytes
survives d at bytes (Put e from new) fs lies (inl differ) stands =
    subst (λ (g : Flash). Stably g at bytes) (sym (flash_other e d (put from new (flash_of e fs)) fs (λ same. differ (sym same)))) stands
survives d at bytes (Put e from new) fs lies (inr apart) stands = elim (same_or_not d e) [
  | inl same ↦
      subst (λ (x : Dev). LiesOn fs (Put x from new) → Stably (flash_of d (after_one (Put x from new) fs)) at bytes) same (λ l. put_misses d at bytes from new fs l apart stands) lies
  | inr differ ↦ subst (λ (g : Flash). Stably g at bytes) (sym (flash_other e d (put from new (flash_of e fs)) fs differ)) stands
]
survives d at bytes (Sync e) fs lies misses stands = elim (same_or_not d e) [
  | inl same ↦
      let kept = stays (λ k. ⊥) (flash_of d fs) (synced (flash_of d fs)) at bytes (λ k low high no. no) (synced_keeps (λ k. ⊥) (flash_of d fs)) stands in
      subst (λ (x : Dev). Stably (flash_of d (after_one (Sync x) fs)) at bytes) same (subst (λ (g : Flash). Stably g at bytes) (sym (flash_same d (synced (flash_of d fs)) fs)) kept)
  | inr differ ↦ subst (λ (g : Flash). Stably g at bytes) (sym (flash_other e d (synced (flash_of e fs)) fs differ)) stands
]
survives d at bytes (Show text) fs lies misses stands = stands

pub returns : goal.returns
returns c =
    record {
      shut = λ size index flash image is shows opened. is.1 (sym (gate_image size index is.0 flash image is.2 shows) ∙ opened);
      opened = λ size index flash image. gate_image size index 0xA5 flash image;
      body = λ size index body flash image. in_image flash _ body image;
      survive = survives;
    }

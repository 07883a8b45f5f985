-- The two slots of a device, one after the other.
use Rattle.std.proofs.Common.{◌≡◌, ℕ, zero, suc, ◌+◌, ◌<◌, ◌≤◌, ◌⊎◌, inl, inr, Some, List, [], ◌∷◌, length, refl, sym, subst, ◌∙◌, arith}
use Rattle.std.specs.Option.{ForSome}
use Rattle.urna_outside.specs.Flash.{Flash, Flashes, flash_of, after, IsImage}
use Rattle.urna_outside.specs.Confined.{KeepsOthers}
use Rattle.urna_outside.specs.Stop.{Left, left_on}
use Rattle.urna_outside.specs.Stage.{Stage}
use Rattle.urna_outside.specs.Told.{Told, Does, Runs, AreSized, size_of}
use Rattle.urna_outside.specs.declared.device.Dev.{Dev}
use Rattle.urna_outside.proofs.Doing.{told_after}
use Rattle.urna_outside.proofs.Keeping.{within_keeps}
use Rattle.urna_outside.proofs.Runs.{places_of, run_keeps}
use Rattle.gate_slot.specs.Device.{OnFlash, KeepsRest}
use Rattle.gate_slot.specs.declared.slot.Step.{Step}
use Rattle.urna_outside.proofs.Stages.{left_image, stage_weaker, stage_stronger, stages-append}
use Rattle.gate_slot.specs.Slot.{room, gate_offset, body_offset, gate_in, body_in, shut_ops}
use Rattle.gate_slot.proofs.Written.{gate_fits, body_fits, stands_through}
use Rattle.gate_slot.proofs.Images.{gate_image, body_image}
use Rattle.twin_image.specs.Twin.{IsOfSlot, IsOfTwin, IsLive, IsOldOrNew, TurnsTo, Turns, HoldsEither, Renews, StepLeaves}

pub slot_bounded : (size index n : ℕ) → index < 2 → room size ≤ n → (k : ℕ) → IsOfSlot size index k → k < n
slot_bounded size index n below fits k (inl gate) = omega (arith, gate_fits size index n below fits, gate.1)
slot_bounded size index n below fits k (inr body) = omega (arith, body_fits size index n below fits, body.1)

-- what a slot that is live shows in each image
pub live_image : (size index : ℕ) (body : List ℕ) (f : Flash) (image : List ℕ) → length body ≡ size → IsLive size index body f → IsImage f image → (gate_in size index image ≡ 0xA5) × (body_in size index image ≡ body)
live_image size index body f image long live is =
    (gate_image size index 0xA5 f image live.gate is, body_image size index body f image long live.body_stands is)

-- the other slot stays live
pub live_stays : (d : Dev) (In : ℕ → Type 0) (size index : ℕ) (body : List ℕ) → length body ≡ size → ((k : ℕ) → gate_offset size index ≤ k → k < body_offset size index + size → ¬ In k)
    → (fs gs : Flashes) → KeepsOthers d In fs gs → IsLive size index body (flash_of d fs) → IsLive size index body (flash_of d gs)
live_stays d In size index body long apart fs gs keeps live =
    record {
      gate = stands_through d In (gate_offset size index) (0xA5 ∷ []) (λ k low high. apart k low (omega arith)) fs gs keeps live.gate;
      body_stands = stands_through d In (body_offset size index) body (λ k low high. apart k (omega arith) (omega arith)) fs gs keeps live.body_stands;
    }

-- the other one of slots 0 and 1
abbrev pub other_slot : ℕ → ℕ
other_slot zero = 1
other_slot (suc n) = 0

-- a place of one slot is none of the other
pub apart : (size index : ℕ) → index < 2 → (k : ℕ) → gate_offset size (other_slot index) ≤ k → k < body_offset size (other_slot index) + size → ¬ IsOfSlot size index k
apart size zero below k low high (inl gate) = omega (arith, gate.1)
apart size zero below k low high (inr body) = omega (arith, body.1)
apart size (suc zero) below k low high (inl gate) = omega (arith, gate.0)
apart size (suc zero) below k low high (inr body) = omega (arith, body.0)
apart size (suc (suc n)) below k low high is = omega arith

in_twin : (size index : ℕ) → index < 2 → (k : ℕ) → IsOfSlot size index k → IsOfTwin size k
in_twin size zero below k is = inl is
in_twin size (suc zero) below k is = inr is
in_twin size (suc (suc n)) below k is = absurd (omega arith)

pub one_of : {now body old new : List ℕ} → now ≡ body → (body ≡ old) ⊎ (body ≡ new) → (now ≡ old) ⊎ (now ≡ new)
one_of same (inl is) = inl (same ∙ is)
one_of same (inr is) = inr (same ∙ is)

either : {now before old new : List ℕ} {C : Type 0} → before ≡ old → (now ≡ new) ⊎ ((now ≡ before) × C) → (now ≡ old) ⊎ (now ≡ new)
either was (inl is) = inr is
either was (inr is) = inl (is.0 ∙ was)

-- a stage keeps every byte but those of its places
pub stage_rest : (d : Dev) (In : ℕ → Type 0) (n : ℕ) (P : Flashes → Left → Type 0) (a b : Told) → ForSome a.flashes (AreSized a.sizes) → ((k : ℕ) → In k → k < size_of d a.sizes) → Runs (Stage a d In n P) a b → KeepsRest d In a b
stage_rest d In n P a b sized bounded run start told now later =
    let same : after run.0 start ≡ now = some_same (sym (told_after run.0 a b start run.1 told) ∙ later) in
    subst (KeepsOthers d In start) same (within_keeps d In run.0 start run.2.within (places_of d In a start (sized start told) bounded))
  where
    some_same : {x y : Flashes} → Some x ≡ Some y → x ≡ y
    some_same e = cc

-- what reads give is one image
pub content_image : (f : Flash) → IsImage f f.content
content_image f = record { same_length = refl; clean = λ k clean. refl }

-- a live slot's gate reads open
pub live_gate : (size index : ℕ) (body : List ℕ) (f : Flash) → IsLive size index body f → gate_in size index f.content ≡ 0xA5
live_gate size index body f live = gate_image size index 0xA5 f f.content live.gate (content_image f)

-- so what its shutting does where the gate reads open was done
pub live_shut : (d : Dev) (size index : ℕ) (body : List ℕ) (a b : Told) → OnFlash d (IsLive size index body) a → OnFlash d (λ flash. gate_in size index flash.content ≡ 0xA5 → Does (shut_ops size d index) a b) a
    → ForSome a.flashes (λ start. Does (shut_ops size d index) a b)
live_shut d size index body a b live shuts start told =
    shuts start told (live_gate size index body (flash_of d start) (live start told))

-- what a step leaves of a slot that has another name
pub leaves_at : (d : Dev) (size i j : ℕ) (step : Step) (old new : List ℕ) (b : Told) → i ≡ j → OnFlash d (StepLeaves step size j old new) b → OnFlash d (StepLeaves step size i old new) b
leaves_at d size i j step old new b same leaves = subst (λ (k : ℕ). OnFlash d (StepLeaves step size k old new) b) (sym same) leaves

pub twin_bounded : (size n : ℕ) → room size ≤ n → (k : ℕ) → IsOfTwin size k → k < n
twin_bounded size n fits k (inl first) = let below : 0 < 2 = omega arith in slot_bounded size 0 n below fits k first
twin_bounded size n fits k (inr second) = let below : 1 < 2 = omega arith in slot_bounded size 1 n below fits k second

-- whatever a stage of one slot does, the other stays live
pub other_live : (d : Dev) (size index n : ℕ) (P : Flashes → Left → Type 0) (body : List ℕ) (a b : Told) → index < 2 → length body ≡ size → room size ≤ size_of d a.sizes → ForSome a.flashes (AreSized a.sizes)
    → OnFlash d (IsLive size (other_slot index) body) a → Runs (Stage a d (IsOfSlot size index) n P) a b → OnFlash d (IsLive size (other_slot index) body) b
other_live d size index n P body a b below long fits sized live run =
    run_keeps d (IsOfSlot size index) (λ fs. IsLive size (other_slot index) body (flash_of d fs)) run.0 a b run.1 run.2.within sized (slot_bounded size index (size_of d a.sizes) below fits)
    (live_stays d (IsOfSlot size index) size (other_slot index) body long (apart size index below)) live

-- one slot has one of two bodies, or is shut, and the other is open with one of them
one_open : (size index : ℕ) (old new body image : List ℕ) → index < 2 → (body ≡ old) ⊎ (body ≡ new) → IsOldOrNew size index old new image → (gate_in size (other_slot index) image ≡ 0xA5) × (body_in size (other_slot index) image ≡ body)
    → HoldsEither size old new image
one_open size zero old new body image below one turning is =
    record { first = turning; second = λ gate. one_of is.1 one; open_one = inr is.0 }
one_open size (suc zero) old new body image below one turning is =
    record { first = λ gate. one_of is.1 one; second = turning; open_one = inl is.0 }
one_open size (suc (suc n)) old new body image below one turning is = absurd (omega arith)

module _ (d : Dev) (size : ℕ) (old new : List ℕ) (old_long : length old ≡ size) where
  abbrev Holding : Flashes → Left → Type 0
  Holding start left = HoldsEither size old new (left_on d left)

  -- while one slot turns, the other has one of the two bodies
  pub turn_stage : (index : ℕ) (body : List ℕ) (a b : Told) → index < 2 → length body ≡ size → (body ≡ old) ⊎ (body ≡ new) → room size ≤ size_of d a.sizes → ForSome a.flashes (AreSized a.sizes)
      → OnFlash d (IsLive size index old) a → OnFlash d (IsLive size (other_slot index) body) a → Runs (Turns a d size index new) a b → Runs (Stage a d (IsOfTwin size) 3 Holding) a b
  turn_stage index body a b below long one fits sized live other run =
      let In = IsOfSlot size index in
      let held = stage_stronger d In 3 (λ start left. TurnsTo size index new (flash_of d start).content (left_on d left)) Holding a b sized (slot_bounded size index (size_of d a.sizes) below fits) (λ start told fs left keeps is turns.
      let still = live_stays d In size (other_slot index) body long (apart size index below) start fs keeps (other start told) in
      let seen = live_image size (other_slot index) body (flash_of d fs) (left_on d left) long still (left_image d fs [] left is) in
      let had = live_image size index old (flash_of d start) (flash_of d start).content old_long (live start told) (content_image (flash_of d start)) in
      one_open size index old new body (left_on d left) below one (λ gate. either had.1 (turns gate)) seen) run in
      stage_weaker d In (IsOfTwin size) 3 3 Holding Holding a b (in_twin size index below) (omega arith) (λ start told left p. p) held

  -- the call stops while slot 0 turns
  pub renewed_first : (a b : Told) → Runs (Stage a d (IsOfTwin size) 3 Holding) a b → Runs (Renews a d size old new) a b
  renewed_first a b run = stage_weaker d (IsOfTwin size) (IsOfTwin size) 3 6 Holding Holding a b (λ k is. is) (omega arith) (λ start told left p. p) run

  -- or later
  pub renewed : (a b c : Told) → Runs (Stage a d (IsOfTwin size) 3 Holding) a b → Runs (Stage b d (IsOfTwin size) 3 Holding) b c → Runs (Renews a d size old new) a c
  renewed a b c first second =
      stage_weaker d (IsOfTwin size) (IsOfTwin size) (3 + 3) 6 Holding Holding a c (λ k is. is) (omega arith) (λ start told left p. p) (stages-append d (IsOfTwin size) 3 3 Holding Holding a b c (λ start mid told later left p. p) first second)

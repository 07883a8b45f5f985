-- What the slots of a device hold, now and at each stop.
use Rattle.std.specs.Prelude.{◌≡◌, ◌⊎◌, ◌==◌, ℕ, List, [], ◌++◌, if◌then◌else◌}
use Rattle.urna_outside.specs.Flash.{Op, Flash, flash_of}
use Rattle.urna_outside.specs.Stage.{Stage}
use Rattle.urna_outside.specs.Stop.{left_on}
use Rattle.urna_outside.specs.Told.{Told}
use Rattle.urna_outside.specs.declared.device.Dev.{Dev}
use Rattle.gate_slot.specs.Slot.{open_gate, IsGate, IsBody, IsGateOpen, IsGateShut, HasBody, gate_in, body_in, shut_ops, fill_ops, publish_ops}
use Rattle.gate_slot.specs.declared.slot.Step.{Step}
use Rattle.gate_slot.specs.declared.slot.Step.TheVariants.{Shutting, Filling, Publishing}

-- a place of the slot's gate or body
abbrev pub IsOfSlot : ℕ → ℕ → ℕ → Type 0
IsOfSlot size index k = IsGate size index k ⊎ IsBody size index k

-- a place of one of the two slots
abbrev pub IsOfTwin : ℕ → ℕ → Type 0
IsOfTwin size k = IsOfSlot size 0 k ⊎ IsOfSlot size 1 k

-- the slot is open with this body, in every image
pub record IsLive (size index : ℕ) (body : List ℕ) (flash : Flash) : Type 0 where
  pub gate : IsGateOpen size index flash
  pub body_stands : HasBody size index body flash

-- both slots are
pub record IsTwin (size : ℕ) (body : List ℕ) (flash : Flash) : Type 0 where
  pub first : IsLive size 0 body flash
  pub second : IsLive size 1 body flash

-- over this content: an open gate is shut, and any other is left alone
abbrev pub shutting_ops : ℕ → Dev → ℕ → List ℕ → List Op
shutting_ops size d index content = if gate_in size index content == open_gate then shut_ops size d index else []

-- and the slot is filled and published
abbrev pub turning_ops : ℕ → Dev → ℕ → List ℕ → List ℕ → List Op
turning_ops size d index body content =
    shutting_ops size d index content ++ fill_ops size d index body ++ publish_ops size d index

-- what a step that failed leaves of its slot, in every image: the old body, a shut gate, or the new body
abbrev pub StepLeaves : Step → ℕ → ℕ → List ℕ → List ℕ → Flash → Type 0
StepLeaves Shutting size index old new flash = HasBody size index old flash
StepLeaves Filling size index old new flash = IsGateShut size index flash
StepLeaves Publishing size index old new flash = HasBody size index new flash

-- if the slot is open in this image, it was open before and has the body that it had
abbrev pub WasOpen : ℕ → ℕ → List ℕ → List ℕ → Type 0
WasOpen size index before image =
    gate_in size index image ≡ open_gate → (body_in size index image ≡ body_in size index before) × (gate_in size index before ≡ open_gate)

-- if the slot is open in this image, it has the new body, or was open before and has the body that it had
abbrev pub TurnsTo : ℕ → ℕ → List ℕ → List ℕ → List ℕ → Type 0
TurnsTo size index new before image =
    gate_in size index image ≡ open_gate → (body_in size index image ≡ new) ⊎ ((body_in size index image ≡ body_in size index before) × (gate_in size index before ≡ open_gate))

-- what a call does that brings one slot to a new body
abbrev pub Turns : Told → Dev → ℕ → ℕ → List ℕ → List Op → Type 0
Turns told d size index new =
    Stage told d (IsOfSlot size index) 3 (λ start left. TurnsTo size index new (flash_of d start).content (left_on d left))

-- the slot is shut in this image, or has one of these bodies
abbrev pub IsOldOrNew : ℕ → ℕ → List ℕ → List ℕ → List ℕ → Type 0
IsOldOrNew size index old new image =
    gate_in size index image ≡ open_gate → (body_in size index image ≡ old) ⊎ (body_in size index image ≡ new)

-- each slot is so, and one is open at least
pub record HoldsEither (size : ℕ) (old new image : List ℕ) : Type 0 where
  pub first : IsOldOrNew size 0 old new image
  pub second : IsOldOrNew size 1 old new image
  pub open_one : (gate_in size 0 image ≡ open_gate) ⊎ (gate_in size 1 image ≡ open_gate)

-- what a call does that renews the twins of a device
abbrev pub Renews : Told → Dev → ℕ → List ℕ → List ℕ → List Op → Type 0
Renews told d size old new = Stage told d (IsOfTwin size) 6 (λ start left. HoldsEither size old new (left_on d left))

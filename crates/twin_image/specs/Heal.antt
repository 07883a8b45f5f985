-- What a heal does to each slot, and what it keeps.
use Rattle.std.specs.Prelude.{◌≡◌, ◌≢◌, ◌⊎◌, ◌++◌, ℕ, List, [], Option, Some}
use Rattle.urna_outside.specs.Flash.{Op, Flashes, flash_of}
use Rattle.urna_outside.specs.Stage.{Stage}
use Rattle.urna_outside.specs.Stop.{Left, left_on}
use Rattle.urna_outside.specs.Told.{Told}
use Rattle.urna_outside.specs.declared.device.Dev.{Dev}
use Rattle.urna_outside.specs.declared.device.Dev.TheVariants.{Internal, External}
use Rattle.gate_slot.specs.Slot.{open_gate, gate_in, body_in}
use Rattle.twin_image.specs.Held.{HoldsBody, held_by_both}
use Rattle.twin_image.specs.Slots.{SlotCourse}
use Rattle.twin_image.specs.Twin.{IsOfSlot, IsOfTwin, TurnsTo, turning_ops}

-- A slot that was open with this body is so in this image. Any other is brought to the body.
pub record MendsTo (size index : ℕ) (body before image : List ℕ) : Type 0 where
  pub live : gate_in size index before ≡ open_gate → body_in size index before ≡ body → (gate_in size index image ≡ open_gate) × (body_in size index image ≡ body)
  pub turns : TurnsTo size index body before image

-- what a call does that mends one slot
abbrev pub Mends : Told → Dev → ℕ → ℕ → List ℕ → List Op → Type 0
Mends told d size index body =
    Stage told d (IsOfSlot size index) 3 (λ start left. MendsTo size index body (flash_of d start).content (left_on d left))

-- All that mending a slot does over this content: nothing where it is open with the body, else a turn.
abbrev pub IsMend : ℕ → Dev → ℕ → List ℕ → List ℕ → List Op → Type 0
IsMend size d index body content ops =
    ((gate_in size index content ≡ open_gate) × (body_in size index content ≡ body) × (ops ≡ []))
    ⊎ ((gate_in size index content ≡ open_gate → body_in size index content ≢ body) × (ops ≡ turning_ops size d index body content))

-- slot 0 is mended, and then slot 1
pub record AreMends (size : ℕ) (d : Dev) (body content : List ℕ) (ops : List Op) : Type 0 where
  pub first : List Op
  pub second : List Op
  pub first_is : IsMend size d 0 body content first
  pub second_is : IsMend size d 1 body content second
  pub in_row : ops ≡ first ++ second

-- the slots of the internal flash are, and then those of the external one
pub record IsHeal (size : ℕ) (body : List ℕ) (start : Flashes) (ops : List Op) : Type 0 where
  pub internal : List Op
  pub external : List Op
  pub internal_is : AreMends size Internal body start.internal.content internal
  pub external_is : AreMends size External body start.external.content external
  pub in_row : ops ≡ internal ++ external

-- both slots of a device
pub record MendsBoth (size : ℕ) (body before image : List ℕ) : Type 0 where
  pub first : MendsTo size 0 body before image
  pub second : MendsTo size 1 body before image

-- what a call does that mends the twins of a device
abbrev pub MendsTwin : Told → Dev → ℕ → List ℕ → List Op → Type 0
MendsTwin told d size body =
    Stage told d (IsOfTwin size) 6 (λ start left. MendsBoth size body (flash_of d start).content (left_on d left))

-- by whatever ranks both flashes held this body at the start, they hold it now
abbrev pub KeepsHeld : ℕ → List ℕ → Flashes → Left → Type 0
KeepsHeld size body start left =
    (rank : List ℕ → Option ℕ) → HoldsBody rank size body start → held_by_both rank size left ≡ Some body

-- what is left at a stop of a heal: both flashes hold the body, and each slot was open with it or is brought to it
pub record LeavesHeld (size : ℕ) (body : List ℕ) (start : Flashes) (left : Left) : Type 0 where
  pub both : KeepsHeld size body start left
  pub slots : (d : Dev) → MendsBoth size body (flash_of d start).content (left_on d left)

-- what a heal does
abbrev pub Heals : Told → ℕ → List ℕ → List Op → Type 0
Heals told size body = SlotCourse told size 12 (LeavesHeld size body)

-- In which order all four slots, which are open, are brought to a new body.
use Rattle.std.specs.Prelude.{◌≡◌, ℕ, List, ◌++◌}
use Rattle.urna_outside.specs.Flash.{Op}
use Rattle.urna_outside.specs.declared.device.Dev.{Dev}
use Rattle.urna_outside.specs.declared.device.Dev.TheVariants.{Internal, External}
use Rattle.gate_slot.specs.Slot.{shut_ops, publish_ops}
use Rattle.twin_image.specs.Rewrite.{rewrite_ops}

-- The new body takes the place of the old one in a slot that is shut: by the pages that change, which are synced together. How a
-- commit writes a body is said by `rewrite_ops` alone.
abbrev pub IsPutOver : ℕ → Dev → ℕ → List ℕ → List ℕ → List Op → Type 0
IsPutOver size d index old new ops = ops ≡ rewrite_ops size d index old new

-- an open slot has its turn: its gate is shut and synced, the body is put, and the gate is opened and synced
pub record IsTurn (size : ℕ) (d : Dev) (index : ℕ) (old new : List ℕ) (ops : List Op) : Type 0 where
  pub body : List Op
  pub body_is : IsPutOver size d index old new body
  pub in_row : ops ≡ shut_ops size d index ++ body ++ publish_ops size d index

-- slot 0 of a device has its turn, and then slot 1
pub record IsRenewal (size : ℕ) (d : Dev) (old new : List ℕ) (ops : List Op) : Type 0 where
  pub first : List Op
  pub second : List Op
  pub first_is : IsTurn size d 0 old new first
  pub second_is : IsTurn size d 1 old new second
  pub in_row : ops ≡ first ++ second

-- the slots of the internal flash are renewed, and then those of the external one
pub record AreRenewals (size : ℕ) (old new : List ℕ) (ops : List Op) : Type 0 where
  pub internal : List Op
  pub external : List Op
  pub internal_is : IsRenewal size Internal old new internal
  pub external_is : IsRenewal size External old new external
  pub in_row : ops ≡ internal ++ external

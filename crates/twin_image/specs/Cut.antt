-- How far the turn of an open slot came that a fault cut off, and how far a renewal.
use Rattle.std.specs.Prelude.{◌≡◌, ℕ, zero, suc, List, [], ◌++◌}
use Rattle.urna_outside.specs.Flash.{Op}
use Rattle.urna_outside.specs.declared.device.Dev.{Dev}
use Rattle.gate_slot.specs.Front.{IsFrontOf}
use Rattle.gate_slot.specs.Slot.{shut_ops, publish_ops}
use Rattle.gate_slot.specs.declared.slot.Step.{Step}
use Rattle.gate_slot.specs.declared.slot.Step.TheVariants.{Shutting, Filling, Publishing}
use Rattle.twin_image.specs.Order.{IsTurn}
use Rattle.twin_image.specs.Rewrite.{rewrite_ops}

-- the operations of a step of a slot's turn
abbrev pub step_ops : ℕ → Dev → ℕ → List ℕ → List ℕ → Step → List Op
step_ops size d index old new Shutting = shut_ops size d index
step_ops size d index old new Filling = rewrite_ops size d index old new
step_ops size d index old new Publishing = publish_ops size d index

-- those of the steps before it
abbrev pub before_step : ℕ → Dev → ℕ → List ℕ → List ℕ → Step → List Op
before_step size d index old new Shutting = []
before_step size d index old new Filling = shut_ops size d index
before_step size d index old new Publishing = shut_ops size d index ++ rewrite_ops size d index old new

-- a turn that a fault cut off in this step: the steps before it whole, and a front of its own operations
pub record IsTurnCutIn (size : ℕ) (d : Dev) (index : ℕ) (old new : List ℕ) (step : Step) (ops : List Op) : Type 0 where
  pub front : List Op
  pub front_is : IsFrontOf (step_ops size d index old new step) front
  pub in_row : ops ≡ before_step size d index old new step ++ front

-- slot 0 of a device had its whole turn, and that of slot 1 was cut off in this step
pub record IsSecondCutIn (size : ℕ) (d : Dev) (old new : List ℕ) (step : Step) (ops : List Op) : Type 0 where
  pub first : List Op
  pub rest : List Op
  pub first_is : IsTurn size d 0 old new first
  pub rest_is : IsTurnCutIn size d 1 old new step rest
  pub in_row : ops ≡ first ++ rest

-- A renewal that a fault cut off in this step of this slot's turn: that of slot 0, or behind it that of slot 1. There is no other slot.
abbrev pub IsRenewalCutIn : ℕ → Dev → List ℕ → List ℕ → ℕ → Step → List Op → Type 0
IsRenewalCutIn size d old new zero step ops = IsTurnCutIn size d 0 old new step ops
IsRenewalCutIn size d old new (suc zero) step ops = IsSecondCutIn size d old new step ops
IsRenewalCutIn size d old new (suc (suc k)) step ops = ⊥

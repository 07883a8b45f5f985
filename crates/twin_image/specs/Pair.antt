-- Two tokens of one device.
use Rattle.std.specs.Prelude.{◌≡◌, ℕ, List}
use Rattle.urna_outside.specs.Flash.{Flash}
use Rattle.urna_outside.specs.declared.device.Dev.{Dev}
use Rattle.gate_slot.specs.Slot.{IsGateShut, IsGateOpen, HasBody, IsFilled}
use Rattle.gate_slot.specs.Token.{slot_of_live}
use Rattle.gate_slot.specs.declared.slot.Live.{Live}
use Rattle.gate_slot.specs.declared.slot.Slot.{Slot}

-- the tokens name the slots 0 and 1 of that device
pub record AreOf {SIZE : ℕ} (d : Dev) (first second : Live SIZE) : Type 0 where
  pub first_dev : (slot_of_live first).dev ≡ d
  pub second_dev : (slot_of_live second).dev ≡ d
  pub first_index : (slot_of_live first).index ≡ 0
  pub second_index : (slot_of_live second).index ≡ 1

-- the slots 0 and 1 of that device
pub record AreSlots {SIZE : ℕ} (d : Dev) (first second : Slot SIZE) : Type 0 where
  pub first_is : first ≡ record { dev = d; index = 0 }
  pub second_is : second ≡ record { dev = d; index = 1 }

-- both slots are shut, in every image
pub record AreShut (size : ℕ) (flash : Flash) : Type 0 where
  pub first : IsGateShut size 0 flash
  pub second : IsGateShut size 1 flash

-- both slots have this body, in every image
pub record HaveBody (size : ℕ) (body : List ℕ) (flash : Flash) : Type 0 where
  pub first : HasBody size 0 body flash
  pub second : HasBody size 1 body flash

-- both slots are shut over a whole body, in every image
pub record AreFilled (size : ℕ) (flash : Flash) : Type 0 where
  pub first : IsFilled size 0 flash
  pub second : IsFilled size 1 flash

-- both slots are open, in every image
pub record AreOpen (size : ℕ) (flash : Flash) : Type 0 where
  pub first : IsGateOpen size 0 flash
  pub second : IsGateOpen size 1 flash

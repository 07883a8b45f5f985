-- Calls of a program one after the other, each of which the power may have stopped
use Rattle.std.specs.Prelude.{◌≡◌, ◌⊎◌, ℕ, ◌+◌, List, Option, Some, None}
use Rattle.urna_outside.specs.Cabinet.{CabinetTold, Files}
use Rattle.urna_outside.specs.Flash.{Flashes, Op, after, shown_by}
use Rattle.urna_outside.specs.Started.{clean_flashes}
use Rattle.urna_outside.specs.Stop.{IsLeft, IsStop, Left}
use Rattle.urna_outside.specs.Told.{Told}
use Rattle.urna_outside.specs.Traced.{IsTraced}
use Rattle.urna_outside.specs.declared.device.Port.{Port}

-- A call as one sees it: its words, the files that there were, the bytes that were shown, and the status with which it ended, if the power
-- didn't stop it before.
pub record Call (S : Type 0) : Type 0 where
  pub words : List (List ℕ)
  pub files : Files
  pub shown : List ℕ
  pub status : Option S

-- What there is for the next call. Where this one ended, the flashes are as it left them, also where bytes are dirty; or the power went
-- behind it, and they have what was left then, with nothing dirty. So it is, too, where the power stopped the call, when some first of its
-- operations were done and any part of the next.
pub data IsNext {S : Type 0} (start : Flashes) (ops : List Op) (answer : S) : List Op → Option S → Flashes → Type 0 where
  ended : IsNext start ops answer ops (Some answer) (after ops start)
  cut_behind : {left : Left} → IsLeft (after ops start) (shown_by ops) left
      → IsNext start ops answer ops (Some answer) (clean_flashes left.internal left.external)
  cut : {done : List Op} {left : Left} → IsStop ops done → IsLeft (after done start) (shown_by done) left
      → IsNext start ops answer done None (clean_flashes left.internal left.external)

-- how a program's calls end: its words, what the cabinet and the machine told before and after, and the status
abbrev pub Ending : Type 0 → Type 1
Ending S = List (List ℕ) → CabinetTold → CabinetTold → Told → Told → S → Type 0

-- a call of any words over these flashes, which ended or was stopped, and what there is for the next
pub record IsCall {S : Type 0} (Ends : Ending S) (start : Flashes) (x : Call S) (next : Flashes) : Type 0 where
  pub cabinet : CabinetTold
  pub cabinet_after : CabinetTold
  pub machine : Told
  pub machine_after : Told
  pub answer : S
  pub ends : Ends x.words cabinet cabinet_after machine machine_after answer
  pub told : cabinet.files ≡ Some x.files
  pub ops : List Op
  pub traced : IsTraced machine machine_after start ops
  pub done : List Op
  pub shown : x.shown ≡ shown_by done
  pub goes_on : IsNext start ops answer done x.status next

-- The power stopped the call, or a flash or the display failed, of which these statuses tell.
pub data IsInterrupted {S : Type 0} (port_status : Port → S) : Option S → Type 0 where
  stopped : IsInterrupted port_status None
  failed : (p : Port) → IsInterrupted port_status (Some (port_status p))

-- as many as the display had begun to tell, or one more where the call was interrupted
abbrev pub IsToldOrOneMore : {S : Type 0} → (Port → S) → Option S → ℕ → ℕ → Type 0
IsToldOrOneMore port_status status told n = (n ≡ told) ⊎ (IsInterrupted port_status status × (n ≡ told + 1))

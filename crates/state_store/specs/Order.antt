-- In which order a commit and a load go through the slots
use Rattle.std.specs.Prelude.{List}
use Rattle.urna_outside.specs.Flash.{Op, Flashes}
use Rattle.election_tables.specs.TablesData.{TablesData}
use Rattle.image_codec.specs.Encoding.{encode}
use Rattle.image_codec.specs.State.{State}
use Rattle.gate_slot.specs.Front.{IsFrontOfSome}
use Rattle.flash_store.specs.InUse.{IsLoad as IsLoadOf}
use Rattle.twin_image.specs.Order.{AreRenewals}
use Rattle.image_codec.specs.Layout.{body_size}
use Rattle.state_store.specs.Load.{header}
use Rattle.state_store.specs.declared.load.Load.{Load}

-- All that a commit does over flashes at rest with a state: internal 0, internal 1, external 0 and external 1 are brought to the
-- next state, one after the other. Of each the gate is shut, each page of the body that changes is put and the gate is opened, and each of
-- these three steps is synced.
abbrev pub IsCommit : TablesData → State → State → List Op → Type 0
IsCommit t s u ops = AreRenewals body_size (encode t s) (encode t u) ops

-- All that a load with a state does over these flashes.
abbrev pub IsLoad : TablesData → Load → State → Flashes → List Op → Type 0
IsLoad t load s start ops = IsLoadOf body_size (header load) (encode t s) start ops

-- a front of such a load: its first operations as they are, and of the next one a part or nothing
abbrev pub IsFrontOfLoad : TablesData → Load → State → Flashes → List Op → Type 0
IsFrontOfLoad t load s start ops = IsFrontOfSome (IsLoad t load s start) ops

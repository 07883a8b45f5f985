-- How looking at the flashes behind the two syncs ends badly: no poll is found, or a device is in use
use Rattle.std.specs.Prelude.{length}
use Rattle.std.specs.Option.{ForSome}
use Rattle.urna_outside.specs.Faults.{EndsAt, IsFaultless}
use Rattle.urna_outside.specs.Told.{Told, port_of}
use Rattle.election_tables.specs.Roll.{RollData}
use Rattle.election_tables.specs.TablesData.{TablesData}
use Rattle.election_tables.specs.declared.tables.sections.Section.{Section}
use Rattle.state_store.specs.Rest.{IsBusy}
use Rattle.state_store.specs.Held.{AreLoaded, IsForeign, HeldByNone}
use Rattle.state_store.specs.Load.{IsSectionOf}
use Rattle.state_store.specs.declared.store.LoadError.{LoadError}
use Rattle.state_store.specs.declared.store.LoadError.TheVariants as load
use Rattle.state_store.specs.declared.store.StoreError.{StoreError}
use Rattle.state_store.specs.declared.store.StoreError.TheVariants as store

-- a device failed, has another frame, or no slot stands; memory is never wanted
abbrev pub EndsFinding : TablesData → RollData → Told → Told → StoreError → Type 0
EndsFinding t r old new store.Memory = ⊥
EndsFinding t r old new (store.Flash d) = EndsAt (port_of d) old new
EndsFinding t r old new (store.Foreign d) =
    IsFaultless old new × ForSome old.flashes (λ flashes. IsForeign t r d flashes.internal.content flashes.external.content)
EndsFinding t r old new store.NoImage =
    IsFaultless old new
    × ((section : Section) × IsSectionOf t r section
    × ForSome old.flashes (λ flashes. AreLoaded t r section flashes.internal.content flashes.external.content
    × HeldByNone t (length r.titles) flashes.internal.content flashes.external.content))

-- a device failed, or is in use; memory is never wanted
abbrev pub EndsTesting : Told → Told → LoadError → Type 0
EndsTesting old new load.Memory = ⊥
EndsTesting old new (load.Flash d) = EndsAt (port_of d) old new
EndsTesting old new (load.Busy d) = IsFaultless old new × ForSome old.flashes (IsBusy d)

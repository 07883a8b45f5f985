-- What the calls of a store do on the flashes, also where the power goes
use Rattle.std.specs.Prelude.{◌≡◌, ◌≢◌, ◌⊎◌, ℕ, List, [], ◌++◌, length, IsSome}
use Rattle.std.specs.Option.{ForSome}
use Rattle.urna_outside.specs.Faults.{EndsAt}
use Rattle.urna_outside.specs.Flash.{Op, Flashes, after}
use Rattle.urna_outside.specs.Stop.{AtEachStop}
use Rattle.urna_outside.specs.Told.{Told, Runs, port_of}
use Rattle.election_tables.specs.Roll.{RollData}
use Rattle.election_tables.specs.TablesData.{TablesData}
use Rattle.election_tables.specs.declared.tables.sections.Section.{Section}
use Rattle.image_codec.specs.Encoding.{encode}
use Rattle.image_codec.specs.State.{State}
use Rattle.gate_slot.specs.Front.{IsUpTo}
use Rattle.twin_image.specs.Heal.{IsHeal}
use Rattle.twin_image.specs.Order.{AreRenewals}
use Rattle.flash_store.specs.Calls.{AreInSlots}
use Rattle.flash_store.specs.Held.{HoldAll, IsFirstOf, bodies_of_both}
use Rattle.flash_store.specs.Syncs.{FromSyncs, IsFrontOfSyncs, IsSynced, IsUntouched, both_synced}
use Rattle.image_codec.specs.Layout.{body_size}
use Rattle.state_store.specs.Held.{AreLoaded, HeldByBoth, HeldByNone, IsForeign, KeepFrames, poll}
use Rattle.state_store.specs.Load.{IsSectionOf}
use Rattle.flash_store.specs.InUse.{Loads as LoadsOf}
use Rattle.state_store.specs.Load.{magic}
use Rattle.state_store.specs.Rest.{IsBegun, IsBusy}
use Rattle.state_store.specs.declared.store.StoreError.{StoreError}
use Rattle.state_store.specs.declared.store.StoreError.TheVariants as store
use Rattle.state_store.specs.declared.store.LoadError.{LoadError}
use Rattle.state_store.specs.declared.store.LoadError.TheVariants as load

-- The state that both flashes hold together, with the frames of a section's load
pub record AreFound (t : TablesData) (r : RollData) (section : Section) (s : State) (flashes : Flashes) : Type 0 where
  pub loaded : AreLoaded t r section flashes.internal.content flashes.external.content
  pub held : HeldByBoth t (length r.titles) flashes.internal.content flashes.external.content s

-- the body of all four slots is brought to the encoding that is written today, where it is another one; else nothing is done
abbrev pub IsBroughtUp : TablesData → State → List ℕ → List Op → Type 0
IsBroughtUp t s body ops =
    ((body ≡ encode t s) × (ops ≡ [])) ⊎ ((body ≢ encode t s) × AreRenewals body_size body (encode t s) ops)

-- All that a recovery does over these flashes, which hold a state. The body that is held is the first of those of the open slots that is
-- an encoding of it. Behind the two syncs each slot that isn't open with that body is brought to it, and no other is touched; and then,
-- where that body isn't the state's encoding of version 2, all four slots are brought to this, one after the other.
pub record IsRecovery (t : TablesData) (voters : ℕ) (s : State) (start : Flashes) (ops : List Op) : Type 0 where
  pub body : List ℕ
  pub held : IsFirstOf (poll t voters) s (bodies_of_both body_size start.internal.content start.external.content) body
  pub heal : List Op
  pub heals : IsHeal body_size body start heal
  pub change : List Op
  pub brings_up : IsBroughtUp t s body change
  pub in_row : ops ≡ both_synced ++ (heal ++ change)

-- What a recovery does behind the two syncs: it heals, and may bring the healed slots to another encoding. Where the flashes and the trail
-- are told, it is all of a recovery that was done, or a front of it.
pub record Recovers (t : TablesData) (r : RollData) (section : Section) (s : State) (told : Told) (ops : List Op) : Type 0 where
  pub slots : AreInSlots body_size 24 ops
  pub stops : ForSome told.flashes (λ start. AreFound t r section s start
      × AtEachStop (after both_synced start) ops (λ left. HeldByBoth t (length r.titles) left.internal left.external s × KeepFrames start left))
  pub order : IsSome told.trail → ForSome told.flashes (λ start. IsUpTo (IsRecovery t (length r.titles) s start) (both_synced ++ ops))

-- what there is where a recovery fails
abbrev pub FailsToRecover : TablesData → RollData → Told → Told → StoreError → Type 0
FailsToRecover t r old new store.Memory = IsUntouched old new
FailsToRecover t r old new (store.Flash d) =
    EndsAt (port_of d) old new
    × Runs (FromSyncs (λ ops. (ops ≡ []) ⊎ ((section : Section) × (s : State) × IsSectionOf t r section × Recovers t r section s old ops))) old new
FailsToRecover t r old new (store.Foreign d) =
    IsSynced old new × ForSome old.flashes (λ flashes. IsForeign t r d flashes.internal.content flashes.external.content)
FailsToRecover t r old new store.NoImage =
    IsSynced old new
    × ((section : Section) × IsSectionOf t r section
    × ForSome old.flashes (λ flashes. AreLoaded t r section flashes.internal.content flashes.external.content
    × HeldByNone t (length r.titles) flashes.internal.content flashes.external.content))

-- what there is where a look at the flashes fails: as where a recovery does, and nothing is written
abbrev pub FailsToPeek : TablesData → RollData → Told → Told → StoreError → Type 0
FailsToPeek t r old new store.Memory = IsUntouched old new
FailsToPeek t r old new (store.Flash d) = EndsAt (port_of d) old new × Runs IsFrontOfSyncs old new
FailsToPeek t r old new (store.Foreign d) = FailsToRecover t r old new (store.Foreign d)
FailsToPeek t r old new store.NoImage = FailsToRecover t r old new store.NoImage

-- what loading does behind the two syncs
abbrev pub Loads : Told → List Op → Type 0
Loads told ops = LoadsOf magic body_size IsBegun told ops

-- what there is where loading fails
abbrev pub FailsToLoad : Told → Told → LoadError → Type 0
FailsToLoad old new load.Memory = IsUntouched old new
FailsToLoad old new (load.Flash d) = EndsAt (port_of d) old new × Runs (FromSyncs (λ ops. (ops ≡ []) ⊎ Loads old ops)) old new
FailsToLoad old new (load.Busy d) = IsSynced old new × ForSome old.flashes (IsBusy d)

-- What a change of the body does that keeps its state: at each stop both flashes, and each alone, hold the state.
pub record BringsUp (t : TablesData) (voters : ℕ) (s : State) (told : Told) (ops : List Op) : Type 0 where
  pub slots : AreInSlots body_size 12 ops
  pub stops : ForSome told.flashes (λ start. AtEachStop start ops (λ left. HoldAll (poll t voters) s left × KeepFrames start left))

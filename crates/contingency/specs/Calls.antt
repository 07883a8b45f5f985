-- What a replacement does on the flashes, also where the power goes, and how it ends without one
use Rattle.std.specs.Prelude.{◌≡◌, ◌⊎◌, ℕ, ◌≤◌, List, [], ◌++◌, length, IsSome}
use Rattle.std.specs.Option.{ForSome}
use Rattle.urna_outside.specs.Confined.{AreIn, count_syncs}
use Rattle.urna_outside.specs.Faults.{EndsAt, IsFaultless}
use Rattle.urna_outside.specs.Flash.{Op, Flashes, after, flash_of}
use Rattle.urna_outside.specs.Stop.{AtEachStop}
use Rattle.urna_outside.specs.Told.{Told, Runs, port_of}
use Rattle.urna_outside.specs.declared.device.Dev.{Dev}
use Rattle.election_tables.specs.Roll.{RollData}
use Rattle.election_tables.specs.TablesData.{TablesData}
use Rattle.election_tables.specs.declared.tables.sections.Section.{Section}
use Rattle.gate_slot.specs.Device.{OnFlash}
use Rattle.gate_slot.specs.Front.{IsUpTo}
use Rattle.image_codec.specs.State.{State}
use Rattle.twin_image.specs.Slots.{beside}
use Rattle.flash_store.specs.Held.{IsFirstOf, HoldNone, open_bodies}
use Rattle.flash_store.specs.Syncs.{FromSyncs, IsSynced, IsUntouched, both_synced}
use Rattle.state_store.specs.Held.{HasFrameOf, HasNoFrame, poll}
use Rattle.state_store.specs.Load.{IsSectionOf, header, load_of}
use Rattle.state_store.specs.Rest.{IsInUse}
use Rattle.contingency.specs.Replaced.{IsReplaced, IsStanding, LeavesStanding}
use Rattle.contingency.specs.Restored.{IsRestored, MayBeWritten}
use Rattle.contingency.specs.declared.replacement.ReplaceError.{ReplaceError}
use Rattle.image_codec.specs.Layout.{body_size}
use Rattle.contingency.specs.declared.replacement.ReplaceError.TheVariants as error

-- All that a replacement does over these flashes, of which the standing one holds a state. The body that it holds is the first of those of
-- its open slots that is an encoding of it. Behind the two syncs its slots are brought to the state's encoding that is written today, from
-- that body; and then the replaced device is loaded with it.
pub record IsReplacement (t : TablesData) (r : RollData) (section : Section) (s : State) (replaced : Dev) (start : Flashes) (ops : List Op) : Type 0 where
  pub body : List ℕ
  pub held : IsFirstOf (poll t (length r.titles)) s (open_bodies body_size (flash_of (beside replaced) start).content) body
  pub writes : List Op
  pub restored : IsRestored t s replaced (header (load_of t r section) replaced) body start writes
  pub in_row : ops ≡ both_synced ++ writes

-- What a replacement does behind the two syncs, as far as it comes: so it was with the devices, and so it is at each stop. Where the
-- flashes and the trail are told, it is all of a replacement that was done, or a front of it.
pub record Replaces (t : TablesData) (r : RollData) (section : Section) (s : State) (replaced : Dev) (told : Told) (ops : List Op) : Type 0 where
  pub within : AreIn (MayBeWritten replaced) ops
  pub syncs : count_syncs ops ≤ 19
  pub stops : ForSome told.flashes (λ start. IsReplaced t r section s replaced start
      × AtEachStop (after both_synced start) ops (LeavesStanding t r section s replaced))
  pub order : IsSome told.trail → ForSome told.flashes (λ start. IsUpTo (IsReplacement t r section s replaced start) (both_synced ++ ops))

-- the device has the frame of this section's load, and no slot of it stands
pub record IsBare (t : TablesData) (r : RollData) (section : Section) (d : Dev) (content : List ℕ) : Type 0 where
  pub section_fits : IsSectionOf t r section
  pub frame : HasFrameOf t r section d content
  pub none : HoldNone (poll t (length r.titles)) (open_bodies body_size content)

-- the device is in use, and the one beside it stands for a state
pub record IsBusyBeside (t : TablesData) (r : RollData) (section : Section) (d : Dev) (flashes : Flashes) : Type 0 where
  pub state : State
  pub standing : IsStanding t r section state (beside d) (flash_of (beside d) flashes).content
  pub busy : IsInUse (flash_of d flashes).content

-- What there is where a replacement fails. Where memory was wanted, nothing was done; where a test came out badly, the flashes were synced, and
-- nothing was written.
abbrev pub FailsToReplace : TablesData → RollData → Dev → Told → Told → ReplaceError → Type 0
FailsToReplace t r replaced old new error.Memory = IsUntouched old new
FailsToReplace t r replaced old new (error.Flash d) =
    EndsAt (port_of d) old new
    × Runs (FromSyncs (λ ops. (ops ≡ []) ⊎ ((section : Section) × (s : State) × IsSectionOf t r section × Replaces t r section s replaced old ops))) old new
FailsToReplace t r replaced old new (error.Foreign d) =
    (d ≡ beside replaced) × IsSynced old new × OnFlash d (λ flash. HasNoFrame t r d flash.content) old
FailsToReplace t r replaced old new (error.NoStanding d) =
    (d ≡ beside replaced) × IsSynced old new
    × ((section : Section) × IsSectionOf t r section × OnFlash d (λ flash. IsBare t r section d flash.content) old)
FailsToReplace t r replaced old new (error.Busy d) =
    (d ≡ replaced) × IsSynced old new
    × ((section : Section) × IsSectionOf t r section × ForSome old.flashes (IsBusyBeside t r section d))

-- the same of the three tests, which come behind the syncs; memory is never wanted
abbrev pub EndsTesting : TablesData → RollData → Dev → Told → Told → ReplaceError → Type 0
EndsTesting t r replaced old new error.Memory = ⊥
EndsTesting t r replaced old new (error.Flash d) = EndsAt (port_of d) old new
EndsTesting t r replaced old new (error.Foreign d) =
    (d ≡ beside replaced) × IsFaultless old new × OnFlash d (λ flash. HasNoFrame t r d flash.content) old
EndsTesting t r replaced old new (error.NoStanding d) =
    (d ≡ beside replaced) × IsFaultless old new
    × ((section : Section) × IsSectionOf t r section × OnFlash d (λ flash. IsBare t r section d flash.content) old)
EndsTesting t r replaced old new (error.Busy d) =
    (d ≡ replaced) × IsFaultless old new
    × ((section : Section) × IsSectionOf t r section × ForSome old.flashes (IsBusyBeside t r section d))

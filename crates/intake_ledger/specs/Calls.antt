-- What the calls of a ledger do on the flashes, also where the power goes, and how they end badly
use Rattle.std.specs.Prelude.{◌≡◌, ◌⊎◌, ℕ, List, [], ◌∷◌, ◌++◌, IsSome}
use Rattle.std.specs.Option.{ForSome}
use Rattle.urna_outside.specs.Faults.{EndsAt, IsFaultless}
use Rattle.urna_outside.specs.Flash.{Flashes, Op, after}
use Rattle.urna_outside.specs.Stop.{AtEachStop}
use Rattle.urna_outside.specs.Told.{Told, Runs, port_of}
use Rattle.urna_outside.specs.declared.device.Port.{Port}
use Rattle.election_tables.specs.TablesData.{TablesData}
use Rattle.section_intake.specs.declared.verdict.Verdict.{Verdict}
use Rattle.gate_slot.specs.Front.{IsUpTo}
use Rattle.twin_image.specs.Heal.{IsHeal}
use Rattle.flash_store.specs.Calls.{AreInSlots}
use Rattle.flash_store.specs.Held.{HeldByBoth, HeldByNone, IsFirstOf, KeepFrames, bodies_of_both}
use Rattle.flash_store.specs.InUse.{Loads as LoadsOf}
use Rattle.flash_store.specs.Played.{HasPut, HasStopped}
use Rattle.flash_store.specs.Syncs.{FromSyncs, IsSynced, IsUntouched, both_synced}
use Rattle.intake_ledger.specs.Header.{magic}
use Rattle.intake_ledger.specs.Kept.{AreFound, AreFramed, AreLaid, IsBegun, IsBusy, IsForeign, kept_ledger, ledgers}
use Rattle.intake_ledger.specs.Layout.{body_size}
use Rattle.intake_ledger.specs.Ledger.{LedgerData}
use Rattle.intake_ledger.specs.Totals.{AreTotals, TotalsData}
use Rattle.intake_ledger.specs.Offers.{IsOffer, offer_piece}
use Rattle.intake_ledger.specs.declared.ledger.LedgerError.{LedgerError}
use Rattle.intake_ledger.specs.declared.ledger.LedgerError.TheVariants as ledger
use Rattle.intake_ledger.specs.declared.ledger.OfferError.{OfferError}
use Rattle.intake_ledger.specs.declared.ledger.OfferError.TheVariants as offer

-- The ledger, of which contracts see the totals, is this one of these tables, and both flashes are at rest with it.
pub record Keeps (t : TablesData) (told : Told) (kept : TotalsData) (l : LedgerData) : Type 0 where
  pub totals : AreTotals t l kept
  pub rest : ForSome told.flashes (AreLaid t kept.body)

-- ---- format

-- what laying the empty ledger does behind the two syncs
abbrev pub Loads : Told → List Op → Type 0
Loads told ops = LoadsOf magic body_size IsBegun told ops

-- behind the syncs a device failed, or is in use
abbrev pub EndsTesting : Told → Told → LedgerError → Type 0
EndsTesting old new ledger.Memory = ⊥
EndsTesting old new (ledger.Flash d) = EndsAt (port_of d) old new
EndsTesting old new (ledger.Foreign d) = ⊥
EndsTesting old new ledger.NoImage = ⊥
EndsTesting old new (ledger.Busy d) = IsFaultless old new × ForSome old.flashes (IsBusy d)

-- what there is where no empty ledger was laid
abbrev pub FailsToFormat : Told → Told → LedgerError → Type 0
FailsToFormat old new ledger.Memory = IsUntouched old new
FailsToFormat old new (ledger.Flash d) = EndsAt (port_of d) old new × Runs (FromSyncs (λ ops. (ops ≡ []) ⊎ Loads old ops)) old new
FailsToFormat old new (ledger.Foreign d) = ⊥
FailsToFormat old new ledger.NoImage = ⊥
FailsToFormat old new (ledger.Busy d) = IsSynced old new × ForSome old.flashes (IsBusy d)

-- ---- open

-- All that opening does over these flashes, which hold a ledger: behind the two syncs each slot that isn't open with its body, the first of
-- those of the open slots that stands for it, is brought to that, and no other is touched.
pub record IsOpening (t : TablesData) (l : LedgerData) (start : Flashes) (ops : List Op) : Type 0 where
  pub body : List ℕ
  pub held : IsFirstOf (ledgers t) l (bodies_of_both body_size start.internal.content start.external.content) body
  pub heal : List Op
  pub heals : IsHeal body_size body start heal
  pub in_row : ops ≡ both_synced ++ heal

-- What opening does behind the two syncs: it heals. At each stop both flashes together hold the ledger that was found. Where the flashes and
-- the trail are told, it is all of an opening that was done, or a front of it.
pub record Opens (t : TablesData) (l : LedgerData) (told : Told) (ops : List Op) : Type 0 where
  pub slots : AreInSlots body_size 12 ops
  pub stops : ForSome told.flashes (λ start. AreFound t l start
      × AtEachStop (after both_synced start) ops (λ left. HeldByBoth (ledgers t) left.internal left.external l × KeepFrames body_size start left))
  pub order : IsSome told.trail → ForSome told.flashes (λ start. IsUpTo (IsOpening t l start) (both_synced ++ ops))

-- the flashes have the frames of these tables, and no slot stands
pub record AreBare (t : TablesData) (flashes : Flashes) : Type 0 where
  pub framed : AreFramed t flashes
  pub none : HeldByNone (ledgers t) flashes.internal.content flashes.external.content

-- behind the syncs a device failed, has another frame, or no slot stands
abbrev pub EndsLooking : TablesData → Told → Told → LedgerError → Type 0
EndsLooking t old new ledger.Memory = ⊥
EndsLooking t old new (ledger.Flash d) = EndsAt (port_of d) old new
EndsLooking t old new (ledger.Foreign d) = IsFaultless old new × ForSome old.flashes (IsForeign t d)
EndsLooking t old new ledger.NoImage = IsFaultless old new × ForSome old.flashes (AreBare t)
EndsLooking t old new (ledger.Busy d) = ⊥

-- what there is where no ledger was opened
abbrev pub FailsToOpen : TablesData → Told → Told → LedgerError → Type 0
FailsToOpen t old new ledger.Memory = IsUntouched old new
FailsToOpen t old new (ledger.Flash d) =
    EndsAt (port_of d) old new × Runs (FromSyncs (λ ops. (ops ≡ []) ⊎ ((l : LedgerData) × Opens t l old ops))) old new
FailsToOpen t old new (ledger.Foreign d) = IsSynced old new × ForSome old.flashes (IsForeign t d)
FailsToOpen t old new ledger.NoImage = IsSynced old new × ForSome old.flashes (AreBare t)
FailsToOpen t old new (ledger.Busy d) = ⊥

-- ---- offer

-- A file was offered to a ledger, and its verdict told: an accepted report was committed before its line, and nothing was done but the line
-- where it is any other. Both flashes are at rest with the ledger that the offer leaves.
pub record HasOffered (t : TablesData) (l : LedgerData) (file : List ℕ) (number : ℕ) (v : Verdict) (kept : TotalsData) (old new : Told) : Type 0 where
  pub behind : LedgerData
  pub offer : IsOffer t l file v behind
  pub keeps : Keeps t new kept behind
  pub put : HasPut (kept_ledger t) l (offer_piece number v behind ∷ []) old new

-- a port failed in the commit or the line of an offer
pub record HasOfferedTo (t : TablesData) (l : LedgerData) (file : List ℕ) (number : ℕ) (at : Port) (old new : Told) : Type 0 where
  pub verdict : Verdict
  pub behind : LedgerData
  pub offer : IsOffer t l file verdict behind
  pub stopped : HasStopped (kept_ledger t) l (offer_piece number verdict behind ∷ []) at old new

-- what there is where an offer failed: want of memory changes nothing
abbrev pub FailsToOffer : TablesData → TotalsData → List ℕ → ℕ → Told → Told → OfferError → Type 0
FailsToOffer t kept file number old new (offer.Memory same) = (same ≡ kept) × IsUntouched old new
FailsToOffer t kept file number old new (offer.Port p) = (l : LedgerData) → Keeps t old kept l → HasOfferedTo t l file number p old new

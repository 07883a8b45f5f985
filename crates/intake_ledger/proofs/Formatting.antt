-- Laying the empty ledger: two syncs, a test that no device is in use, and a load.
use Rattle.std.proofs.Common.{inl, inr, List, ℕ, [], refl}
use Rattle.std.specs.Option.{ForSome}
use Rattle.urna_outside.specs.Faults.{EndsAt, IsFaultless}
use Rattle.urna_outside.specs.Flash.{after}
use Rattle.urna_outside.specs.Told.{Told, Does, Runs, port_of}
use Rattle.urna_outside.specs.declared.device.Dev.{Dev}
use Rattle.urna_outside.proofs.Doing.{does-append, told_after}
use Rattle.urna_outside.proofs.Faults.{ends_later, faultless_trans}
use Rattle.twin_image.specs.Lay.{Lays}
use Rattle.flash_store.specs.Syncs.{IsSynced, both_synced}
use Rattle.flash_store.proofs.InUse.{busy_before, does_load, loads}
use Rattle.intake_ledger.specs.Calls.{EndsTesting, FailsToFormat}
use Rattle.intake_ledger.specs.Header.{magic}
use Rattle.intake_ledger.specs.Kept.{AreFree, IsBegun}
use Rattle.intake_ledger.specs.Layout.{body_size}
use Rattle.intake_ledger.specs.declared.ledger.LedgerError.{LedgerError}
use Rattle.intake_ledger.specs.declared.ledger.LedgerError.TheVariants as ledger

-- a device is in use, or failed while that was tested
pub fails_testing : (a b c : Told) (error : LedgerError) → IsSynced a b → Does [] b c → EndsTesting b c error → FailsToFormat a c error
fails_testing a b c ledger.Memory synced done ends = absurd ends
fails_testing a b c (ledger.Flash d) synced done ends = (
  ends_later (port_of d) a b c synced.fine ends,
  (both_synced, does-append both_synced [] a b c synced.does done, inr ([], refl, inl refl)),
)
fails_testing a b c (ledger.Foreign d) synced done ends = absurd ends
fails_testing a b c ledger.NoImage synced done ends = absurd ends
fails_testing a b c (ledger.Busy d) synced done ends = (
  record { does = does-append both_synced [] a b c synced.does done; fine = faultless_trans a b c synced.fine ends.0 },
  λ start told. busy_before magic body_size IsBegun d start (ends.1 (after both_synced start) (told_after both_synced a b start synced.does told)),
)

-- the load failed at a device
pub fails_laying : (internal external body : List ℕ) → ¬ IsBegun body → (a b c d : Told) → Does both_synced a b → Does [] b c → ForSome b.flashes AreFree → Runs (Lays c body_size internal external body) c d
    → (dev : Dev) → IsFaultless a c → EndsAt (port_of dev) c d → FailsToFormat a d (ledger.Flash dev)
fails_laying internal external body fresh a b c d synced done free run dev fine ends = (
  ends_later (port_of dev) a c d fine ends,
  (
    _,
    does_load magic body_size IsBegun internal external body fresh a b c d synced done free run,
    inr (run.0, refl, inr (loads magic body_size IsBegun internal external body fresh a b c d synced done free run)),
  ),
)

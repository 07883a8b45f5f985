-- A poll over a machine in memory: no call of it fails, and what it holds is found.
use Rattle.std.proofs.Common.{◌≡◌, ℕ, zero, suc, ◌<◌, ◌≤◌, length, get_or, replicate, refl, ap, subst, ◌∙◌, arith}
use Rattle.memory_outside.specs.Chips.{flashes_in}
use Rattle.urna_outside.specs.Faults.{EndsAt}
use Rattle.urna_outside.specs.Started.{blank_flashes, both_sizes}
use Rattle.memory_outside.specs.Steady.{flashes_told, steady_told}
use Rattle.urna_outside.specs.Told.{Faults, Rose, Sizes, Told, faults_of, port_of}
use Rattle.urna_outside.specs.declared.device.Dev.TheVariants as dev
use Rattle.urna_outside.specs.declared.device.Port.{Port}
use Rattle.urna_outside.specs.declared.device.Port.TheVariants.{Internal, External, Display}
use Rattle.memory_outside.specs.declared.steady.Steady.{Steady}
use Rattle.election_tables.specs.Roll.{RollData}
use Rattle.election_tables.specs.TablesData.{IsTables, TablesData}
use Rattle.election_tables.specs.declared.tables.sections.Section.{Section}
use Rattle.image_codec.specs.State.{State}
use Rattle.state_store.specs.Calls.{AreFound, FailsToLoad}
use Rattle.flash_store.specs.Held.{bodies_of_both}
use Rattle.state_store.specs.Load.{load_of}
use Rattle.state_store.specs.Rest.{IsInUse, device_size}
use Rattle.state_store.specs.Store.{AreDevices}
use Rattle.state_store.specs.declared.store.LoadError.{LoadError}
use Rattle.state_store.specs.declared.store.LoadError.TheVariants as load
use Rattle.state_store.proofs.Going.{found_once, loaded_once, loaded_or_foreign}
use Rattle.flash_store.proofs.Holding.{hold_or_none}
use Rattle.station.specs.Start.{FailsToStart, IsStarted}
use Rattle.station.specs.Station.{StationData}
use Rattle.station.specs.declared.station.StartError.{StartError}
use Rattle.state_store.specs.Held.{poll}
use Rattle.image_codec.specs.Layout.{body_size}
use Rattle.station.specs.declared.station.StartError.TheVariants as start

-- ---- no call fails

-- a count that is 0 didn't rise
no_rise : Rose 0 0 → ⊥
no_rise rose = let more : 0 < 0 = rose (λ last. absurd (omega (arith, last))) in absurd (omega (arith, more))

pub never_fails : (p : Port) (m n : Steady) → EndsAt p (steady_told m) (steady_told n) → ⊥
never_fails Internal m n e = no_rise e.faults.rose
never_fails External m n e = no_rise e.faults.rose
never_fails Display m n e = no_rise e.faults.rose

-- ---- loading

-- zeros don't begin as a header does
not_used : (n : ℕ) → 1 ≤ n → IsInUse (replicate n 0) → ⊥
not_used zero some used = absurd (omega (arith, some))
not_used (suc n) some used = let first : 0 ≡ 85 = ap (λ l. get_or l 0 0) used.begins in absurd (omega (arith, first))

-- blank flashes are loaded, unless memory is wanted
pub loads : (m n : Steady) (e : LoadError) → steady_told m ≡ flashes_told (both_sizes device_size) (blank_flashes device_size)
    → FailsToLoad (steady_told m) (steady_told n) e → e ≡ load.Memory
loads m n load.Memory blank h = refl
loads m n (load.Flash d) blank h = absurd (never_fails (port_of d) m n h.0)
loads m n (load.Busy dev.Internal) blank h =
    absurd (not_used device_size (omega arith) (h.1 (blank_flashes device_size) (ap (λ (x : Told). x.flashes) blank)))
loads m n (load.Busy dev.External) blank h =
    absurd (not_used device_size (omega arith) ((h.1 (blank_flashes device_size) (ap (λ (x : Told). x.flashes) blank)).1))

-- and both have their size still
pub devices_stay : (old new : Told) → old ≡ flashes_told (both_sizes device_size) (blank_flashes device_size) → new.sizes ≡ old.sizes → AreDevices new.sizes
devices_stay old new blank same dev.Internal = ap (λ (x : Sizes). x.internal) same ∙ ap (λ (x : Told). x.sizes.internal) blank
devices_stay old new blank same dev.External = ap (λ (x : Sizes). x.external) same ∙ ap (λ (x : Told). x.sizes.external) blank

-- ---- starting

module _ (t : TablesData) (r : RollData) (section : Section) (s : State) (m n : Steady) (tables : IsTables t) (found : AreFound t r section s (flashes_in m.chips)) where
  -- a station starts over flashes that hold a poll, unless memory is wanted
  pub starts : (e : StartError) → FailsToStart t r (steady_told m) (steady_told n) e → e ≡ start.Memory
  starts start.Memory h = refl
  starts (start.Port Internal) h = absurd (never_fails Internal m n h.0)
  starts (start.Port External) h = absurd (never_fails External m n h.0)
  starts (start.Port Display) h =
      absurd (no_rise (subst (λ (f : Faults). Rose (faults_of Display f) 0) h.recovered.fine.faults h.stopped.fault.faults.rose))
  starts (start.Foreign d) h =
      absurd (loaded_or_foreign t r section d (flashes_in m.chips).internal.content (flashes_in m.chips).external.content tables found.loaded (h.1 (flashes_in m.chips) refl))
  starts start.NoImage h =
      absurd (hold_or_none (poll t (length r.titles)) (bodies_of_both body_size (flashes_in m.chips).internal.content (flashes_in m.chips).external.content) s
      ((h.1.2 (flashes_in m.chips) refl).1) found.held)

  -- and it stands at that poll
  pub started_at : (x : StationData) → IsStarted t r x (steady_told m) (steady_told n) → (x.standing.state ≡ s) × (x.store.load ≡ load_of t r section)
  started_at x h =
      let there = (h.opens.recovered.ran.2.2.stops (flashes_in m.chips) refl).0 in
      let contents = flashes_in m.chips in
      let same : h.state ≡ s = found_once t r section s h.state contents tables found there.held in
      let here : x.store.load.section ≡ section =
      loaded_once t r x.store.load.section section contents.internal.content contents.external.content tables there.loaded found.loaded
      in
      (ap (λ y. y.state) h.idle ∙ same, h.opens.recovered.same ∙ ap (λ (u : Section). load_of t r u) here)

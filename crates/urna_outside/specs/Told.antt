-- What a machine tells, and what its calls do to that.
use Rattle.std.specs.Prelude.{◌≡◌, ◌≢◌, ◌⊎◌, ℕ, ◌+◌, ◌-◌, ◌^◌, ◌<◌, ◌≤◌, min, List, [], ◌∷◌, ◌++◌, Bool, false, Option, Some, None, Result, if◌then◌else◌, is_ok, length, OnOk, OnErr}
use Rattle.std.specs.Option.{option_map}
use Rattle.urna_outside.specs.Flash.{Op, Put, Show, Flashes, flash_of, after, shown_by}
use Rattle.urna_outside.specs.declared.device.Dev.{Dev}
use Rattle.urna_outside.specs.declared.device.Dev.TheVariants as dev
use Rattle.urna_outside.specs.declared.device.Port.{Port}
use Rattle.urna_outside.specs.declared.device.Port.TheVariants.{Internal, External, Display}

-- how many bytes each device has
pub record Sizes : Type 0 where
  pub internal : ℕ
  pub external : ℕ

-- the size of one device
abbrev pub size_of : Dev → Sizes → ℕ
size_of dev.Internal sizes = sizes.internal
size_of dev.External sizes = sizes.external

-- how often each port has failed
pub record Faults : Type 0 where
  pub internal : ℕ
  pub external : ℕ
  pub display : ℕ

-- the faults of one port
abbrev pub faults_of : Port → Faults → ℕ
faults_of Internal faults = faults.internal
faults_of External faults = faults.external
faults_of Display faults = faults.display

-- a device is a port too
abbrev pub port_of : Dev → Port
port_of dev.Internal = Internal
port_of dev.External = External

-- how many calls of read, write, sync and show were made, how many of them failed, and the number of the last
-- one that failed; the calls are numbered from 0
pub record Calls : Type 0 where
  pub made : ℕ
  pub failed : ℕ
  pub last_failed : Option ℕ

-- A machine always tells its sizes and its counts of faults. It may tell the rest: what is on the flashes, what
-- the display has shown, the list of all operations, and the calls.
pub record Told : Type 0 where
  pub sizes : Sizes
  pub faults : Faults
  pub flashes : Option Flashes
  pub shown : Option (List ℕ)
  pub trail : Option (List Op)
  pub calls : Option Calls

-- a count rose: it is greater now, or stands at its last value
abbrev pub Rose : ℕ → ℕ → Type 0
Rose before now = now ≢ 2 ^ 64 - 1 → before < now

-- a count after one more: at its last value it stands
abbrev pub one_more : ℕ → ℕ
one_more count = min (count + 1) (2 ^ 64 - 1)

-- the counts of faults after one more of a port
abbrev pub faults_after : Port → Faults → Faults
faults_after Internal faults = record faults { internal = one_more faults.internal }
faults_after External faults = record faults { external = one_more faults.external }
faults_after Display faults = record faults { display = one_more faults.display }

-- what one call does to the counts of faults: it fails only where that of its own port rose
pub record Counts {T E : Type 0} (port : Port) (result : Result T E) (old new : Faults) : Type 0 where
  pub never_falls : faults_of port old ≤ faults_of port new
  pub others : (other : Port) → other ≢ port → faults_of other new ≡ faults_of other old
  pub ok : OnOk result (new ≡ old)
  pub failed : OnErr result (Rose (faults_of port old) (faults_of port new))

-- the calls after one more, which ended well or failed
abbrev pub calls_after : Bool → Calls → Calls
calls_after ok calls =
    record {
      made = one_more calls.made;
      failed = (if ok then calls.failed else one_more calls.failed);
      last_failed = (if ok then calls.last_failed else Some calls.made);
    }

-- one call was made, with this result
abbrev pub IsCalled : {T E : Type 0} → Result T E → Told → Told → Type 0
IsCalled result old new = new.calls ≡ option_map (calls_after (is_ok result)) old.calls

-- how many calls failed, and which was the last of them
abbrev pub failures_of : Calls → ℕ × Option ℕ
failures_of calls = (calls.failed, calls.last_failed)

-- As far as calls are told, none failed: how many failed and which failed last is as before.
abbrev pub WithoutFault : Told → Told → Type 0
WithoutFault old new = option_map failures_of new.calls ≡ option_map failures_of old.calls

-- As far as calls are told, the last of them failed, and none before it did.
pub record StopsAtFault (old new : Told) : Type 0 where
  pub before : Option Calls
  pub without_fault : option_map failures_of before ≡ option_map failures_of old.calls
  pub then_fault : new.calls ≡ option_map (calls_after false) before

-- These operations and no others were done, as far as they are told. It says nothing of faults and calls.
pub record Does (ops : List Op) (old new : Told) : Type 0 where
  pub sizes : new.sizes ≡ old.sizes
  pub flashes : new.flashes ≡ option_map (after ops) old.flashes
  pub shown : new.shown ≡ option_map (λ bytes. bytes ++ shown_by ops) old.shown
  pub trail : new.trail ≡ option_map (λ before. before ++ ops) old.trail

-- a list of operations that has P was done
abbrev pub Runs : (List Op → Type 0) → Told → Told → Type 0
Runs P old new = (ops : List Op) × Does ops old new × P ops

-- what is in the trail of a write of n bytes that failed: nothing, or a Put of some bytes in its range
abbrev pub IsTornPut : Dev → ℕ → ℕ → List Op → Type 0
IsTornPut d at n ops =
    (ops ≡ []) ⊎ ((from : ℕ) × (bytes : List ℕ) × (0 < length bytes) × (at ≤ from) × (from + length bytes ≤ at + n) × (ops ≡ Put d from bytes ∷ []))

-- what is in the trail of a show that failed: nothing, or a Show of a front of its bytes
abbrev pub IsTornShow : List ℕ → List Op → Type 0
IsTornShow bytes ops =
    (ops ≡ []) ⊎ ((some : List ℕ) × (back : List ℕ) × (0 < length some) × (bytes ≡ some ++ back) × (ops ≡ Show some ∷ []))

-- the told contents and marks are as long as the devices
pub record AreSized (sizes : Sizes) (flashes : Flashes) : Type 0 where
  pub content : (d : Dev) → length (flash_of d flashes).content ≡ size_of d sizes
  pub dirty : (d : Dev) → length (flash_of d flashes).dirty ≡ size_of d sizes

-- a machine that tells its sizes and counts of faults alone
abbrev pub silent_told : Sizes → Faults → Told
silent_told sizes faults =
    record { sizes = sizes; faults = faults; flashes = None; shown = None; trail = None; calls = None }

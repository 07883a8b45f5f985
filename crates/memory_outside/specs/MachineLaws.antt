-- The laws of the machines in memory.
use Rattle.std.specs.Prelude.{◌≡◌, ◌<◌, ◌^◌, refl, Some}
use Rattle.std.specs.Option.{ForSome}
use Rattle.std.proofs.Common.{subst}
use Rattle.urna_outside.specs.Flash.{Flashes}
use Rattle.urna_outside.specs.Told.{AreSized, size_of}
use Rattle.memory_outside.specs.Recorder.{recorder_told}
use Rattle.memory_outside.specs.Steady.{steady_told}
use Rattle.memory_outside.specs.declared.chips.Chips.{Chips}
use Rattle.memory_outside.specs.declared.steady.Steady.{Steady}
use Rattle.memory_outside.specs.Chips.{flashes_in, sizes_in}
use Rattle.urna_outside.specs.declared.device.Dev.{Dev}
use Rattle.urna_outside.specs.declared.device.Dev.TheVariants.{Internal, External}
use Rattle.memory_outside.specs.declared.recorder.Recorder.{Recorder}

-- contents and marks of devices in memory are as long as the devices
chips_sized : (chips : Chips) (flashes : Flashes) → Some (flashes_in chips) ≡ Some flashes → AreSized (sizes_in chips) flashes
chips_sized chips flashes same =
    let kept : flashes_in chips ≡ flashes = cc in
    subst (AreSized (sizes_in chips)) kept (record {
      content = elim [ Internal ↦ refl | External ↦ refl ];
      dirty = elim [ Internal ↦ chips.internal.same_length | External ↦ chips.external.same_length ];
    })

-- and these have fewer than 2^32 bytes
chips_bounded : (chips : Chips) (d : Dev) → size_of d (sizes_in chips) < 2 ^ 32
chips_bounded chips Internal = chips.internal.bounded
chips_bounded chips External = chips.external.bounded

-- so for both machines in memory
pub recorder_sized : (r : Recorder) → ForSome (recorder_told r).flashes (AreSized (recorder_told r).sizes)
recorder_sized r = chips_sized r.chips

pub recorder_bounded : (r : Recorder) (d : Dev) → size_of d (recorder_told r).sizes < 2 ^ 32
recorder_bounded r = chips_bounded r.chips

pub steady_sized : (m : Steady) → ForSome (steady_told m).flashes (AreSized (steady_told m).sizes)
steady_sized m = chips_sized m.chips

pub steady_bounded : (m : Steady) (d : Dev) → size_of d (steady_told m).sizes < 2 ^ 32
steady_bounded m = chips_bounded m.chips

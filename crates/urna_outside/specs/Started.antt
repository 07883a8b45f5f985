-- Flashes with nothing dirty, and what a machine that tells all tells before its first call.
use Rattle.std.specs.Prelude.{ℕ, List, [], None, Some, replicate}
use Rattle.urna_outside.specs.Flash.{Flashes, clean_flash}
use Rattle.urna_outside.specs.Told.{Calls, Told, Sizes}
use Rattle.urna_outside.specs.FaultCounts.{no_faults}

-- two flashes of these contents, nothing dirty
abbrev pub clean_flashes : List ℕ → List ℕ → Flashes
clean_flashes internal external = record { internal = clean_flash internal; external = clean_flash external }

-- two flashes of so many zeros
abbrev pub blank_flashes : ℕ → Flashes
blank_flashes size = clean_flashes (replicate size 0) (replicate size 0)

-- both devices have so many bytes
abbrev pub both_sizes : ℕ → Sizes
both_sizes size = record { internal = size; external = size }

-- no call was made
abbrev pub no_calls : Calls
no_calls = record { made = 0; failed = 0; last_failed = None }

-- nothing was done yet
abbrev pub started_told : ℕ → Flashes → Told
started_told size flashes =
    record {
      sizes = both_sizes size;
      faults = no_faults;
      flashes = Some flashes;
      shown = Some [];
      trail = Some [];
      calls = Some no_calls;
    }

-- What calls do on two flashes, also where the power goes
use Rattle.std.specs.Prelude.{ℕ, ◌≤◌, List}
use Rattle.std.specs.Option.{ForSome}
use Rattle.urna_outside.specs.Confined.{AreIn, count_syncs}
use Rattle.urna_outside.specs.Flash.{Op, after}
use Rattle.urna_outside.specs.Stop.{AtEachStop}
use Rattle.urna_outside.specs.Told.{Told}
use Rattle.twin_image.specs.Twin.{IsOfTwin}
use Rattle.flash_store.specs.Held.{Codec, HeldByBoth, HoldEither, KeepFrames}
use Rattle.flash_store.specs.Syncs.{both_synced}

-- writes of gates and bodies of this size alone, and at most so many syncs
pub record AreInSlots (size most : ℕ) (ops : List Op) : Type 0 where
  pub within : AreIn (λ d k. IsOfTwin size k) ops
  pub syncs : count_syncs ops ≤ most

-- What a commit does: at each stop both flashes, and each alone, hold the old state or the new one.
pub record Commits {S : Type 0} (codec : Codec S) (s u : S) (told : Told) (ops : List Op) : Type 0 where
  pub slots : AreInSlots codec.size 12 ops
  pub stops : ForSome told.flashes (λ start. AtEachStop start ops (λ left. HoldEither codec s u left × KeepFrames codec.size start left))

-- What finding a state does behind the two syncs: it writes gates and bodies alone; at each stop both flashes together hold the state that was
-- found, and the frames stay.
pub record KeepsHeld {S : Type 0} (codec : Codec S) (s : S) (told : Told) (ops : List Op) : Type 0 where
  pub within : AreIn (λ d k. IsOfTwin codec.size k) ops
  pub stops : ForSome told.flashes (λ start.
      AtEachStop (after both_synced start) ops (λ left. HeldByBoth codec left.internal left.external s × KeepFrames codec.size start left))

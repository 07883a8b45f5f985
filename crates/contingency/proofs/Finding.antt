-- The three tests behind the syncs.
use Rattle.std.proofs.Common.{◌≡◌, ◌≤◌, inl, inr, ℕ, [], List, Option, Some, length, refl, sym, ap, subst}
use Rattle.urna_outside.specs.Faults.{IsFaultless}
use Rattle.urna_outside.specs.Flash.{Flashes, after}
use Rattle.urna_outside.specs.Told.{Does, Told, port_of}
use Rattle.urna_outside.specs.declared.device.Dev.{Dev}
use Rattle.urna_outside.specs.declared.device.Dev.TheVariants.{Internal, External}
use Rattle.urna_outside.proofs.Doing.{does-append, told_after}
use Rattle.urna_outside.proofs.Faults.{ends_later, faultless_trans}
use Rattle.election_tables.specs.Limits.{most_voters}
use Rattle.election_tables.specs.Roll.{RollData}
use Rattle.election_tables.specs.TablesData.{IsTables, TablesData}
use Rattle.election_tables.specs.declared.tables.sections.Section.{Section}
use Rattle.gate_slot.specs.Device.{OnFlash}
use Rattle.image_codec.specs.Decoded.{decoded, rank_in}
use Rattle.image_codec.specs.Layout.{body_size}
use Rattle.image_codec.specs.State.{State}
use Rattle.twin_image.specs.Held.{bodies_on, held_alone, held_body}
use Rattle.flash_store.specs.Syncs.{IsSynced, both_synced}
use Rattle.state_store.specs.Held.{HasFrameOf, HasNoFrame}
use Rattle.state_store.specs.Load.{IsSectionOf}
use Rattle.contingency.specs.Calls.{EndsTesting, FailsToReplace, IsBare, IsBusyBeside}
use Rattle.contingency.specs.declared.replacement.ReplaceError.{ReplaceError}
use Rattle.contingency.specs.declared.replacement.ReplaceError.TheVariants as error
use Rattle.contingency.specs.Replaced.{IsStanding}
use Rattle.contingency.proofs.Alone.{body_alone, none_alone}
use Rattle.contingency.proofs.Devices.{content_synced}

-- ---- what the standing device stands for

-- the device has the frame of a section's load, and its bodies were ranked by the number of the roll's voters
module _ (t : TablesData) (r : RollData) (section : Section) (tables : IsTables t) (few : length r.titles ≤ most_voters) (fits : IsSectionOf t r section) (rank : List ℕ → Option ℕ) (named : rank_in t (length r.titles) ≡ rank) (d : Dev) (image : List ℕ)
    (frame : HasFrameOf t r section d image) where
  -- no body has a rank
  pub bare : bodies_on rank body_size image ≡ [] → IsBare t r section d image
  bare none =
      let empty = subst (λ (k : List ℕ → Option ℕ). bodies_on k body_size image ≡ []) (sym named) none in
      record { section_fits = fits; frame = frame; none = none_alone t (length r.titles) tables few image (ap (held_body (rank_in t (length r.titles))) empty) }

  -- one has
  pub stands : (s : State) (body : List ℕ) → decoded t (length r.titles) body ≡ Some s → held_alone rank body_size image ≡ Some body → IsStanding t r section s d image
  stands s body known held =
      let holds = subst (λ (k : List ℕ → Option ℕ). held_alone k body_size image ≡ Some body) (sym named) held in
      record { section_fits = fits; frame = frame; held = body_alone t (length r.titles) tables few s image body holds known }

-- ---- the tests behind the syncs

-- what is so of a device's content behind the syncs was so before them
pub content_before : (d : Dev) (P : List ℕ → Type 0) (a b : Told) → Does both_synced a b → OnFlash d (λ f. P f.content) b → OnFlash d (λ f. P f.content) a
content_before d P a b synced holds start told =
    subst P (content_synced d start) (holds (after both_synced start) (told_after both_synced a b start synced told))

busy_before : (d : Dev) (t : TablesData) (r : RollData) (section : Section) (start : Flashes) → IsBusyBeside t r section d (after both_synced start) → IsBusyBeside t r section d start
busy_before Internal t r section start busy = record { state = busy.state; standing = busy.standing; busy = busy.busy }
busy_before External t r section start busy = record { state = busy.state; standing = busy.standing; busy = busy.busy }

synced_on : (a b c : Told) → IsSynced a b → Does [] b c → IsFaultless b c → IsSynced a c
synced_on a b c synced done fine =
    record { does = does-append both_synced [] a b c synced.does done; fine = faultless_trans a b c synced.fine fine }

-- a test that came out badly ends the call so
pub fails_testing : (t : TablesData) (r : RollData) (replaced : Dev) (a b c : Told) (error : ReplaceError) → IsSynced a b → Does [] b c → EndsTesting t r replaced b c error → FailsToReplace t r replaced a c error
fails_testing t r replaced a b c error.Memory synced done ends = absurd ends
fails_testing t r replaced a b c (error.Flash d) synced done ends = (
  ends_later (port_of d) a b c synced.fine ends,
  (both_synced, does-append both_synced [] a b c synced.does done, inr ([], refl, inl refl)),
)
fails_testing t r replaced a b c (error.Foreign d) synced done ends = (
  ends.0,
  synced_on a b c synced done ends.1,
  content_before d (HasNoFrame t r d) a b synced.does ends.2,
)
fails_testing t r replaced a b c (error.NoStanding d) synced done ends = (
  ends.0,
  synced_on a b c synced done ends.1,
  (ends.2.0, ends.2.1, content_before d (IsBare t r ends.2.0 d) a b synced.does ends.2.2),
)
fails_testing t r replaced a b c (error.Busy d) synced done ends = (
  ends.0,
  synced_on a b c synced done ends.1,
  (
    ends.2.0,
    ends.2.1,
    λ start told. busy_before d t r ends.2.0 start (ends.2.2 (after both_synced start) (told_after both_synced a b start synced.does told)),
  ),
)

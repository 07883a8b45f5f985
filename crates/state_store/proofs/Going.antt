-- What is found on two flashes is one, and what a power cut leaves is a poll again.
use Rattle.std.proofs.Common.{◌≡◌, ℕ, ◌≤◌, List, [], ◌∷◌, Some, length, refl, sym, ap, subst, ◌∙◌, arith}
use Rattle.std.specs.Prelude.{Contains}
use Rattle.std.proofs.lemmas.List.Elements.{All-contains, Contains-get_or}
use Rattle.urna_outside.specs.Flash.{Flashes, after, part, shown_by}
use Rattle.urna_outside.specs.Started.{clean_flashes}
use Rattle.urna_outside.specs.Stop.{Left}
use Rattle.urna_outside.specs.declared.device.Dev.{Dev}
use Rattle.urna_outside.specs.declared.device.Dev.TheVariants.{Internal, External}
use Rattle.election_tables.specs.Limits.{most_voters}
use Rattle.election_tables.specs.Roll.{RollData}
use Rattle.election_tables.specs.TablesData.{IsSection, IsTables, TablesData}
use Rattle.election_tables.specs.declared.tables.sections.Section.{Section}
use Rattle.image_codec.specs.State.{State}
use Rattle.twin_image.proofs.Laid.{frame_kept}
use Rattle.image_codec.specs.Layout.{body_size}
use Rattle.state_store.specs.Calls.{AreFound}
use Rattle.state_store.specs.Held.{HasFrameOf, HeldByBoth, KeepFrames, poll}
use Rattle.state_store.specs.Laws.{AreWhole, EndGoesOn, ForeignOnce, IsPollOf, LoadedOnce, LoadedOrForeign, RecoveryGoesOn, SessionGoesOn}
use Rattle.state_store.specs.Load.{IsSectionOf, header, load_of}
use Rattle.state_store.specs.Played.{Survives}
use Rattle.flash_store.specs.Held.{bodies_of_both}
use Rattle.flash_store.specs.Pieces.{commits_in, lines_in, lines_reached}
use Rattle.flash_store.proofs.Counting.{held_among}
use Rattle.flash_store.specs.Syncs.{both_synced}
use Rattle.flash_store.proofs.Holding.{one_held}
use Rattle.flash_store.proofs.Resting.{at_end}
use Rattle.image_codec.specs.Decoded.{decoded}
use Rattle.state_store.proofs.Stored.{reads}
use Rattle.state_store.proofs.Named.{named_there}

-- the frame of a device is that of one section
pub one_section : (t : TablesData) (r : RollData) (section other : Section) (d : Dev) (content : List ℕ) → IsTables t → IsSectionOf t r section → IsSectionOf t r other
    → HasFrameOf t r section d content → HasFrameOf t r other d content → section ≡ other
one_section t r section other d content tables fits other_fits frame other_frame =
    let this = named_there t r section d content (part content 9 8) tables fits frame refl in
    let that = named_there t r other d content (part content 9 8) tables other_fits other_frame refl in
    let both : Some section ≡ Some other = sym this ∙ that in
    let same : section ≡ other = cc in
    same

pub loaded_once : LoadedOnce
loaded_once t r section other internal external tables loaded also =
    one_section t r section other Internal internal tables loaded.section_fits also.section_fits loaded.internal_frame also.internal_frame

pub loaded_or_foreign : LoadedOrForeign
loaded_or_foreign t r section Internal internal external tables loaded none = none section loaded.section_fits loaded.internal_frame
loaded_or_foreign t r section External internal external tables loaded (other, fits, frame, differs) =
    let same = one_section t r section other Internal internal tables loaded.section_fits fits loaded.internal_frame frame in
    differs (subst (λ (u : Section). HasFrameOf t r u External external) same loaded.external_frame)

pub foreign_once : ForeignOnce
foreign_once t r internal external none (section, fits, frame, differs) = none section fits frame

-- a poll that is found has at most 600 voters
pub found_few : (t : TablesData) (r : RollData) (section : Section) (s : State) (flashes : Flashes) → IsTables t → AreFound t r section s flashes → length r.titles ≤ most_voters
found_few t r section s flashes tables found =
    let is : IsSection section = All-contains IsSection t.sections section tables.sections found.loaded.section_fits.listed in
    omega (arith, is.voters.1, found.loaded.section_fits.voters)

-- and one state is found
pub found_once : (t : TablesData) (r : RollData) (section : Section) (s u : State) (flashes : Flashes) → IsTables t → AreFound t r section s flashes
    → HeldByBoth t (length r.titles) flashes.internal.content flashes.external.content u → u ≡ s
found_once t r section s u flashes tables found also =
    let voters = length r.titles in
    one_held (poll t voters) (decoded t voters) (reads t voters tables (found_few t r section s flashes tables found))
    (bodies_of_both body_size flashes.internal.content flashes.external.content) u s also found.held

-- the frames stay those of the load
module _ (t : TablesData) (r : RollData) (section : Section) (s u : State) (states : List State) (start : Flashes) (left : Left) (whole : AreWhole start) (found : AreFound t r section s start)
    (keeps : KeepFrames start left) (held : HeldByBoth t (length r.titles) left.internal left.external u) (one : Contains states u) where
  whole_left : AreWhole (clean_flashes left.internal left.external)
  whole_left Internal = (keeps Internal).same_length ∙ whole Internal
  whole_left External = (keeps External).same_length ∙ whole External

  pub poll_left : IsPollOf t r section states left
  poll_left =
      record {
        whole = whole_left;
        state = u;
        one = one;
        found = record {
          loaded = record {
            section_fits = found.loaded.section_fits;
            internal_frame = frame_kept body_size (header (load_of t r section) Internal) start.internal.content left.internal (omega (arith, whole Internal)) (keeps Internal) found.loaded.internal_frame;
            external_frame = frame_kept body_size (header (load_of t r section) External) start.external.content left.external (omega (arith, whole External)) (keeps External) found.loaded.external_frame;
          };
          held = held;
        };
      }

pub recovery_goes_on : RecoveryGoesOn
recovery_goes_on t r section s start left whole found held keeps =
    poll_left t r section s s (s ∷ []) start left whole found keeps held (Contains-get_or (s ∷ []) 0 s (omega arith))

pub session_goes_on : SessionGoesOn
session_goes_on t r section s pieces start left whole found survives = go left.shown refl
  where
    fits : section.voters ≡ length r.titles
    fits = found.loaded.section_fits.voters

    states : List State
    states = s ∷ commits_in pieces

    held_now : (n : ℕ) → State → Type 0
    held_now n u = HeldByBoth t n left.internal left.external u

    end : (u : State) → held_now section.voters u → Contains states u → IsPollOf t r section states left
    end u held one =
        poll_left t r section s u states start left whole found survives.2 (subst (λ (n : ℕ). held_now n u) fits held) one

    go : (shown : List ℕ) → left.shown ≡ shown → IsPollOf t r section states left
    go [] none = end s (survives.0 none) (Contains-get_or states 0 s (omega arith))
    go (byte ∷ bytes) some =
        let follows = survives.1 (omega (arith, ap length some)) in
        let k = lines_reached (lines_in pieces) (length left.shown) in
        let held = held_among s pieces k (held_now section.voters) follows.holds.both in
        end held.0 held.1 held.2

-- ---- where a session ends

pub end_goes_on : EndGoesOn
end_goes_on t r section s pieces start ops whole found survives =
    let mid = after both_synced start in
    let end = after ops mid in
    let left : Left = record { internal = end.internal.content; external = end.external.content; shown = shown_by ops } in
    let poll = session_goes_on t r section s pieces start left whole found (at_end mid ops (Survives t (load_of t r section) s pieces start) survives) in (
      poll.state,
      poll.one,
      whole_end end poll.whole,
      record { loaded = poll.found.loaded; held = poll.found.held },
    )
  where
    whole_end : (end : Flashes) → AreWhole (clean_flashes end.internal.content end.external.content) → AreWhole end
    whole_end end is Internal = is Internal
    whole_end end is External = is External

-- Laws of what is found on two flashes, of what a session costs, and of what a power cut leaves to the next call
use Rattle.std.specs.Prelude.{◌≡◌, ◌⊎◌, ◌↔◌, ◌≤◌, ◌*◌, ℕ, List, [], ◌∷◌, Option, Some, None, IsSome, length, Contains}
use Rattle.std.specs.Option.{option_and_then}
use Rattle.urna_outside.specs.Confined.{count_syncs}
use Rattle.urna_outside.specs.Flash.{Flashes, Op, after, flash_of}
use Rattle.urna_outside.specs.Started.{clean_flashes}
use Rattle.urna_outside.specs.Stop.{AtEachStop, Left}
use Rattle.urna_outside.specs.Told.{Told}
use Rattle.urna_outside.specs.declared.device.Dev.{Dev}
use Rattle.urna_outside.specs.declared.device.Dev.TheVariants.{Internal, External}
use Rattle.urna_outside.specs.declared.device.Port.{Port}
use Rattle.election_tables.specs.Limits.{most_voters}
use Rattle.election_tables.specs.Roll.{IsRoll, RollData}
use Rattle.election_tables.specs.TablesData.{IsTables, TablesData}
use Rattle.election_tables.specs.declared.tables.sections.Section.{Section}
use Rattle.image_codec.specs.Decoded.{decoded, rank_in}
use Rattle.image_codec.specs.Encoding.{IsStateOf}
use Rattle.image_codec.specs.State.{State}
use Rattle.gate_slot.specs.Page.{put_bytes}
use Rattle.twin_image.specs.Held.{held_on}
use Rattle.twin_image.specs.Held.{held_alone as body_alone}
use Rattle.flash_store.specs.Held.{Hold, HoldNone, bodies_of_both, open_bodies}
use Rattle.flash_store.specs.Pieces.{commits_in}
use Rattle.flash_store.specs.Played.{AreInOrder, AreInOrderTo, shows_in}
use Rattle.flash_store.specs.Syncs.{both_synced}
use Rattle.image_codec.specs.Layout.{body_size}
use Rattle.state_store.specs.Calls.{AreFound}
use Rattle.state_store.specs.Cost.{bytes_along}
use Rattle.state_store.specs.Held.{AreLoaded, HeldByBoth, IsForeign, KeepFrames, poll}
use Rattle.state_store.specs.Load.{IsSectionOf, load_of}
use Rattle.state_store.specs.Played.{Survives, kept_poll}
use Rattle.state_store.specs.Rest.{AreAtRest, device_size}
use Rattle.state_store.specs.Pieces.{Piece}
use Rattle.state_store.specs.declared.load.Load.{Load}

-- two flashes are loaded for one section at most
abbrev pub LoadedOnce : Type 0
LoadedOnce =
    (t : TablesData) (r : RollData) (section other : Section) (internal external : List ℕ) → IsTables t
    → AreLoaded t r section internal external → AreLoaded t r other internal external → section ≡ other

-- and then neither is foreign
abbrev pub LoadedOrForeign : Type 0
LoadedOrForeign =
    (t : TablesData) (r : RollData) (section : Section) (d : Dev) (internal external : List ℕ) → IsTables t
    → AreLoaded t r section internal external → ¬ IsForeign t r d internal external

-- the two flashes are foreign on one side
abbrev pub ForeignOnce : Type 0
ForeignOnce =
    (t : TablesData) (r : RollData) (internal external : List ℕ)
    → IsForeign t r Internal internal external → ¬ IsForeign t r External internal external

-- both flashes have their size
abbrev pub AreWhole : Flashes → Type 0
AreWhole flashes = (d : Dev) → length (flash_of d flashes).content ≡ device_size

-- What a power cut left is a poll of this section again, in one of these states, on devices of their size.
pub record IsPollOf (t : TablesData) (r : RollData) (section : Section) (states : List State) (left : Left) : Type 0 where
  pub whole : AreWhole (clean_flashes left.internal left.external)
  pub state : State
  pub one : Contains states state
  pub found : AreFound t r section state (clean_flashes left.internal left.external)

-- What a power cut leaves of a session is a poll in the state that the session found or in one of those that its pieces tell.
abbrev pub SessionGoesOn : Type 0
SessionGoesOn =
    (t : TablesData) (r : RollData) (section : Section) (s : State) (pieces : List Piece) (start : Flashes) (left : Left) → AreWhole start
    → AreFound t r section s start → Survives t (load_of t r section) s pieces start left → IsPollOf t r section (s ∷ commits_in pieces) left

-- Pieces that were put out in order cost at most 12 syncs for each state that they tell and, where the trail is told, no more bytes
-- than these states together; and where they tell none they are shows alone. So it is whether all of them were put out or a fault cut
-- them off.
abbrev pub CostsAreBounded : Type 0
CostsAreBounded =
    (t : TablesData) (load : Load) (told : Told) (at : Port) (s : State) (pieces : List Piece) (ops : List Op)
    → AreInOrder (kept_poll t load) told s pieces ops ⊎ AreInOrderTo (kept_poll t load) told at s pieces ops
    → (count_syncs ops ≤ 12 * length (commits_in pieces)) × (IsSome told.trail → put_bytes ops ≤ bytes_along t s (commits_in pieces))
    × (commits_in pieces ≡ [] → ops ≡ shows_in ops)

-- What one leaves of a recovery is a poll in the state that the recovery found.
abbrev pub RecoveryGoesOn : Type 0
RecoveryGoesOn =
    (t : TablesData) (r : RollData) (section : Section) (s : State) (start : Flashes) (left : Left) → AreWhole start
    → AreFound t r section s start → HeldByBoth t (length r.titles) left.internal left.external s → KeepFrames start left → IsPollOf t r section (s ∷ []) left

-- What is held by the encodings is what the decoder makes of the body of greatest rank, among equals the first: of both images
-- together, and of each alone. Where it makes none, none is held.
abbrev pub IsDecodedFrom : TablesData → ℕ → List (List ℕ) → Option State → Type 0
IsDecodedFrom t voters bodies answer =
    ((s : State) → Hold (poll t voters) bodies s ↔ (answer ≡ Some s)) × (HoldNone (poll t voters) bodies ↔ (answer ≡ None))

abbrev pub HeldIsDecoded : Type 0
HeldIsDecoded =
    (t : TablesData) (voters : ℕ) (internal external : List ℕ) → IsTables t → voters ≤ most_voters
    → IsDecodedFrom t voters (bodies_of_both body_size internal external) (option_and_then (decoded t voters) (held_on (rank_in t voters) body_size internal external))
    × IsDecodedFrom t voters (open_bodies body_size internal) (option_and_then (decoded t voters) (body_alone (rank_in t voters) body_size internal))

-- one state is held at most
abbrev pub OneIsHeld : Type 0
OneIsHeld =
    (t : TablesData) (voters : ℕ) (bodies : List (List ℕ)) (s u : State) → IsTables t → voters ≤ most_voters
    → Hold (poll t voters) bodies s → Hold (poll t voters) bodies u → s ≡ u

-- Flashes at rest with a state of a poll are a poll that the next call finds: so is what a load leaves, and a session that is held.
abbrev pub RestIsFound : Type 0
RestIsFound =
    (t : TablesData) (r : RollData) (section : Section) (s : State) (flashes : Flashes) → IsTables t → IsRoll r → IsSectionOf t r section
    → IsStateOf t (length r.titles) s → AreAtRest t (load_of t r section) s flashes → AreWhole flashes × AreFound t r section s flashes

-- A session that ended, with its pieces put out or by a fault, leaves the flashes so too, where no power cut comes.
abbrev pub EndGoesOn : Type 0
EndGoesOn =
    (t : TablesData) (r : RollData) (section : Section) (s : State) (pieces : List Piece) (start : Flashes) (ops : List Op) → AreWhole start
    → AreFound t r section s start → AtEachStop (after both_synced start) ops (Survives t (load_of t r section) s pieces start)
    → (u : State) × Contains (s ∷ commits_in pieces) u × AreWhole (after ops (after both_synced start))
    × AreFound t r section u (after ops (after both_synced start))

-- A state of a poll can stand in the slots of flashes that are loaded for it, and the decoder reads it there.
use Rattle.std.proofs.Common.{◌≡◌, inl, ℕ, ◌≤◌, Some, List, ◌++◌, length, refl, ap, ◌∙◌, arith, length-append}
use Rattle.std.specs.Prelude.{replicate}
use Rattle.std.proofs.lemmas.List.{length-replicate}
use Rattle.std.proofs.lemmas.List.Elements.{All-contains}
use Rattle.urna_outside.specs.declared.device.Dev.{Dev}
use Rattle.election_tables.specs.Limits.{most_voters}
use Rattle.election_tables.specs.Roll.{RollData}
use Rattle.election_tables.specs.TablesData.{IsSection, IsTables, TablesData}
use Rattle.gate_slot.specs.Slot.{header_size}
use Rattle.image_codec.specs.Decoded.{decoded}
use Rattle.image_codec.specs.Encoding.{IsStateOf, encode}
use Rattle.image_codec.specs.State.{State}
use Rattle.image_codec.proofs.Decoding.{decoded_back, decoded_takes}
use Rattle.image_codec.proofs.Lengths.{length-encode, room_of_state}
use Rattle.image_codec.specs.Layout.{body_size}
use Rattle.state_store.specs.Load.{header}
use Rattle.state_store.specs.Store.{IsLoadedWith}
use Rattle.state_store.specs.declared.load.Load.{Load}
use Rattle.state_store.specs.Held.{poll}
use Rattle.state_store.specs.Played.{kept_poll}
use Rattle.flash_store.specs.Held.{IsReader}
use Rattle.flash_store.proofs.Playing.{RestHolds}
use Rattle.flash_store.proofs.Resting.{rest_holds}

-- the section of a load has at most 600 voters
pub few_voters : (t : TablesData) (r : RollData) (load : Load) → IsLoadedWith t r load → load.section.voters ≤ most_voters
few_voters t r load loaded =
    let is : IsSection load.section = All-contains IsSection t.sections load.section loaded.tables.sections loaded.section.listed in
    is.voters.1

-- how long a header is
long_header : (load : Load) (d : Dev) → length load.tables ≡ 32 → length load.roll ≡ 32 → length (header load d) ≡ header_size
unfolding header
long_header load d tables roll =
    let zeros : List ℕ = replicate 427 0 in
    let few : length zeros ≡ 427 = length-replicate {A = ℕ} 427 0 in
    omega (arith, tables, roll, length-append (load.tables ++ load.roll) zeros, length-append load.tables load.roll, few)

pub header_long : (t : TablesData) (r : RollData) (load : Load) (d : Dev) → IsLoadedWith t r load → length (header load d) ≡ header_size
header_long t r load d loaded =
    long_header load d (ap (λ (l : Load). length l.tables) loaded.same ∙ loaded.tables.digest) (ap (λ (l : Load). length l.roll) loaded.same ∙ loaded.roll.digest)

-- the decoder reads the encodings of a poll
pub reads : (t : TablesData) (voters : ℕ) → IsTables t → voters ≤ most_voters → IsReader (poll t voters) (decoded t voters)
reads t voters tables few =
    record {
      gives = λ body s is. decoded_back t voters body s tables few is;
      only = λ body s is. decoded_takes t voters body s tables few is;
    }

-- reading the encoding of a state of a poll gives it back, and it fills a body
pub known_state : (t : TablesData) (voters : ℕ) (s : State) → IsTables t → voters ≤ most_voters → IsStateOf t voters s → decoded t voters (encode t s) ≡ Some s
known_state t voters s tables few is = decoded_back t voters (encode t s) s tables few (record { state = is; same = inl refl })

pub long_state : (t : TablesData) (voters : ℕ) (s : State) → IsTables t → voters ≤ most_voters → IsStateOf t voters s → length (encode t s) ≡ body_size
long_state t voters s tables few is = let room = room_of_state t voters s tables few is in length-encode t s (omega (arith, room))

-- flashes at rest with a state of their load's poll hold it
pub stored : (t : TablesData) (r : RollData) (load : Load) (s : State) → IsLoadedWith t r load → IsStateOf t load.section.voters s → RestHolds (kept_poll t load) s
stored t r load s loaded is =
    let voters = load.section.voters in
    let few = few_voters t r load loaded in
    record {
      holds = λ flashes left rest internal external.
          rest_holds (poll t voters) (decoded t voters) (reads t voters loaded.tables few) (header load) (encode t s) s (long_state t voters s loaded.tables few is) (λ d. header_long t r load d loaded)
          (known_state t voters s loaded.tables few is) flashes left rest internal external;
      clean = λ flashes rest. rest.clean;
    }

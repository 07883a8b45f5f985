-- A device that has the frame of a load and isn't in use holds the ready state or none, and so both devices hold what the other one does.
use Rattle.std.proofs.Common.{◌≡◌, ◌⊎◌, inl, inr, ℕ, ◌≤◌, Bool, true, false, cond, ◌==◌, Option, Some, None, List, [], ◌∷◌, ◌++◌, length, take, replicate, slice_index, refl, sym, ap, subst, ◌∙◌, arith, lit≤}
use Rattle.std.proofs.lemmas.Bool.{cases_lt, eqb-true}
use Rattle.std.proofs.lemmas.List.{take-take}
use Rattle.std.specs.List.{AllByRecursion}
use Rattle.urna_base.proofs.Every.{every_append}
use Rattle.urna_outside.specs.declared.device.Dev.{Dev}
use Rattle.urna_outside.specs.declared.device.Dev.TheVariants.{Internal, External}
use Rattle.election_tables.specs.Limits.{most_voters}
use Rattle.election_tables.specs.Roll.{RollData}
use Rattle.election_tables.specs.TablesData.{IsTables, TablesData, places_of}
use Rattle.election_tables.specs.declared.tables.sections.Section.{Section}
use Rattle.gate_slot.specs.Slot.{body_in, gate_in, header_size, open_gate}
use Rattle.vote_kinds.specs.declared.choice.Choice.{Choice}
use Rattle.vote_record.specs.RdvData.{RdvData}
use Rattle.turnout.specs.declared.phase.Phase.{Phase}
use Rattle.turnout.specs.declared.phase.Phase.TheVariants as phase
use Rattle.image_codec.specs.Decoded.{decoded}
use Rattle.image_codec.specs.Encoding.{IsEncoding, IsStateOf, encode, encode1, phase_byte, written, written1}
use Rattle.image_codec.specs.Layout.{body_size, phase_offset}
use Rattle.image_codec.specs.State.{State, rank_in, rank_of}
use Rattle.image_codec.specs.Valid.{ready_state}
use Rattle.image_codec.proofs.Decoding.{decoded_back, decoded_takes}
use Rattle.image_codec.proofs.Loaded.{ready_bags, ready_marks}
use Rattle.image_codec.proofs.Valid.{IsKept}
use Rattle.flash_store.specs.Held.{HaveUpTo, Hold, open_bodies, open_body}
use Rattle.state_store.specs.Held.{HasFrameOf, poll}
use Rattle.state_store.specs.Load.{header, load_of, magic}
use Rattle.state_store.specs.Rest.{IsInUse, IsUsed}
use Rattle.state_store.specs.declared.load.Load.{Load}
use Rattle.flash_store.proofs.Holding.{hold_encoding, up_to_held}
use Rattle.contingency.specs.Laws.{SpareIsFound}
use Rattle.contingency.proofs.Going.{few_voters}
use Rattle.state_store.proofs.Stored.{reads}

-- ---- the ready state

-- the phase of a state is the second byte of its encoding
second_byte : (t : TablesData) (s : State) → slice_index (encode t s) phase_offset ≡ phase_byte s.phase
unfolding encode written
second_byte t s = refl

second_byte1 : (s : State) → slice_index (encode1 s) phase_offset ≡ phase_byte s.phase
unfolding encode1 written1
second_byte1 s = refl

pub encoded_byte : (t : TablesData) (voters : ℕ) (s : State) (body : List ℕ) → IsEncoding t voters s body → slice_index body phase_offset ≡ phase_byte s.phase
encoded_byte t voters s body is = elim is.same [
  | inl new ↦ ap (λ (l : List ℕ). slice_index l phase_offset) new ∙ second_byte t s
  | inr old ↦ ap (λ (l : List ℕ). slice_index l phase_offset) old ∙ second_byte1 s
]

ready_byte : (p : Phase) (byte : ℕ) → byte ≡ phase_byte p → ¬ ((byte ≡ 1) ⊎ (byte ≡ 2)) → p ≡ phase.Ready
ready_byte phase.Ready byte is unused = refl
ready_byte (phase.Polling opened) byte is unused = absurd (unused (inl is))
ready_byte (phase.Sealed opened closed) byte is unused = absurd (unused (inr is))

ready_rank : (p : Phase) (n : ℕ) → rank_in p n ≤ 0 → p ≡ phase.Ready
ready_rank phase.Ready n least = refl
ready_rank (phase.Polling opened) n least = absurd (omega arith)
ready_rank (phase.Sealed opened closed) n least = absurd (omega arith)

-- there is one of these tables and so many voters
one_ready : (t : TablesData) (voters : ℕ) (s : State) → IsStateOf t voters s → s.phase ≡ phase.Ready → s ≡ ready_state t voters
one_ready t voters s of ready =
    let parts : Phase → List Bool → List ℕ → List (List Choice) → State = λ p came places bags. record { phase = p; came = came; places = places; bags = bags } in
    let r : RdvData = record { bags = s.bags; voters = length s.came; places = s.places } in
    let kept : IsKept s.phase s.came r = (of.valid, refl) in
    let none : List Bool = replicate voters false in
    let came : s.came ≡ none = ready_marks s.phase s.came r kept ready ∙ ap (λ (n : ℕ). replicate {A = Bool} n false) of.roll in
    ap (λ (p : Phase). parts p s.came s.places s.bags) ready
    ∙ ap (λ (l : List Bool). parts phase.Ready l s.places s.bags) came
    ∙ ap (λ (l : List ℕ). parts phase.Ready none l s.bags) of.places
    ∙ ap (parts phase.Ready none (places_of t)) (ready_bags t s.phase s.came r kept ready of.places)

-- ---- what a device holds that isn't in use

module _ (t : TablesData) (voters : ℕ) where
  -- the bytes are the encoding of no other state
  abbrev IsReady : List ℕ → Type 0
  IsReady body = (u : State) → IsEncoding t voters u body → u ≡ ready_state t voters

  abbrev AreReady : List (List ℕ) → Type 0
  AreReady bodies = AllByRecursion IsReady bodies

  unused_slot : (index : ℕ) (image : List ℕ) → ¬ IsUsed index image → AreReady (open_body body_size index image)
  unused_slot index image unused = go (gate_in body_size index image == open_gate) refl
    where
      go : (opened : Bool) → (gate_in body_size index image == open_gate) ≡ opened → AreReady (cond opened (body_in body_size index image ∷ []) [])
      go false is = tt
      go true is = (
        λ u encoding. one_ready t voters u encoding.state (ready_byte u.phase (slice_index (body_in body_size index image) phase_offset) (encoded_byte t voters u (body_in body_size index image) encoding)
            (λ used. unused (eqb-true (gate_in body_size index image) open_gate is, used))),
        tt,
      )

  unused_ready : (image : List ℕ) → take 8 image ≡ magic → ¬ IsInUse image → AreReady (open_bodies body_size image)
  unfolding open_bodies
  unused_ready image begins unused =
      every_append IsReady (open_body body_size 0 image) (open_body body_size 1 image)
      (unused_slot 0 image (λ used. unused (record { begins = begins; used = inl used })))
      (unused_slot 1 image (λ used. unused (record { begins = begins; used = inr used })))

  -- the ready state has the least rank
  least : (u : State) → u ≡ ready_state t voters → rank_of u ≡ 0
  least u is = ap rank_of is

  ready_up_to : (bodies : List (List ℕ)) (rank : ℕ) → AreReady bodies → HaveUpTo (poll t voters) rank bodies
  ready_up_to [] rank ready = tt
  ready_up_to (body ∷ bodies) rank ready =
      (λ u encoding. let zero = least u (ready.0 u encoding) in omega arith, ready_up_to bodies rank ready.1)

  module _ (tables : IsTables t) (few : voters ≤ most_voters) (s : State) where
    abbrev UpTo : List ℕ → Type 0
    UpTo body = (u : State) → IsEncoding t voters u body → rank_of u ≤ rank_of s

    -- so it is held with bodies of the ready state behind them
    held_before : (bodies more : List (List ℕ)) → Hold (poll t voters) bodies s → AreReady more → Hold (poll t voters) (bodies ++ more) s
    held_before [] more holds ready = absurd holds
    held_before (body ∷ bodies) more (inl first) ready = inl (first.0, every_append UpTo bodies more first.1 (ready_up_to more (rank_of s) ready))
    held_before (body ∷ bodies) more (inr behind) ready = inr (behind.0, held_before bodies more behind.1 ready)

    -- and before them
    held_behind : (bodies more : List (List ℕ)) → AreReady bodies → Hold (poll t voters) more s → Hold (poll t voters) (bodies ++ more) s
    held_behind [] more ready holds = holds
    held_behind (body ∷ bodies) more ready holds = go (held_behind bodies more ready.1 holds) (decoded t voters body) refl
      where
        take_first : Hold (poll t voters) (bodies ++ more) s → (u : State) → IsEncoding t voters u body → Hold (poll t voters) (body ∷ (bodies ++ more)) s
        take_first rest u encoding = elim (cases_lt 0 (rank_of s)) [
          | inl above ↦ inr (λ v is. let zero = least v (ready.0 v is) in omega arith, rest)
          | inr zero ↦
              let s_ready = one_ready t voters s (hold_encoding (poll t voters) more s holds).1.state (ready_rank s.phase _ zero) in
              let same : u ≡ s = ready.0 u encoding ∙ sym s_ready in
              inl (subst (λ (x : State). IsEncoding t voters x body) same encoding, every_append UpTo bodies more (ready_up_to bodies (rank_of s) ready.1) (up_to_held (poll t voters) (decoded t voters) (reads t voters tables few) more (rank_of s) s (omega arith) holds))
        ]

        go : Hold (poll t voters) (bodies ++ more) s → (o : Option State) → decoded t voters body ≡ o → Hold (poll t voters) (body ∷ (bodies ++ more)) s
        go rest None none = inr (λ u is. let known = decoded_back t voters body u tables few is in absurd (cc), rest)
        go rest (Some u) is = take_first rest u (decoded_takes t voters body u tables few is)

-- ---- the frame of a load

magic_first : (load : Load) (d : Dev) → take 8 (header load d) ≡ magic
unfolding header
magic_first load d = refl

pub begins_so : (t : TablesData) (r : RollData) (section : Section) (d : Dev) (content : List ℕ) → HasFrameOf t r section d content → take 8 content ≡ magic
begins_so t r section d content frame =
    sym (take-take 8 header_size content (lit≤ tt)) ∙ ap (take 8) frame.at_front ∙ magic_first (load_of t r section) d

pub spare_is_found : SpareIsFound
spare_is_found t r section s Internal flashes tables is frame =
    let few = few_voters t r section tables is.standing.section_fits in
    let internal = flashes.internal.content in
    let ready = unused_ready t (length r.titles) internal (begins_so t r section Internal internal frame) is.unused in
    record {
      loaded = record { section_fits = is.standing.section_fits; internal_frame = frame; external_frame = is.standing.frame };
      held = held_behind t (length r.titles) tables few s (open_bodies body_size internal) (open_bodies body_size flashes.external.content) ready is.standing.held;
    }
spare_is_found t r section s External flashes tables is frame =
    let few = few_voters t r section tables is.standing.section_fits in
    let external = flashes.external.content in
    let ready = unused_ready t (length r.titles) external (begins_so t r section External external frame) is.unused in
    record {
      loaded = record { section_fits = is.standing.section_fits; internal_frame = is.standing.frame; external_frame = frame };
      held = held_before t (length r.titles) tables few s (open_bodies body_size flashes.internal.content) (open_bodies body_size external) is.standing.held ready;
    }

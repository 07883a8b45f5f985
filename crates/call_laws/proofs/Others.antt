-- vota over flashes that aren't loaded with its documents
use Rattle.std.proofs.Common.{◌≡◌, ◌⊎◌, inl, inr, ℕ, List, [], ◌∷◌, ◌++◌, Option, Some, length, take, drop, refl, sym, ap, subst, ◌∙◌, append_assoc}
use Rattle.std.specs.Prelude.{replicate}
use Rattle.std.specs.Int.{w32, to_be_bytes}
use Rattle.std.proofs.lemmas.List.{drop_at, take_at}
use Rattle.urna_outside.specs.Cabinet.{CabinetTold, Files}
use Rattle.urna_outside.specs.Flash.{Flashes, Op}
use Rattle.urna_outside.specs.Told.{Runs, Told}
use Rattle.urna_outside.specs.declared.device.Dev.{Dev}
use Rattle.urna_outside.specs.declared.device.Dev.TheVariants as dev
use Rattle.urna_outside.specs.declared.device.Port.TheVariants as port
use Rattle.urna_outside.proofs.Doing.{does_nothing}
use Rattle.election_tables.specs.Roll.{IsRoll, RollData}
use Rattle.election_tables.specs.TablesData.{IsTables, TablesData}
use Rattle.election_tables.specs.declared.tables.sections.Section.{Section}
use Rattle.election_tables.proofs.Determined.{roll_is}
use Rattle.key_script.specs.declared.keys.Event.{Event}
use Rattle.image_codec.specs.State.{State}
use Rattle.flash_store.specs.Syncs.{FromSyncs, IsFrontOfSyncs, IsSynced, IsUntouched, both_synced}
use Rattle.state_store.specs.Calls.{Recovers}
use Rattle.state_store.specs.Held.{AreLoaded, HasFrameOf}
use Rattle.flash_store.specs.Device.{device_byte}
use Rattle.state_store.specs.Load.{IsSectionOf, header, header_zeros, load_of, magic}
use Rattle.state_store.specs.declared.load.Load.{Load}
use Rattle.station.specs.Start.{FailsToStart, IsRecovered}
use Rattle.station.specs.declared.station.StartError.{StartError}
use Rattle.station.specs.declared.station.StartError.TheVariants as starting
use Rattle.urna_commands.specs.Command.{Vota}
use Rattle.command_parts.specs.Documents.{HasDocuments}
use Rattle.urna_commands.specs.Errors.{start_status}
use Rattle.call_laws.specs.Idle.{OthersAreKeptOut}
use Rattle.call_laws.specs.Replaced.{EndsForeign}
use Rattle.urna_commands.specs.Vota.{IsGiven, IsRefused, VotaEnds, cut, no_cabinet, no_memory, not_started, refused, session_held}
use Rattle.urna_commands.specs.declared.status.Status.{Status}
use Rattle.command_parts.proofs.Once.{same_roll, same_tables}

-- files give one set of documents
pub documents_once : (files : Files) (tables_name roll_name : List ℕ) (t u : TablesData) (r q : RollData) → HasDocuments (Some files) tables_name roll_name t r
    → HasDocuments (Some files) tables_name roll_name u q → (t ≡ u) × (r ≡ q)
documents_once files tables_name roll_name t u r q a b = (same_tables files tables_name t u a.tables b.tables, same_roll files roll_name r q a.roll b.roll)

-- ---- the hashes in a header

-- behind the section a header has the two hashes
header_is : (load : Load) (d : Dev)
    → header load d ≡ magic ++ device_byte d ∷ (to_be_bytes w32 load.section.zone ++ to_be_bytes w32 load.section.number ++ to_be_bytes w32 load.section.voters ++ load.tables ++ load.roll ++ replicate header_zeros 0)
unfolding header
header_is load d = refl

behind_device : (byte : ℕ) (rest : List ℕ) → drop 9 (magic ++ byte ∷ rest) ≡ rest
behind_device byte rest = refl

number_long : (n : ℕ) → length (to_be_bytes w32 n) ≡ 4
number_long n = refl

hashes_place : (t : TablesData) (r : RollData) (x : Section) (d : Dev)
    → drop 4 (drop 4 (drop 4 (drop 9 (header (load_of t r x) d)))) ≡ t.digest ++ (r.digest ++ replicate header_zeros 0)
hashes_place t r x d =
    let hashes : List ℕ = (t.digest ++ r.digest) ++ replicate header_zeros 0 in
    let numbers : List ℕ = to_be_bytes w32 x.zone ++ (to_be_bytes w32 x.number ++ (to_be_bytes w32 x.voters ++ hashes)) in
    ap (λ (l : List ℕ). drop 4 (drop 4 (drop 4 (drop 9 l)))) (header_is (load_of t r x) d)
    ∙ ap (λ (l : List ℕ). drop 4 (drop 4 (drop 4 l))) (behind_device (device_byte d) numbers)
    ∙ ap (λ (l : List ℕ). drop 4 (drop 4 l)) (drop_at (to_be_bytes w32 x.zone) (to_be_bytes w32 x.number ++ (to_be_bytes w32 x.voters ++ hashes)) 4 (number_long x.zone))
    ∙ ap (drop 4) (drop_at (to_be_bytes w32 x.number) (to_be_bytes w32 x.voters ++ hashes) 4 (number_long x.number))
    ∙ drop_at (to_be_bytes w32 x.voters) hashes 4 (number_long x.voters)
    ∙ append_assoc t.digest r.digest (replicate header_zeros 0)

module _ (t u : TablesData) (r q : RollData) (section other : Section) (tables : IsTables t) (roll : IsRoll r) (tables_too : IsTables u) (roll_too : IsRoll q) where
  abbrev zeros : List ℕ
  zeros = replicate header_zeros 0

  -- a device with the frames of two loads has the same hashes in both
  pub same_hashes : (d : Dev) (content : List ℕ) → HasFrameOf t r section d content → HasFrameOf u q other d content → (u.digest ≡ t.digest) × (q.digest ≡ r.digest)
  same_hashes d content a b =
      let heads : header (load_of t r section) d ≡ header (load_of u q other) d = sym a.at_front ∙ b.at_front in
      let both : t.digest ++ (r.digest ++ zeros) ≡ u.digest ++ (q.digest ++ zeros) = sym (hashes_place t r section d) ∙ ap (λ (l : List ℕ). drop 4 (drop 4 (drop 4 (drop 9 l)))) heads ∙ hashes_place u q other d in
      let first : t.digest ≡ u.digest =
      sym (take_at t.digest (r.digest ++ zeros) 32 tables.digest) ∙ ap (take 32) both ∙ take_at u.digest (q.digest ++ zeros) 32 tables_too.digest in
      let rest : r.digest ++ zeros ≡ q.digest ++ zeros =
      sym (drop_at t.digest (r.digest ++ zeros) 32 tables.digest) ∙ ap (drop 32) both ∙ drop_at u.digest (q.digest ++ zeros) 32 tables_too.digest in
      let second : r.digest ≡ q.digest = sym (take_at r.digest zeros 32 roll.digest) ∙ ap (take 32) rest ∙ take_at q.digest zeros 32 roll_too.digest in
      (sym first, sym second)

-- ---- what vota does there

module _ (names : Vota) (c d : CabinetTold) (m b : Told) (start : Flashes) (flashes : m.flashes ≡ Some start)
    (clash : (u : TablesData) (q : RollData) (es : List Event) (other : Section) → IsGiven c.files names u q es
    → AreLoaded u q other start.internal.content start.external.content → ⊥) where
  not_recovered : (u : TablesData) (q : RollData) (es : List Event) (load : Load) (v : State) (between : Told) → IsGiven c.files names u q es → IsRecovered u q load v m between → ⊥
  not_recovered u q es load v between given recovered = clash u q es load.section given (recovered.ran.2.2.stops start flashes).0.loaded

  abbrev Fronts : Type 0
  Fronts = Runs IsFrontOfSyncs m b

  untouched_front : IsUntouched m b → Fronts
  untouched_front same = subst (Runs IsFrontOfSyncs m) (sym same) ([], does_nothing m, inl (inl refl))

  synced_front : IsSynced m b → Fronts
  synced_front h = (both_synced, h.does, inr refl)

  flash_front : (u : TablesData) (q : RollData) (es : List Event) → IsGiven c.files names u q es
      → Runs (FromSyncs (λ ops. (ops ≡ []) ⊎ ((other : Section) × (v : State) × IsSectionOf u q other × Recovers u q other v m ops))) m b → Fronts
  flash_front u q es given (ops, does, inl within) = (ops, does, inl within)
  flash_front u q es given (ops, does, inr (rest, is, inl none)) = (ops, does, inr (is ∙ ap (λ (l : List Op). both_synced ++ l) none))
  flash_front u q es given (ops, does, inr (rest, is, inr (other, v, fits, recovers))) = absurd (clash u q es other given (recovers.stops start flashes).0.loaded)

  start_front : (u : TablesData) (q : RollData) (es : List Event) (e : StartError) → IsGiven c.files names u q es → FailsToStart u q m b e → Fronts
  start_front u q es starting.Memory given h = untouched_front h
  start_front u q es (starting.Port port.Internal) given h = flash_front u q es given h.1
  start_front u q es (starting.Port port.External) given h = flash_front u q es given h.1
  start_front u q es (starting.Port port.Display) given h = absurd (not_recovered u q es h.load h.state h.between given h.recovered)
  start_front u q es (starting.Foreign e) given h = synced_front h.0
  start_front u q es starting.NoImage given h = synced_front h.0

  pub unloaded_front : (answer : Status) → VotaEnds names c d m b answer → Fronts
  unloaded_front _ (refused why taken un) = untouched_front un
  unloaded_front _ (no_memory taken un) = untouched_front un
  unloaded_front _ (no_cabinet taken un) = untouched_front un
  unloaded_front _ (not_started {t = u} {r = q} {es} e given taken h) = start_front u q es e given h
  unloaded_front _ (cut {t = u} {r = q} {es} p given taken h) = absurd (not_recovered u q es h.load h.first h.opens.between given h.opens.recovered)
  unloaded_front _ (session_held {t = u} {r = q} {es} after given taken h one_of state put) = absurd (not_recovered u q es h.load h.first h.opens.between given h.opens.recovered)

  start_answer : (u : TablesData) (q : RollData) (es : List Event) (e : StartError) → IsGiven c.files names u q es → FailsToStart u q m b e → EndsForeign (start_status e)
  start_answer u q es starting.Memory given h = inr (inl refl)
  start_answer u q es (starting.Port port.Internal) given h = inr (inr (inr (dev.Internal, refl)))
  start_answer u q es (starting.Port port.External) given h = inr (inr (inr (dev.External, refl)))
  start_answer u q es (starting.Port port.Display) given h = absurd (not_recovered u q es h.load h.state h.between given h.recovered)
  start_answer u q es (starting.Foreign e) given h = inl (e, refl)
  start_answer u q es starting.NoImage given h = absurd (clash u q es h.1.0 given (h.1.2 start flashes).0)

  -- a document was refused, or it ends so
  pub unloaded_answer : (answer : Status) → VotaEnds names c d m b answer → IsRefused c.files names answer ⊎ EndsForeign answer
  unloaded_answer answer (refused why taken un) = inl why
  unloaded_answer _ (no_memory taken un) = inr (inr (inl refl))
  unloaded_answer _ (no_cabinet taken un) = inr (inr (inr (inl refl)))
  unloaded_answer _ (not_started {t = u} {r = q} {es} e given taken h) = inr (start_answer u q es e given h)
  unloaded_answer _ (cut {t = u} {r = q} {es} p given taken h) = absurd (not_recovered u q es h.load h.first h.opens.between given h.opens.recovered)
  unloaded_answer _ (session_held {t = u} {r = q} {es} after given taken h one_of state put) =
      absurd (not_recovered u q es h.load h.first h.opens.between given h.opens.recovered)

-- ---- with other documents

pub others_are_kept_out : OthersAreKeptOut
others_are_kept_out t r section s start tables roll found names files gives c d m n answer ends told flashes =
    unloaded_front names c d m n start flashes
    (λ u q es other given loaded.
    let here : IsGiven (Some files) names u q es = subst (λ (o : Option Files). IsGiven o names u q es) told given in
    gives u q es here
    (same_hashes t u r q section other tables roll here.tables.valid (roll_is here.roll.bytes q here.roll.read) dev.Internal start.internal.content found.loaded.internal_frame loaded.internal_frame))
    answer ends

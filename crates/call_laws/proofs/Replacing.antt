-- The commands over flashes of which one was replaced
use Rattle.std.proofs.Common.{◌≡◌, ◌⊎◌, inl, inr, ℕ, List, [], ◌∷◌, ◌++◌, Option, Some, length, refl, sym, ap, subst, ◌∙◌, append_assoc}
use Rattle.std.proofs.lemmas.List.{append-nil}
use Rattle.urna_outside.specs.Cabinet.{CabinetTold, Files}
use Rattle.urna_outside.specs.Flash.{Flashes, Op, after, flash_of, part}
use Rattle.urna_outside.specs.ShownLines.{shows}
use Rattle.urna_outside.specs.Started.{clean_flashes}
use Rattle.urna_outside.specs.Stop.{AtEachStop, Left, left_on}
use Rattle.urna_outside.specs.Told.{Does, Runs, Told, port_of}
use Rattle.urna_outside.specs.declared.device.Dev.{Dev}
use Rattle.urna_outside.specs.declared.device.Dev.TheVariants as dev
use Rattle.urna_outside.proofs.Doing.{does-append, told_after}
use Rattle.urna_outside.proofs.Showing.{shows_keep}
use Rattle.urna_outside.proofs.ShowingLines.{cut_front, shows_lines}
use Rattle.election_tables.specs.Roll.{IsRoll, RollData}
use Rattle.election_tables.specs.TablesData.{IsTables, TablesData}
use Rattle.election_tables.specs.declared.tables.sections.Section.{Section}
use Rattle.election_tables.proofs.Determined.{roll_is}
use Rattle.key_script.specs.declared.keys.Event.{Event}
use Rattle.turnout.specs.declared.phase.Phase.{Phase}
use Rattle.turnout.specs.declared.phase.Phase.TheVariants as phase
use Rattle.image_codec.specs.Encoding.{IsStateOf}
use Rattle.image_codec.specs.Layout.{body_size}
use Rattle.image_codec.specs.State.{State}
use Rattle.gate_slot.specs.Slot.{header_size, padding_offset, padding_size}
use Rattle.twin_image.specs.Frame.{HasFrame, padding}
use Rattle.twin_image.specs.Slots.{beside}
use Rattle.twin_image.proofs.Mending.{cases_bytes}
use Rattle.twin_image.proofs.Renewing.{content_image}
use Rattle.flash_store.specs.Held.{HoldEither}
use Rattle.flash_store.specs.Syncs.{FromSyncs, IsFrontOfSyncs, both_synced}
use Rattle.state_store.specs.Calls.{AreFound, FailsToPeek}
use Rattle.state_store.specs.Held.{AreLoaded, HasFrameOf, HasNoFrame, HeldAlone, poll}
use Rattle.state_store.specs.Load.{IsSectionOf, header, load_of}
use Rattle.state_store.specs.Rest.{AreAtRest, IsInUse}
use Rattle.state_store.proofs.Going.{found_once, one_section}
use Rattle.state_store.proofs.Loaded.{rest_found}
use Rattle.state_store.proofs.Stored.{stored}
use Rattle.contingency.specs.Calls.{FailsToReplace, IsBare, Replaces}
use Rattle.contingency.specs.Replaced.{IsReplaced, IsStanding, LeavesStanding}
use Rattle.contingency.specs.declared.replacement.ReplaceError.{ReplaceError}
use Rattle.contingency.specs.declared.replacement.ReplaceError.TheVariants as replace
use Rattle.contingency.proofs.Going.{one_cause, stands_once}
use Rattle.contingency.proofs.Spare.{spare_is_found}
use Rattle.call_laws.specs.Again.{AreNoCollision, GivesNoCollision, HavePoll, by_both, by_one}
use Rattle.call_laws.specs.AtRest.{RestWith}
use Rattle.urna_commands.specs.Command.{Emite, Repoe, Vota}
use Rattle.command_parts.specs.Documents.{HasDocuments}
use Rattle.urna_commands.specs.Documents.{IsFirstFault}
use Rattle.urna_commands.specs.Emite.{EmiteEnds, HasPeeked, emit_no_cabinet, emit_no_memory, emit_refused, emitted, files_stopped, no_files, not_emitted, not_found, not_sealed}
use Rattle.urna_commands.specs.Errors.{port_status, replace_status, store_status}
use Rattle.command_parts.specs.Idle.{AreIdle}
use Rattle.call_laws.specs.Replaced.{EndsForeign, ReplacedIsForeign, ReplacedIsLoaded}
use Rattle.urna_commands.specs.Repoe.{HasReplaced, RepoeEnds, not_replaced, replace_no_cabinet, replace_no_memory, replace_refused, replaced, replaced_line, replaced_untold}
use Rattle.urna_commands.specs.Vota.{IsGiven, IsRefused, VotaEnds}
use Rattle.command_parts.specs.declared.error.Doc.TheVariants as doc
use Rattle.urna_commands.specs.declared.status.Status.{Status}
use Rattle.urna_commands.specs.declared.status.Status.TheVariants as status
use Rattle.call_laws.proofs.Headline.{given_once}
use Rattle.command_parts.proofs.Idle.{Idles, cut_idles, front_idles, idle-append, idles-append, shown_idles, synced_idles, untouched_idles}
use Rattle.call_laws.proofs.Leaving.{standing_is_in_use}
use Rattle.urna_commands.proofs.Once.{refused_or_documents, refused_or_given}
use Rattle.call_laws.proofs.Others.{documents_once, same_hashes, unloaded_answer, unloaded_front}
use Rattle.state_store.specs.declared.store.StoreError.{StoreError}
use Rattle.state_store.specs.declared.store.StoreError.TheVariants as store

-- ---- the two devices

pub twice_beside : (d : Dev) → beside (beside d) ≡ d
twice_beside dev.Internal = refl
twice_beside dev.External = refl

-- one is the other, or the one beside it
pub one_or_beside : (d e : Dev) → (d ≡ e) ⊎ (d ≡ beside e)
one_or_beside dev.Internal dev.Internal = inl refl
one_or_beside dev.Internal dev.External = inr refl
one_or_beside dev.External dev.Internal = inr refl
one_or_beside dev.External dev.External = inl refl

-- of two that are loaded each has its frame
pub loaded_on : (t : TablesData) (r : RollData) (section : Section) (flashes : Flashes) (d : Dev) → AreLoaded t r section flashes.internal.content flashes.external.content
    → HasFrameOf t r section d (flash_of d flashes).content
loaded_on t r section flashes dev.Internal loaded = loaded.internal_frame
loaded_on t r section flashes dev.External loaded = loaded.external_frame

-- ---- a replaced one has the frame of the load, or not

frame_or_not : (h content : List ℕ) → HasFrame body_size h content ⊎ (¬ HasFrame body_size h content)
frame_or_not h content = elim (cases_bytes (part content 0 header_size) h) [
  | inr other ↦ inr (λ is. other is.at_front)
  | inl front ↦ elim (cases_bytes (part content (padding_offset body_size 0) padding_size) padding) [
    | inr other ↦ inr (λ is. other is.first)
    | inl first ↦ elim (cases_bytes (part content (padding_offset body_size 1) padding_size) padding) [
      | inr other ↦ inr (λ is. other is.second)
      | inl second ↦ inl (record { at_front = front; first = first; second = second })
    ]
  ]
]

-- the poll is one of both flashes, or one of them was replaced and hasn't the frame of the load
pub poll_cases : (t : TablesData) (r : RollData) (section : Section) (s : State) (flashes : Flashes) → IsTables t → HavePoll t r section s flashes
    → AreFound t r section s flashes ⊎ ((d : Dev) × IsReplaced t r section s d flashes × (¬ HasFrameOf t r section d (flash_of d flashes).content))
poll_cases t r section s flashes tables (by_both found) = inl found
poll_cases t r section s flashes tables (by_one d is) = elim (frame_or_not (header (load_of t r section) d) (flash_of d flashes).content) [
  | inl frame ↦ inl (spare_is_found t r section s d flashes tables is frame)
  | inr none ↦ inr (d, is, none)
]

-- flashes have one poll at most, if both hold one
pub poll_once : (t : TablesData) (r : RollData) (section : Section) (s u : State) (flashes : Flashes) → IsTables t → AreFound t r section s flashes → HavePoll t r section u flashes → u ≡ s
poll_once t r section s u flashes tables found (by_both also) = found_once t r section s u flashes tables found also.held
poll_once t r section s u flashes tables found (by_one d is) =
    found_once t r section s u flashes tables found (spare_is_found t r section u d flashes tables is (loaded_on t r section flashes d found.loaded)).held

-- ---- nothing is loaded with other documents

module _ (t : TablesData) (r : RollData) (section : Section) (s : State) (replaced_one : Dev) (start : Flashes) (tables : IsTables t) (roll : IsRoll r)
    (is : IsReplaced t r section s replaced_one start) (none : ¬ HasFrameOf t r section replaced_one (flash_of replaced_one start).content) where
  abbrev content : List ℕ
  content = (flash_of (beside replaced_one) start).content

  same_clash : (other : Section) → AreLoaded t r other start.internal.content start.external.content → ⊥
  same_clash other loaded =
      let same : section ≡ other =
      one_section t r section other (beside replaced_one) content tables is.standing.section_fits loaded.section_fits is.standing.frame (loaded_on t r other start (beside replaced_one) loaded) in
      none (subst (λ (x : Section). HasFrameOf t r x replaced_one (flash_of replaced_one start).content) (sym same) (loaded_on t r other start replaced_one loaded))

  clash : (files : Files) (names : Vota) → GivesNoCollision t r files names → (u : TablesData) (q : RollData) (es : List Event) (other : Section) → IsGiven (Some files) names u q es
      → AreLoaded u q other start.internal.content start.external.content → ⊥
  clash files names gives u q es other given loaded =
      let hashes = same_hashes t u r q section other tables roll given.tables.valid (roll_is given.roll.bytes q given.roll.read) (beside replaced_one) content is.standing.frame
      (loaded_on u q other start (beside replaced_one) loaded) in
      let same = gives u q es given hashes.0 hashes.1 in
      same_clash other (subst (λ (x : TablesData). AreLoaded x r other start.internal.content start.external.content) same.0
      (subst (λ (x : RollData). AreLoaded u x other start.internal.content start.external.content) same.1 loaded))

  module _ (files : Files) (c d : CabinetTold) (m n : Told) (told : c.files ≡ Some files) (flashes : m.flashes ≡ Some start) where
    here : (names : Vota) (u : TablesData) (q : RollData) (es : List Event) → IsGiven c.files names u q es → IsGiven (Some files) names u q es
    here names u q es given = subst (λ (o : Option Files). IsGiven o names u q es) told given

    -- vota, whatever it was given
    pub vota_kept_out : (names : Vota) → GivesNoCollision t r files names → (answer : Status) → VotaEnds names c d m n answer → Runs IsFrontOfSyncs m n
    vota_kept_out names gives =
        unloaded_front names c d m n start flashes (λ u q es other given. clash files names gives u q es other (here names u q es given))

    -- a document was refused, or a flash isn't of this load
    pub vota_answer : (names : Vota) → GivesNoCollision t r files names → (answer : Status) → VotaEnds names c d m n answer → IsRefused (Some files) names answer ⊎ EndsForeign answer
    vota_answer names gives answer ends = elim (unloaded_answer names c d m n start flashes (λ u q es other given. clash files names gives u q es other (here names u q es given)) answer ends) [
      | inl why ↦ inl (subst (λ (o : Option Files). IsRefused o names answer) told why)
      | inr is ↦ inr is
    ]

    vota_foreign : (names : Vota) (es : List Event) → IsGiven (Some files) names t r es → (answer : Status) → VotaEnds names c d m n answer → EndsForeign answer
    vota_foreign names es given answer ends = elim (vota_answer names same_given answer ends) [
      | inl why ↦ absurd (refused_or_given files names answer t r es why given)
      | inr is ↦ is
    ]
      where
        same_given : GivesNoCollision t r files names
        same_given u q fs also tables_same roll_same = let one = given_once files names u t q r fs es also given in (one.0, one.1)

    not_peeked : (names : Emite) (u : TablesData) (q : RollData) (other : Section) (v : State) (b : Told) → HasDocuments (Some files) names.tables names.roll t r
        → HasDocuments c.files names.tables names.roll u q → HasPeeked u q other v m b → ⊥
    not_peeked names u q other v b given also peeked =
        let one = documents_once files names.tables names.roll u t q r (subst (λ (o : Option Files). HasDocuments o names.tables names.roll u q) told also) given in
        let loaded = (peeked.found start flashes).loaded in
        same_clash other (subst (λ (x : TablesData). AreLoaded x r other start.internal.content start.external.content) one.0
        (subst (λ (x : RollData). AreLoaded u x other start.internal.content start.external.content) one.1 loaded))

    peek_foreign : (names : Emite) (u : TablesData) (q : RollData) → HasDocuments (Some files) names.tables names.roll t r → HasDocuments c.files names.tables names.roll u q
        → (e : StoreError) → FailsToPeek u q m n e → EndsForeign (store_status e)
    peek_foreign names u q given also store.Memory h = inr (inl refl)
    peek_foreign names u q given also (store.Flash e) h = inr (inr (inr (e, refl)))
    peek_foreign names u q given also (store.Foreign e) h = inl (e, refl)
    peek_foreign names u q given also store.NoImage h =
        let one = documents_once files names.tables names.roll u t q r (subst (λ (o : Option Files). HasDocuments o names.tables names.roll u q) told also) given in
        let loaded = (h.1.2 start flashes).0 in
        absurd (same_clash h.1.0 (subst (λ (x : TablesData). AreLoaded x r h.1.0 start.internal.content start.external.content) one.0
        (subst (λ (x : RollData). AreLoaded u x h.1.0 start.internal.content start.external.content) one.1 loaded)))

    pub emite_foreign : (names : Emite) → HasDocuments (Some files) names.tables names.roll t r → (answer : Status) → EmiteEnds names c d m n answer → EndsForeign answer
    emite_foreign names given answer (emit_refused why taken un) =
        absurd (refused_or_documents files names.tables names.roll answer t r (subst (λ (o : Option Files). IsFirstFault o names.tables doc.Roll names.roll answer) told why) given)
    emite_foreign names given _ (emit_no_memory taken un) = inr (inl refl)
    emite_foreign names given _ (emit_no_cabinet taken un) = inr (inr (inl refl))
    emite_foreign names given _ (not_found {t = u} {r = q} e also taken h) = peek_foreign names u q given also e h
    emite_foreign names given _ (not_sealed {t = u} {r = q} {section = other} {s = v} also taken h not) = absurd (not_peeked names u q other v n given also h)
    emite_foreign names given _ (no_files {t = u} {r = q} {section = other} {s = v} also taken h sealed) = absurd (not_peeked names u q other v n given also h)
    emite_foreign names given _ (files_stopped {t = u} {r = q} {section = other} {s = v} taken also has h sealed put) = absurd (not_peeked names u q other v n given also h)
    emite_foreign names given _ (not_emitted {t = u} {r = q} {section = other} {s = v} taken between also has h sealed put off) = absurd (not_peeked names u q other v between given also h)
    emite_foreign names given _ (emitted {t = u} {r = q} {section = other} {s = v} taken between also has h sealed put shown) = absurd (not_peeked names u q other v between given also h)

pub replaced_is_foreign : ReplacedIsForeign
replaced_is_foreign t r section s replaced_one start tables roll is none files c d m n answer told flashes = (
  λ names gives ends. vota_kept_out t r section s replaced_one start tables roll is none files c d m n told flashes names gives answer ends,
  λ names es given ends. vota_foreign t r section s replaced_one start tables roll is none files c d m n told flashes names es given answer ends,
  λ names given ends. emite_foreign t r section s replaced_one start tables roll is none files c d m n told flashes names given answer ends,
)

-- ---- what repoe does

-- It did a replacement, behind the two syncs, and then nothing but shows.
pub record DoesReplace (names : Repoe) (c : CabinetTold) (m n : Told) : Type 0 where
  pub t : TablesData
  pub r : RollData
  pub section : Section
  pub state : State
  pub given : HasDocuments c.files names.tables names.roll t r
  pub rest : List Op
  pub more : List Op
  pub does : Does (both_synced ++ (rest ++ more)) m n
  pub replaces : Replaces t r section state names.replaced m rest
  pub idle : AreIdle more

abbrev pub DoesRepoe : Repoe → CabinetTold → Told → Told → Type 0
DoesRepoe names c m n = Idles m n ⊎ DoesReplace names c m n

-- what comes behind it shows
pub repoe_then : (names : Repoe) (c : CabinetTold) (m b n : Told) → DoesRepoe names c m b → Idles b n → DoesRepoe names c m n
repoe_then names c m b n (inl before) idles = inl (idles-append m b n before idles)
repoe_then names c m b n (inr it) (tail, then, idle) =
    inr (record {
      t = it.t;
      r = it.r;
      section = it.section;
      state = it.state;
      given = it.given;
      rest = it.rest;
      more = it.more ++ tail;
      does = subst (λ (l : List Op). Does (both_synced ++ l) m n) (append_assoc it.rest it.more tail) (does-append (both_synced ++ (it.rest ++ it.more)) tail m b n it.does then);
      replaces = it.replaces;
      idle = idle-append it.more tail it.idle idle;
    })

module _ (names : Repoe) (c d : CabinetTold) (m : Told) where
  ran_so : (t : TablesData) (r : RollData) (section : Section) (s : State) (b : Told) → HasDocuments c.files names.tables names.roll t r
      → Runs (λ ops. (rest : List Op) × (ops ≡ both_synced ++ rest) × Replaces t r section s names.replaced m rest) m b → DoesReplace names c m b
  ran_so t r section s b given (ops, does, (rest, is, replaces)) =
      record {
        t = t;
        r = r;
        section = section;
        state = s;
        given = given;
        rest = rest;
        more = [];
        does = subst (λ (l : List Op). Does l m b) (is ∙ ap (λ (l : List Op). both_synced ++ l) (sym (append-nil rest))) does;
        replaces = replaces;
        idle = tt;
      }

  flash_so : (t : TablesData) (r : RollData) (n : Told) → HasDocuments c.files names.tables names.roll t r
      → Runs (FromSyncs (λ ops. (ops ≡ []) ⊎ ((section : Section) × (s : State) × IsSectionOf t r section × Replaces t r section s names.replaced m ops))) m n → DoesRepoe names c m n
  flash_so t r n given (ops, does, inl within) = inl (front_idles m n (ops, does, inl within))
  flash_so t r n given (ops, does, inr (rest, is, inl none)) = inl (front_idles m n (ops, does, inr (is ∙ ap (λ (l : List Op). both_synced ++ l) none)))
  flash_so t r n given (ops, does, inr (rest, is, inr (section, s, fits, replaces))) = inr (ran_so t r section s n given (ops, does, (rest, is, replaces)))

  fails_so : (t : TablesData) (r : RollData) (n : Told) (e : ReplaceError) → HasDocuments c.files names.tables names.roll t r → FailsToReplace t r names.replaced m n e → DoesRepoe names c m n
  fails_so t r n replace.Memory given h = inl (untouched_idles m n h)
  fails_so t r n (replace.Flash e) given h = flash_so t r n given h.1
  fails_so t r n (replace.Foreign e) given h = inl (synced_idles m n h.1)
  fails_so t r n (replace.NoStanding e) given h = inl (synced_idles m n h.1)
  fails_so t r n (replace.Busy e) given h = inl (synced_idles m n h.1)

  pub repoe_does : (n : Told) (answer : Status) → RepoeEnds names c d m n answer → DoesRepoe names c m n
  repoe_does n _ (replace_refused why taken un) = inl (untouched_idles m n un)
  repoe_does n _ (replace_no_memory taken un) = inl (untouched_idles m n un)
  repoe_does n _ (replace_no_cabinet taken un) = inl (untouched_idles m n un)
  repoe_does n _ (not_replaced {t} {r} e given taken h) = fails_so t r n e given h
  repoe_does n _ (replaced_untold {t} {r} {section} {s} between given taken h off) =
      repoe_then names c m between n (inr (ran_so t r section s between given h.ran)) (cut_idles (replaced_line names.replaced section s ∷ []) between n off)
  repoe_does n _ (replaced {t} {r} {section} {s} between given taken h shown) =
      repoe_then names c m between n (inr (ran_so t r section s between given h.ran)) (shown_idles (replaced_line names.replaced section s ∷ []) between n shown)

-- ---- over flashes that have a poll it keeps that poll

-- what a power cut leaves while a device is loaded is the poll again
left_again : (t : TablesData) (r : RollData) (section : Section) (s : State) (d : Dev) (left : Left) → IsStanding t r section s (beside d) (left_on (beside d) left)
    → ¬ IsInUse (left_on d left) → IsReplaced t r section s d (clean_flashes left.internal left.external)
left_again t r section s dev.Internal left standing unused = record { standing = standing; unused = unused }
left_again t r section s dev.External left standing unused = record { standing = standing; unused = unused }

pub leaves_poll : (t : TablesData) (r : RollData) (section : Section) (s : State) (d : Dev) (left : Left) → LeavesStanding t r section s d left
    → HavePoll t r section s (clean_flashes left.internal left.external)
leaves_poll t r section s d left leaves = elim leaves.other [
  | inl unused ↦ by_one d (left_again t r section s d left leaves.standing unused)
  | inr found ↦ by_both found
]

module _ (t : TablesData) (r : RollData) (section : Section) (s : State) (start : Flashes) (tables : IsTables t) (roll : IsRoll r)
    (names : Repoe) (files : Files) (c : CabinetTold) (told : c.files ≡ Some files) (gives : AreNoCollision t r files names)
    (m n : Told) (flashes : m.flashes ≡ Some start) (it : DoesReplace names c m n) where
  abbrev standing : Dev
  standing = beside names.replaced

  abbrev own : List ℕ
  own = (flash_of standing start).content

  there : IsReplaced it.t it.r it.section it.state names.replaced start
  there = (it.replaces.stops start flashes).0

  -- the flash that stands has the frame of this load, so the documents are these
  documents : HasFrameOf t r section standing own → (it.t ≡ t) × (it.r ≡ r)
  documents frame =
      let given : HasDocuments (Some files) names.tables names.roll it.t it.r = subst (λ (o : Option Files). HasDocuments o names.tables names.roll it.t it.r) told it.given in
      let hashes = same_hashes t it.t r it.r section it.section tables roll given.tables.valid (roll_is given.roll.bytes it.r given.roll.read) standing own frame there.standing.frame in
      gives it.t it.r given hashes.0 hashes.1

  there_of : HasFrameOf t r section standing own → IsReplaced t r it.section it.state names.replaced start
  there_of frame =
      let same = documents frame in
      subst (λ (x : TablesData). IsReplaced x r it.section it.state names.replaced start) same.0
      (subst (λ (x : RollData). IsReplaced it.t x it.section it.state names.replaced start) same.1 there)

  abbrev Stops : TablesData → RollData → Section → State → Type 0
  Stops x y z v = AtEachStop (after both_synced start) it.rest (LeavesStanding x y z v names.replaced)

  these_stops : HasFrameOf t r section standing own → it.section ≡ section → it.state ≡ s → Stops t r section s
  these_stops frame sections states =
      let same = documents frame in
      subst (λ (x : TablesData). Stops x r section s) same.0
      (subst (λ (x : RollData). Stops it.t x section s) same.1
      (subst (λ (x : Section). Stops it.t it.r x s) sections
      (subst (λ (x : State). Stops it.t it.r it.section x) states (it.replaces.stops start flashes).1)))

  -- at each stop what is left has the poll; or it was told to replace the flash that stands beside a replaced one, in a poll that is still ready
  abbrev Keeps : Type 0
  Keeps = Stops t r section s ⊎ (IsReplaced t r section s standing start × (¬ HasFrameOf t r section standing own) × (s.phase ≡ phase.Ready))

  -- so it is where the standing flash stands for it
  pub standing_stops : IsStanding t r section s standing own → Stops t r section s
  standing_stops is =
      let once = stands_once t r section it.section s it.state standing own tables is (there_of is.frame).standing in
      these_stops is.frame (sym once.0) (sym once.1)

  both_keeps : AreFound t r section s start → Keeps
  both_keeps found =
      let frame = loaded_on t r section start standing found.loaded in
      let here = there_of frame in
      let sections : section ≡ it.section = one_section t r section it.section standing own tables found.loaded.section_fits here.standing.section_fits frame here.standing.frame in
      let mine : IsReplaced t r section it.state names.replaced start = subst (λ (x : Section). IsReplaced t r x it.state names.replaced start) (sym sections) here in
      inl (these_stops frame (sym sections) (poll_once t r section s it.state start tables found (by_one names.replaced mine)))

  one_keeps : (d : Dev) → IsReplaced t r section s d start → (¬ HasFrameOf t r section d (flash_of d start).content) → (d ≡ names.replaced) ⊎ (d ≡ standing) → Keeps
  one_keeps d is no_frame (inl same) =
      let mine : IsReplaced t r section s names.replaced start = subst (λ (x : Dev). IsReplaced t r section s x start) same is in
      inl (standing_stops mine.standing)
  one_keeps d is no_frame (inr other) =
      let mine : IsReplaced t r section s standing start = subst (λ (x : Dev). IsReplaced t r section s x start) other is in
      let back = twice_beside names.replaced in
      let its : IsStanding t r section s names.replaced (flash_of names.replaced start).content =
      subst (λ (x : Dev). IsStanding t r section s x (flash_of x start).content) back mine.standing in
      inr (mine, subst (λ (x : Dev). ¬ HasFrameOf t r section x (flash_of x start).content) other no_frame, still_ready s.phase refl its)
    where
      still_ready : (p : Phase) → s.phase ≡ p → IsStanding t r section s names.replaced (flash_of names.replaced start).content → s.phase ≡ phase.Ready
      still_ready phase.Ready same its = same
      still_ready (phase.Polling at) same its =
          absurd (there.unused (standing_is_in_use t r section s names.replaced (flash_of names.replaced start).content its (λ ready. absurd (let clash : phase.Polling at ≡ phase.Ready = sym same ∙ ready in cc))))
      still_ready (phase.Sealed at closed) same its =
          absurd (there.unused (standing_is_in_use t r section s names.replaced (flash_of names.replaced start).content its (λ ready. absurd (let clash : phase.Sealed at closed ≡ phase.Ready = sym same ∙ ready in cc))))

  pub keeps : HavePoll t r section s start → Keeps
  keeps poll = elim (poll_cases t r section s start tables poll) [
    | inl found ↦ both_keeps found
    | inr (d, is, no_frame) ↦ one_keeps d is no_frame (one_or_beside d names.replaced)
  ]

-- ---- over a replaced flash it ends well

module _ (t : TablesData) (r : RollData) (section : Section) (s : State) (start : Flashes) (names : Repoe) (tables : IsTables t) (is : IsReplaced t r section s names.replaced start)
    (files : Files) (c d : CabinetTold) (m n : Told) (told : c.files ≡ Some files) (flashes : m.flashes ≡ Some start) (given : HasDocuments (Some files) names.tables names.roll t r) where
  abbrev Loads : Status → Type 0
  Loads answer =
      (((answer ≡ status.Done) ⊎ (answer ≡ status.Display)) × RestWith t r section s n)
      ⊎ (answer ≡ status.Memory) ⊎ (answer ≡ status.Cabinet) ⊎ ((e : Dev) × (answer ≡ port_status (port_of e)))

  same_documents : (u : TablesData) (q : RollData) → HasDocuments c.files names.tables names.roll u q → (u ≡ t) × (q ≡ r)
  same_documents u q also = documents_once files names.tables names.roll u t q r (subst (λ (o : Option Files). HasDocuments o names.tables names.roll u q) told also) given

  fails_here : (u : TablesData) (q : RollData) → HasDocuments c.files names.tables names.roll u q → (e : ReplaceError) → FailsToReplace u q names.replaced m n e → FailsToReplace t r names.replaced m n e
  fails_here u q also e h =
      let same = same_documents u q also in
      subst (λ (x : TablesData). FailsToReplace x r names.replaced m n e) same.0 (subst (λ (x : RollData). FailsToReplace u x names.replaced m n e) same.1 h)

  not_loaded : (e : ReplaceError) → FailsToReplace t r names.replaced m n e → Loads (replace_status e)
  not_loaded replace.Memory h = inr (inl refl)
  not_loaded (replace.Flash e) h = inr (inr (inr (e, refl)))
  not_loaded (replace.Foreign e) h =
      let none = subst (λ (x : Dev). HasNoFrame t r x (flash_of x start).content) h.0 (h.2 start flashes) in absurd (none section is.standing.section_fits is.standing.frame)
  not_loaded (replace.NoStanding e) h =
      let bare = subst (λ (x : Dev). IsBare t r h.2.0 x (flash_of x start).content) h.0 (h.2.2 start flashes) in
      absurd (((one_cause t r section h.2.0 s (beside names.replaced) (flash_of (beside names.replaced) start).content).0 is.standing).1 bare)
  not_loaded (replace.Busy e) h =
      let busy = subst (λ (x : Dev). IsInUse (flash_of x start).content) h.0 (h.2.2 start flashes).busy in absurd (is.unused busy)

  loaded_so : (u : TablesData) (q : RollData) (other : Section) (v : State) (b : Told) → HasDocuments c.files names.tables names.roll u q → HasReplaced u q other v names.replaced m b
      → n.flashes ≡ b.flashes → RestWith t r section s n
  loaded_so u q other v b also h shown =
      let same = same_documents u q also in
      let replaces = h.ran.2.2 in
      let there = (replaces.stops start flashes).0 in
      let mine : IsReplaced t r other v names.replaced start =
      subst (λ (x : TablesData). IsReplaced x r other v names.replaced start) same.0 (subst (λ (x : RollData). IsReplaced u x other v names.replaced start) same.1 there) in
      let once = stands_once t r section other s v (beside names.replaced) (flash_of (beside names.replaced) start).content tables is.standing mine.standing in
      let now : b.flashes ≡ Some (after h.ran.0 start) = told_after h.ran.0 m b start h.ran.1 flashes in
      let rest = h.rest (after h.ran.0 start) now in
      let rest_here : AreAtRest t (load_of t r other) v (after h.ran.0 start) =
      subst (λ (x : TablesData). AreAtRest x (load_of x r other) v (after h.ran.0 start)) same.0 (subst (λ (x : RollData). AreAtRest u (load_of u x other) v (after h.ran.0 start)) same.1 rest) in
      record {
        now = after h.ran.0 start;
        told = shown ∙ now;
        rest = subst (λ (x : Section). AreAtRest t (load_of t r x) s (after h.ran.0 start)) (sym once.0) (subst (λ (x : State). AreAtRest t (load_of t r other) x (after h.ran.0 start)) (sym once.1) rest_here);
      }

  pub replaced_ends : (answer : Status) → RepoeEnds names c d m n answer → Loads answer
  replaced_ends answer (replace_refused why taken un) =
      absurd (refused_or_documents files names.tables names.roll answer t r (subst (λ (o : Option Files). IsFirstFault o names.tables doc.Roll names.roll answer) told why) given)
  replaced_ends _ (replace_no_memory taken un) = inr (inl refl)
  replaced_ends _ (replace_no_cabinet taken un) = inr (inr (inl refl))
  replaced_ends _ (not_replaced {t = u} {r = q} e also taken h) = not_loaded e (fails_here u q also e h)
  replaced_ends _ (replaced_untold {t = u} {r = q} {section = other} {s = v} between also taken h off) =
      inl (inr refl, loaded_so u q other v between also h (shows_keep off.ops between n (cut_front (replaced_line names.replaced other v ∷ []) off.ops off.cut).shows off.does))
  replaced_ends _ (replaced {t = u} {r = q} {section = other} {s = v} between also taken h shown) =
      inl (
        inl refl,
        loaded_so u q other v between also h
            (shows_keep (shows (replaced_line names.replaced other v ∷ [])) between n (shows_lines (replaced_line names.replaced other v ∷ [])).shows shown.does),
      )

pub replaced_is_loaded : ReplacedIsLoaded
replaced_is_loaded t r section s start names tables is files c d m n answer told flashes given ends =
    replaced_ends t r section s start names tables is files c d m n told flashes given answer ends

-- ---- at rest each flash stands

module _ (t : TablesData) (r : RollData) (section : Section) (s : State) (flashes : Flashes) (d : Dev) (tables : IsTables t) (roll : IsRoll r) (fits : IsSectionOf t r section)
    (of : IsStateOf t (length r.titles) s) (rest : AreAtRest t (load_of t r section) s flashes) where
  abbrev contents : Left
  contents = record { internal = flashes.internal.content; external = flashes.external.content; shown = [] }

  both_hold : HoldEither (poll t section.voters) s s contents
  both_hold =
      (stored t r (load_of t r section) s (record { tables = tables; roll = roll; section = fits; same = refl }) (subst (λ (n : ℕ). IsStateOf t n s) (sym fits.voters) of)).holds
      flashes contents rest (content_image flashes.internal) (content_image flashes.external)

  alone_held : (e : Dev) → HeldAlone t section.voters (flash_of e flashes).content s
  alone_held dev.Internal = elim both_hold.internal [ inl is ↦ is | inr is ↦ is ]
  alone_held dev.External = elim both_hold.external [ inl is ↦ is | inr is ↦ is ]

  pub stands_at_rest : IsStanding t r section s d (flash_of d flashes).content
  stands_at_rest =
      record {
        section_fits = fits;
        frame = loaded_on t r section flashes d (rest_found t r section s flashes tables roll fits of rest).loaded;
        held = subst (λ (n : ℕ). HeldAlone t n (flash_of d flashes).content s) fits.voters (alone_held d);
      }

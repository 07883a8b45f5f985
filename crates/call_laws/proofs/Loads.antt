-- What carga leaves is a poll before it begins
use Rattle.urna_outside.proofs.Traced.{traced_is}
use Rattle.urna_outside.proofs.Doing.{told_after}
use Rattle.urna_outside.proofs.Stops.{stop-append, stop_whole, stops_none}
use Rattle.std.specs.Option.{option_map}
use Rattle.command_parts.proofs.Idle.{idle_left, idle_stop, idle_trail, told_idles}
use Rattle.urna_commands.specs.FaultLines.{fault_text}
use Rattle.urna_outside.specs.Started.{clean_flashes}
use Rattle.flash_store.proofs.Resting.{at_end, clean_image}
use Rattle.image_codec.specs.State.{State}
use Rattle.urna_outside.specs.Traced.{IsTraced}
use Rattle.state_store.specs.Rest.{IsInUse}
use Rattle.call_laws.proofs.NeverBusy.{DoesLoad, carga_does, load_leaves_free, then_idles}
use Rattle.urna_outside.specs.declared.device.Dev.{Dev}
use Rattle.urna_outside.specs.Stop.{AtEachStop, IsLeft, IsStop, Left, left_on}
use Rattle.state_store.specs.Laws.{AreWhole}
use Rattle.command_parts.specs.Idle.{AreIdle}
use Rattle.command_parts.specs.Steps.{IsNext, cut, cut_behind, ended}
use Rattle.flash_store.specs.Syncs.{both_synced}
use Rattle.state_store.specs.Rest.{AreFree}
use Rattle.state_store.specs.Calls.{Loads}
use Rattle.std.proofs.Common.{◌≡◌, ℕ, List, [], ◌∷◌, Option, Some, length, refl, sym, ap, subst, ◌∙◌, None, inl, inr, ◌++◌, ◌⊎◌}
use Rattle.urna_outside.specs.Cabinet.{CabinetTold, Files}
use Rattle.urna_outside.specs.Flash.{Flashes, IsClean, Op, flash_of, shown_by, after, clean_flash}
use Rattle.urna_outside.specs.ShownLines.{shows}
use Rattle.urna_outside.specs.Told.{Told, Does, Runs}
use Rattle.urna_outside.specs.declared.device.Dev.TheVariants as dev
use Rattle.urna_outside.proofs.Showing.{shows_keep}
use Rattle.urna_outside.proofs.ShowingLines.{shows_lines}
use Rattle.election_tables.specs.Roll.{IsRoll, RollData}
use Rattle.election_tables.specs.TablesData.{TablesData}
use Rattle.election_tables.specs.declared.tables.sections.Section.{Section}
use Rattle.election_tables.proofs.Determined.{roll_is}
use Rattle.image_codec.specs.Valid.{ready_state}
use Rattle.image_codec.proofs.OfTables.{of_tables-ready_state}
use Rattle.state_store.specs.declared.store.LoadError.{LoadError}
use Rattle.state_store.specs.declared.store.LoadError.TheVariants as load
use Rattle.state_store.proofs.Loaded.{rest_found, rest_whole}
use Rattle.urna_commands.specs.Carga.{CargaEnds, HasLoaded, IsSectionAsked, load_no_cabinet, load_no_memory, load_refused, loaded, loaded_line, no_section, not_loaded, not_told}
use Rattle.command_parts.specs.Documents.{HasDocuments}
use Rattle.urna_commands.specs.Documents.{IsFirstFault}
use Rattle.urna_commands.specs.Command.{Carga, ToLoad, command_of}
use Rattle.urna_commands.specs.Ending.{CommandEnds, Ends}
use Rattle.urna_commands.specs.Errors.{load_status}
use Rattle.call_laws.specs.Again.{AreReady, LoadMakesReady, Call, IsCall, LoadMayFollow, StayFree}
use Rattle.command_parts.specs.declared.error.Doc.TheVariants as doc
use Rattle.urna_commands.specs.declared.status.Status.{Status}
use Rattle.urna_commands.specs.declared.status.Status.TheVariants as status
use Rattle.command_parts.proofs.Steps.{clean_is_clean}
use Rattle.urna_commands.proofs.Once.{refused_or_documents}
use Rattle.call_laws.proofs.Others.{documents_once}
use Rattle.urna_commands.proofs.Endings.{ends_as}

error_not_done : (e : LoadError) → load_status e ≡ status.Done → ⊥
error_not_done load.Memory is = absurd (cc)
error_not_done (load.Flash dev.Internal) is = absurd (cc)
error_not_done (load.Flash dev.External) is = absurd (cc)
error_not_done (load.Busy d) is = absurd (cc)

-- behind a load neither flash is in use, as at each of its stops
loads_free : (m b : Told) (start : Flashes) → Runs (λ ops. (rest : List Op) × (ops ≡ both_synced ++ rest) × Loads m rest) m b → b.flashes ≡ Some start → AreFree start
loads_free m b start (ops, does, (rest, is, loads)) told = go m.flashes refl
  where
    free_on : (rest : List Op) (first : Flashes) (d : Dev)
        → ((e : Dev) → ¬ IsInUse (left_on e (record { internal = (after rest (after both_synced first)).internal.content; external = (after rest (after both_synced first)).external.content; shown = shown_by rest })))
        → ¬ IsInUse (flash_of d (after rest (after both_synced first))).content
    free_on rest first dev.Internal free = free dev.Internal
    free_on rest first dev.External free = free dev.External

    go : (o : Option Flashes) → m.flashes ≡ o → AreFree start
    go None none = absurd (let both : Some start ≡ None = sym told ∙ does.flashes ∙ ap (λ (x : Option Flashes). option_map (after ops) x) none in cc)
    go (Some first) some =
        let both : Some start ≡ Some (after ops first) = sym told ∙ does.flashes ∙ ap (λ (x : Option Flashes). option_map (after ops) x) some in
        let same : start ≡ after ops first = cc in
        let free = at_end (after both_synced first) rest (λ left. (d : Dev) → ¬ IsInUse (left_on d left)) (loads.stops first some) in
        let last : after rest (after both_synced first) ≡ start = sym (same ∙ ap (λ (l : List Op). after l first) is) in
        subst AreFree last (λ d. free_on rest first d free)

module _ (files : Files) (names : Carga) (c d : CabinetTold) (told : c.files ≡ Some files) (t : TablesData) (r : RollData) (given : HasDocuments (Some files) names.tables names.roll t r) (m b : Told)
    (start : Flashes) (flashes : b.flashes ≡ Some start) where
  abbrev Begins : Type 0
  Begins = (section : Section) × IsSectionAsked names t r section × AreReady t r section (ready_state t (length r.titles)) start × AreFree start

  begins : (section : Section) (between : Told) → IsSectionAsked names t r section → HasLoaded t r section m between → between.flashes ≡ Some start → Begins
  begins section between asked done there =
      let rest = done.rest start there in
      let roll : IsRoll r = roll_is given.roll.bytes r given.roll.read in
      let of = of_tables-ready_state t (length r.titles) in (
        section,
        asked,
        record {
          tables = given.tables.valid;
          roll = roll;
          whole = rest_whole t r section (ready_state t (length r.titles)) start given.tables.valid roll asked.fits of rest;
          clean = rest.clean;
          found = rest_found t r section (ready_state t (length r.titles)) start given.tables.valid roll asked.fits of rest;
        },
        loads_free m between start done.ran there,
      )

  carga_begins : (answer : Status) → answer ≡ status.Done → CargaEnds names c d m b answer → Begins
  carga_begins answer ok (load_refused bad taken un) =
      absurd (refused_or_documents files names.tables names.roll answer t r (subst (λ (o : Option Files). IsFirstFault o names.tables doc.Roll names.roll answer) told bad) given)
  carga_begins _ ok (load_no_memory taken un) = absurd (cc)
  carga_begins _ ok (load_no_cabinet taken un) = absurd (cc)
  carga_begins _ ok (no_section also none taken un) = absurd (cc)
  carga_begins _ ok (not_loaded e also asked taken h) = absurd (error_not_done e ok)
  carga_begins _ ok (not_told between also asked taken h off) = absurd (cc)
  carga_begins _ ok (loaded {t = u} {r = q} {section} between also asked taken h shown) =
      let one = documents_once files names.tables names.roll u t q r (subst (λ (o : Option Files). HasDocuments o names.tables names.roll u q) told also) given in
      let there : between.flashes ≡ Some start =
      sym (shows_keep (shows (loaded_line section ∷ [])) between b (shows_lines (loaded_line section ∷ [])).shows shown.does) ∙ flashes in
      let asked_here = subst (λ (x : TablesData). IsSectionAsked names x r section) one.0 (subst (λ (x : RollData). IsSectionAsked names u x section) one.1 asked) in
      let done_here = subst (λ (x : TablesData). HasLoaded x r section m between) one.0 (subst (λ (x : RollData). HasLoaded u x section m between) one.1 h) in
      begins section between asked_here done_here there

  pub command_begins : (words : List (List ℕ)) → command_of words ≡ Some (ToLoad names) → CommandEnds (command_of words) c d m b status.Done → Begins
  command_begins words is h = carga_begins status.Done refl (ends_as words (ToLoad names) c d m b status.Done is h)

pub load_makes_ready : LoadMakesReady
load_makes_ready words c d m n ends names files t r is told given start flashes =
    command_begins files names c d told t r given m ends.between start (ap (λ (x : Told). x.flashes) (sym ends.told) ∙ flashes) words is ends.command

-- ---- a load over another

-- flashes of which nothing is dirty have one image
clean_left : (start : Flashes) (text : List ℕ) (left : Left) → ((d : Dev) → IsClean (flash_of d start)) → IsLeft start text left
    → (left.internal ≡ start.internal.content) × (left.external ≡ start.external.content)
clean_left start text left clean is = (clean_image start.internal left.internal (clean dev.Internal) is.internal, clean_image start.external left.external (clean dev.External) is.external)

-- so what is ready is ready behind a power cut
ready_left : (t : TablesData) (r : RollData) (section : Section) (s : State) (start : Flashes) (text : List ℕ) (left : Left) → AreReady t r section s start → IsLeft start text left
    → AreReady t r section s (clean_flashes left.internal left.external)
ready_left t r section s start text left ready is =
    let (i, e) = clean_left start text left ready.clean is in
    subst (λ (x : List ℕ). AreReady t r section s (clean_flashes x left.external)) (sym i)
    (subst (λ (y : List ℕ). AreReady t r section s (clean_flashes start.internal.content y)) (sym e)
    (record {
      tables = ready.tables;
      roll = ready.roll;
      whole = whole;
      clean = clean;
      found = record { loaded = ready.found.loaded; held = ready.found.held };
    }))
  where
    whole : AreWhole (clean_flashes start.internal.content start.external.content)
    whole dev.Internal = ready.whole dev.Internal
    whole dev.External = ready.whole dev.External

    clean : (d : Dev) → IsClean (flash_of d (clean_flashes start.internal.content start.external.content))
    clean dev.Internal = clean_is_clean start.internal.content
    clean dev.External = clean_is_clean start.external.content

-- neither flash is in use, as these images have them
abbrev FreeAt : Left → Type 0
FreeAt left = AreFree (clean_flashes left.internal left.external)

free_content : (flashes : Flashes) (text : List ℕ) → FreeAt (record { internal = flashes.internal.content; external = flashes.external.content; shown = text }) → AreFree flashes
free_content flashes text at dev.Internal = at dev.Internal
free_content flashes text at dev.External = at dev.External

-- what a power cut leaves of what one left
clean_free : (left again : Left) → FreeAt left → IsLeft (clean_flashes left.internal left.external) [] again → FreeAt again
clean_free left again at is dev.Internal = subst (λ (y : List ℕ). ¬ IsInUse y) (sym (clean_image (clean_flash left.internal) again.internal (clean_is_clean left.internal) is.internal)) (at dev.Internal)
clean_free left again at is dev.External = subst (λ (y : List ℕ). ¬ IsInUse y) (sym (clean_image (clean_flash left.external) again.external (clean_is_clean left.external) is.external)) (at dev.External)

module _ (start next : Flashes) (x : Call) (names : Carga) (is : IsCall start x next) (command : command_of x.words ≡ Some (ToLoad names)) where
  ends : CargaEnds names is.cabinet is.cabinet_after is.machine is.ends.between is.answer
  ends = ends_as x.words (ToLoad names) is.cabinet is.cabinet_after is.machine is.ends.between is.answer command is.ends.command

  ran : DoesLoad is.machine is.machine_after
  ran =
      then_idles is.machine is.ends.between is.machine_after (carga_does names is.cabinet is.cabinet_after is.machine is.ends.between is.answer ends)
      (told_idles (fault_text is.answer) is.ends.between is.machine_after is.ends.told)

  flashes_after : is.machine_after.flashes ≡ Some (after is.ops start)
  flashes_after = elim ran [ inl idles ↦ after_these idles.0 idles.1 | inr run ↦ after_these run.0 run.1 ]
    where
      after_these : (done : List Op) → Does done is.machine is.machine_after → is.machine_after.flashes ≡ Some (after is.ops start)
      after_these done does =
          subst (λ (l : List Op). is.machine_after.flashes ≡ Some (after l start)) (traced_is is.machine is.machine_after start is.ops done is.traced does)
          (told_after done is.machine is.machine_after start does is.traced.flashes)

  -- what was done is idle, or has both syncs first
  does : AreIdle is.ops ⊎ ((rest : List Op) × (is.ops ≡ both_synced ++ rest))
  does = elim ran [
    | inl idles ↦ inl (idle_trail is.machine is.machine_after start is.ops is.traced idles)
    | inr run ↦ inr (run.2.0 ++ run.2.1, sym (traced_is is.machine is.machine_after start is.ops run.0 is.traced run.1) ∙ run.2.2)
  ]

  abbrev Anew : Flashes → Type 0
  Anew flashes = (t : TablesData) (r : RollData) → HasDocuments (Some x.files) names.tables names.roll t r
      → (section : Section) × IsSectionAsked names t r section × AreReady t r section (ready_state t (length r.titles)) flashes

  anew_at_end : is.answer ≡ status.Done → Anew (after is.ops start)
  anew_at_end done t r given =
      let made = load_makes_ready x.words is.cabinet is.cabinet_after is.machine is.machine_after
      (subst (Ends x.words is.cabinet is.cabinet_after is.machine is.machine_after) done is.ends) names x.files t r command is.told given (after is.ops start) flashes_after in
      (made.0, made.1, made.2)

  anew : (done : List Op) (over : Option Status) (after_it : Flashes) → IsNext start is.ops is.answer done over after_it → over ≡ Some status.Done → Anew after_it
  anew done _ _ ended well t r given = anew_at_end (let same : is.answer ≡ status.Done = cc in same) t r given
  anew done _ _ (cut_behind {left} at) well t r given =
      let (section, of, made) = anew_at_end (let same : is.answer ≡ status.Done = cc in same) t r given in
      (section, of, ready_left t r section (ready_state t (length r.titles)) (after is.ops start) (shown_by is.ops) left made at)
  anew done _ _ (cut stop at) well t r given = absurd (cc)

  module _ (free : StayFree start) where
    free_idle : (done : List Op) (left : Left) → AreIdle done → IsLeft (after done start) (shown_by done) left → FreeAt left
    free_idle done left idle at =
        let before = idle_left done start (shown_by done) left idle at in
        free (record { internal = left.internal; external = left.external; shown = [] }) (record { internal = before.internal; external = before.external; shown = refl })

    free_here : AreFree start
    free_here = free_content start [] (at_end start [] FreeAt (stops_none start FreeAt free))

    -- at each stop of the call neither is in use
    free_stops : AtEachStop start is.ops FreeAt
    free_stops done stop left at = elim does [
      | inl idle ↦ free_idle done left (idle_stop is.ops done idle stop) at
      | inr (rest, front) ↦ elim (stop-append both_synced rest done (subst (λ (l : List Op). IsStop l done) front stop)) [
        | inl before_them ↦ free_idle done left (idle_stop both_synced done (tt, (tt, tt)) before_them) at
        | inr (more, all, late) ↦
            let there : IsLeft (after more (after both_synced start)) (shown_by more) left =
            subst (λ (l : List Op). IsLeft (after l start) (shown_by l) left) all at in
            load_leaves_free x.words is.cabinet is.cabinet_after is.machine is.machine_after is.answer is.ends names command start rest
            (subst (λ (l : List Op). IsTraced is.machine is.machine_after start l) front is.traced) free_here more late left there
      ]
    ]

    free_goes : (done : List Op) (over : Option Status) (after_it : Flashes) → IsNext start is.ops is.answer done over after_it → StayFree after_it
    free_goes done _ _ ended left at =
        free_stops is.ops (stop_whole is.ops) (record { internal = left.internal; external = left.external; shown = shown_by is.ops })
        (record { internal = at.internal; external = at.external; shown = refl })
    free_goes done _ _ (cut_behind {left} at) again is_left = clean_free left again (free_stops is.ops (stop_whole is.ops) left at) is_left
    free_goes done _ _ (cut {left} stop at) again is_left = clean_free left again (free_stops done stop left at) is_left

pub load_may_follow : LoadMayFollow
load_may_follow start next x names is command =
    (λ free. free_goes start next x names is command free is.done x.status next is.goes_on, λ well. anew start next x names is command is.done x.status next is.goes_on well)

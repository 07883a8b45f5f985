-- Any calls and exchanges one after the other keep the votes of a poll
use Rattle.std.proofs.Common.{◌≡◌, ◌≢◌, ◌⊎◌, inl, inr, ℕ, ◌+◌, ◌<◌, List, [], ◌∷◌, ◌++◌, Option, Some, None, length, refl, sym, ap, subst, ◌∙◌, arith, append_assoc}
use Rattle.std.specs.Prelude.{codes}
use Rattle.std.specs.Str.{bytes_eq}
use Rattle.std.proofs.lemmas.Bool.{cases_Bool}
use Rattle.std.proofs.lemmas.List.{append-nil}
use Rattle.std.proofs.lemmas.Slice.Eq.{bytes_eq-Decides}
use Rattle.urna_outside.specs.Cabinet.{CabinetTold, Files}
use Rattle.urna_outside.specs.Flash.{Flash, Flashes, IsClean, IsImage, Op, Put, Show, Sync, after, flash_of, shown_by}
use Rattle.urna_outside.specs.ShownLines.{shows}
use Rattle.urna_outside.specs.Started.{clean_flashes}
use Rattle.urna_outside.specs.Stop.{AtEachStop, IsLeft, IsStop, Left, left_on}
use Rattle.urna_outside.specs.Told.{Does, Runs, Told, port_of}
use Rattle.urna_outside.specs.Traced.{IsTraced}
use Rattle.urna_outside.specs.declared.device.Dev.{Dev}
use Rattle.urna_outside.specs.declared.device.Dev.TheVariants as dev
use Rattle.urna_outside.proofs.Doing.{after-append, does-append, does_nothing, shown_by-append}
use Rattle.urna_outside.proofs.ShowingLines.{cut_front, shows_lines}
use Rattle.urna_outside.proofs.Stops.{stop-append, stop_whole, stops_none}
use Rattle.urna_outside.proofs.Traced.{traced_is}
use Rattle.election_tables.specs.Roll.{IsRoll, RollData}
use Rattle.election_tables.specs.TablesData.{IsTables, TablesData}
use Rattle.election_tables.specs.declared.tables.sections.Section.{Section}
use Rattle.key_script.specs.declared.keys.Event.{Event}
use Rattle.turnout.specs.declared.phase.Phase.{Phase}
use Rattle.turnout.specs.declared.phase.Phase.TheVariants as phase
use Rattle.vote_kinds.specs.Ballot.{ballot_lines}
use Rattle.image_codec.specs.Also.{HasAlso}
use Rattle.image_codec.specs.State.{State}
use Rattle.image_codec.proofs.Growing.{also_also, also_none}
use Rattle.twin_image.specs.Slots.{beside}
use Rattle.flash_store.specs.Syncs.{IsFrontOfSyncs, both_synced}
use Rattle.state_store.specs.Held.{KeepFrames, HasFrameOf}
use Rattle.state_store.specs.Calls.{AreFound}
use Rattle.state_store.specs.Laws.{AreWhole}
use Rattle.state_store.specs.Rest.{IsInUse, device_size}
use Rattle.flash_store.proofs.Resting.{at_end, clean_image, frames_same, frames_text, frames_then}
use Rattle.contingency.specs.Replaced.{IsReplaced, IsStanding, LeavesStanding}
use Rattle.station.specs.Setting.{setting_of}
use Rattle.station.proofs.Casting.{run_counts}
use Rattle.station.proofs.Performing.{tables_setting}
use Rattle.station.proofs.RunLaws.{run_exists}
use Rattle.call_laws.specs.Again.{AreDone, AreNoCollision, AreReady, Call, Called, EitherMayBeExchanged, ExchangeLeavesIt, Exchanged, HasKept, HavePoll, IsCall, IsExchange, IsSessionOf, LeadTo, LeadsTo, MayBeCalled, NextIsSafe, ReplaceNothing, RestStandsAlone, StandsAlone, Step, StepsKeepVotes, StillStandsAlone, TellsForeign, ballots_in, ballots_led, by_both, by_one, done_call, done_exchange, done_nothing, exchanges, foreign, leads, other, session, silent, stays}
use Rattle.urna_commands.specs.Command.{Carga, Command, Repoe, ToCertify, ToCheck, ToEmit, ToLoad, ToRecount, ToRehearse, ToReplace, ToTotal, ToVerify, ToVote, Vota, command_of}
use Rattle.command_parts.specs.FaultLines.{Tells, device_word, fault_line}
use Rattle.urna_commands.specs.FaultLines.{fault_text}
use Rattle.urna_commands.specs.Errors.{port_status}
use Rattle.call_laws.specs.Idle.{GivesOthers, IsIdleEnding}
use Rattle.call_laws.specs.Replaced.{EndsForeign}
use Rattle.urna_commands.specs.Vota.{IsGiven, IsRefused, VotaEnds, no_cabinet, no_memory, not_started, refused, session_held, cut as vota_cut}
use Rattle.urna_commands.specs.declared.status.Status.{Status}
use Rattle.call_laws.proofs.Completion.{port_silent}
use Rattle.urna_commands.proofs.Endings.{ends_as}
use Rattle.call_laws.proofs.Headline.{given_once, votes_are_kept}
use Rattle.command_parts.specs.Idle.{AreIdle}
use Rattle.command_parts.proofs.Idle.{Idles, front_idles, idle_images, idle_left, idle_stop, idle_trail, idles-append, told_idles, untouched_idles}
use Rattle.call_laws.proofs.Keeping.{found_roll}
use Rattle.command_parts.proofs.Steps.{IsOver, goes, none_or_some, stop_none}
use Rattle.call_laws.proofs.Leading.{left_so, session_leaves, found_left}
use Rattle.call_laws.proofs.Leaving.{idle_endings, load_is_kept_out, opened_is_in_use, standing_is_in_use}
use Rattle.urna_commands.proofs.Once.{refused_or_given}
use Rattle.call_laws.proofs.Opened.{led_has_ballots}
use Rattle.call_laws.proofs.Others.{others_are_kept_out}
use Rattle.call_laws.proofs.PutFiles.{differ}
use Rattle.call_laws.proofs.Replacing.{DoesReplace, keeps, leaves_poll, one_or_beside, poll_cases, poll_once, repoe_does, repoe_then, standing_stops, stands_at_rest, twice_beside, vota_answer, vota_kept_out}
use Rattle.image_codec.specs.Layout.{body_size}

-- ---- what was kept

-- what is left, of which the shown text doesn't matter
abbrev images : List ℕ → List ℕ → Left
images a b = record { internal = a; external = b; shown = [] }

frames_of : (start : Flashes) (a b text : List ℕ) → KeepFrames start (record { internal = a; external = b; shown = text }) → KeepFrames start (images a b)
frames_of start a b text keeps dev.Internal = keeps dev.Internal
frames_of start a b text keeps dev.External = keeps dev.External

-- ---- what was shown of a line

-- what was shown up to a stop is a front of what is shown
stop_front : (ops done : List Op) → IsStop ops done → (back : List ℕ) × (shown_by ops ≡ shown_by done ++ back)
stop_front ops [] stop = (shown_by ops, refl)
stop_front [] (one ∷ done) stop = absurd stop
stop_front (op ∷ ops) (one ∷ done) (inl (same, rest)) =
    let (back, is) = stop_front ops done rest in (
      back,
      ap (λ (x : Op). shown_by (x ∷ ops)) (sym same) ∙ shown_by-append (one ∷ []) ops ∙ ap (λ (l : List ℕ). shown_by (one ∷ []) ++ l) is
          ∙ sym (append_assoc (shown_by (one ∷ [])) (shown_by done) back) ∙ ap (λ (l : List ℕ). l ++ back) (sym (shown_by-append (one ∷ []) done)),
    )
stop_front (Put d at bytes ∷ ops) (one ∷ done) (inr ((front, some, back, split, is), last)) =
    (shown_by ops, sym (ap (λ (l : List Op). shown_by l ++ shown_by ops) (ap (λ (x : Op). x ∷ done) is ∙ ap (λ (l : List Op). Put d (at + length front) some ∷ l) last)))
stop_front (Sync d ∷ ops) (one ∷ done) (inr (part, last)) = absurd part
stop_front (Show bytes ∷ ops) (one ∷ done) (inr ((some, back, split, is), last)) = (
  back ++ shown_by ops,
  ap (λ (l : List ℕ). l ++ shown_by ops) split ∙ append_assoc some back (shown_by ops)
      ∙ ap (λ (l : List ℕ). l ++ (back ++ shown_by ops)) (sym (append-nil some))
      ∙ sym (ap (λ (l : List Op). shown_by l ++ (back ++ shown_by ops)) (ap (λ (x : Op). x ∷ done) is ∙ ap (λ (l : List Op). Show some ∷ l) last)),
)

-- what tells a fault shows a front of its line
tells_front : (text : List ℕ) (b n : Told) → Tells (Some text) b n → (ops : List Op) × Does ops b n × (back : List ℕ) × (fault_line text ≡ shown_by ops ++ back)
tells_front text b n (inl h) =
    let whole = (shows_lines (fault_line text ∷ [])).whole in
    (shows (fault_line text ∷ []), h.does, [], sym (append-nil (fault_line text)) ∙ sym whole ∙ sym (append-nil (shown_by (shows (fault_line text ∷ [])))))
tells_front text b n (inr h) =
    let front = cut_front (fault_line text ∷ []) h.ops h.cut in
    (h.ops, h.does, front.back, sym (append-nil (fault_line text)) ∙ front.front)

syncs_silent : (ops : List Op) → IsFrontOfSyncs ops → shown_by ops ≡ []
syncs_silent ops (inl (inl nothing)) = ap shown_by nothing
syncs_silent ops (inl (inr one)) = ap shown_by one
syncs_silent ops (inr both) = ap shown_by both

-- ---- flashes and their contents

-- a poll that the contents have is one that the flashes have
poll_of : (t : TablesData) (r : RollData) (section : Section) (u : State) (fs : Flashes) → HavePoll t r section u (clean_flashes fs.internal.content fs.external.content) → HavePoll t r section u fs
poll_of t r section u fs (by_both found) = by_both (record { loaded = found.loaded; held = found.held })
poll_of t r section u fs (by_one dev.Internal is) = by_one dev.Internal (record { standing = is.standing; unused = is.unused })
poll_of t r section u fs (by_one dev.External is) = by_one dev.External (record { standing = is.standing; unused = is.unused })

replaced_clean : (t : TablesData) (r : RollData) (section : Section) (u : State) (d : Dev) (fs : Flashes) → IsReplaced t r section u d fs
    → IsReplaced t r section u d (clean_flashes fs.internal.content fs.external.content)
replaced_clean t r section u dev.Internal fs is = record { standing = is.standing; unused = is.unused }
replaced_clean t r section u dev.External fs is = record { standing = is.standing; unused = is.unused }

-- of flashes that have a poll which was opened one is in use
poll_in_use : (t : TablesData) (r : RollData) (section : Section) (u : State) (fs : Flashes) → HavePoll t r section u fs → u.phase ≢ phase.Ready → (d : Dev) × IsInUse (flash_of d fs).content
poll_in_use t r section u fs (by_both found) opened = opened_is_in_use t r section u fs found opened
poll_in_use t r section u fs (by_one d is) opened = (beside d, standing_is_in_use t r section u (beside d) (flash_of (beside d) fs).content is.standing opened)

-- a poll is ready, or was opened
ready_or_opened : (p : Phase) → (p ≡ phase.Ready) ⊎ (p ≢ phase.Ready)
ready_or_opened phase.Ready = inl refl
ready_or_opened (phase.Polling at) = inr (λ is. absurd (cc))
ready_or_opened (phase.Sealed at closed) = inr (λ is. absurd (cc))

module _ (t : TablesData) (r : RollData) (section : Section) (s : State) (origin : Flashes) (ready : AreReady t r section s origin) where
  abbrev At : List Step → List ℕ → List ℕ → Type 0
  At steps a b = HasKept t r section s origin steps (images a b)

  -- so much is kept of every image
  abbrev Kept : List Step → Flashes → Type 0
  Kept steps flashes = (a b : List ℕ) → IsImage flashes.internal a → IsImage flashes.external b → At steps a b

  kept_first : Kept [] origin
  kept_first a b internal external =
      let i = clean_image origin.internal a (ready.clean dev.Internal) internal in
      let e = clean_image origin.external b (ready.clean dev.External) external in
      let found : AreFound t r section s (clean_flashes a b) = subst (λ (x : List ℕ). AreFound t r section s (clean_flashes x b)) (sym i)
      (subst (λ (y : List ℕ). AreFound t r section s (clean_flashes origin.internal.content y)) (sym e)
      (record { loaded = ready.found.loaded; held = ready.found.held })) in
      record {
        state = s;
        poll = by_both found;
        whole = first_whole a b i e;
        led = stays;
        has = also_none (ballot_lines t) s;
        both = λ nothing. (found, frames_same body_size origin (images a b) ready.clean internal external);
      }
    where
      first_whole : (a b : List ℕ) → a ≡ origin.internal.content → b ≡ origin.external.content → AreWhole (clean_flashes a b)
      first_whole a b i e dev.Internal = ap length i ∙ ready.whole dev.Internal
      first_whole a b i e dev.External = ap length e ∙ ready.whole dev.External

  -- also of what reads give
  contents_kept : (steps : List Step) (flashes : Flashes) → Kept steps flashes → At steps flashes.internal.content flashes.external.content
  contents_kept steps flashes kept =
      let all : Left → Type 0 = λ left. At steps left.internal left.external in
      at_end flashes [] all (stops_none flashes all (λ left is. kept left.internal left.external is.internal is.external))

  -- one call more, which leads on
  add : (before : List Step) (x : Call) (a b i e : List ℕ) (kept : At before a b) (v : State) → HavePoll t r section v (clean_flashes i e) → AreWhole (clean_flashes i e)
      → (last : LeadsTo t r x kept.state v) → HasAlso (ballot_lines t) kept.state (ballots_in last) v
      → (ReplaceNothing (Called x ∷ before) → AreFound t r section v (clean_flashes i e) × KeepFrames origin (images i e)) → At (Called x ∷ before) i e
  add before x a b i e kept v poll whole last has both =
      record {
        state = v;
        poll = poll;
        whole = whole;
        led = leads kept.led last;
        has = also_also (ballot_lines t) s kept.state v (ballots_led kept.led) (ballots_in last) kept.has has;
        both = both;
      }

  -- one that leaves the poll as it is
  add_silent : (before : List Step) (x : Call) (a b : List ℕ) → At before a b → x.shown ≡ [] → At (Called x ∷ before) a b
  add_silent before x a b kept nothing =
      add before x a b a b kept kept.state kept.poll kept.whole (silent nothing) (also_none (ballot_lines t) kept.state) (λ all. kept.both all.1)

  add_other : (before : List Step) (x : Call) (a b : List ℕ) → At before a b → ((es : List Event) → ¬ IsSessionOf t r x es) → At (Called x ∷ before) a b
  add_other before x a b kept none_of =
      add before x a b a b kept kept.state kept.poll kept.whole (other none_of) (also_none (ballot_lines t) kept.state) (λ all. kept.both all.1)

  add_foreign : (before : List Step) (x : Call) (a b : List ℕ) → At before a b → TellsForeign x.shown → At (Called x ∷ before) a b
  add_foreign before x a b kept tells =
      add before x a b a b kept kept.state kept.poll kept.whole (foreign tells) (also_none (ballot_lines t) kept.state) (λ all. kept.both all.1)

  -- ---- one call, over flashes of which so much is kept

  module _ (before : List Step) (start : Flashes) (kept : Kept before start) (x : Call) where
    -- what it finds
    here : At before start.internal.content start.external.content
    here = contents_kept before start kept

    poll : HavePoll t r section here.state start
    poll = poll_of t r section here.state start here.poll

    whole : AreWhole start
    whole dev.Internal = here.whole dev.Internal
    whole dev.External = here.whole dev.External

    abbrev AtNext : List ℕ → List ℕ → Type 0
    AtNext a b = At (Called x ∷ before) a b

    -- what is left of a call that put nothing might have been left before it
    idle_kept : (done : List Op) (a b : List ℕ) → AreIdle done → IsImage (after done start).internal a → IsImage (after done start).external b → At before a b
    idle_kept done a b idle internal external =
        let before_it = idle_images done start a b idle internal external in kept a b before_it.0 before_it.1

    idle_step : (done : List Op) (a b : List ℕ) → AreIdle done → IsImage (after done start).internal a → IsImage (after done start).external b
        → ((es : List Event) → ¬ IsSessionOf t r x es) → AtNext a b
    idle_step done a b idle internal external others = add_other before x a b (idle_kept done a b idle internal external) others

    -- a session over both flashes
    session_step : AreFound t r section here.state start → (names : Vota) (c d : CabinetTold) (m b n : Told) (answer : Status) → VotaEnds names c d m b answer → Tells (fault_text answer) b n
        → c.files ≡ Some x.files → (es : List Event) → IsSessionOf t r x es → IsGiven (Some x.files) names t r es → (ops : List Op) → IsTraced m n start ops
        → (done : List Op) → IsStop ops done → (a e : List ℕ) → IsImage (after done start).internal a → IsImage (after done start).external e → x.shown ≡ shown_by done
        → IsOver port_status x.status answer ops done → AtNext a e
    session_step found names c d m b n answer ends tells told es of given ops traced done stop a e internal external shown over =
        let run = run_exists (setting_of t r.titles) here.state es (tables_setting t r.titles ready.tables) in
        elim (session_leaves names x c d told t r es given section here.state run.0 run.1 run.2 m b n start ops found whole traced answer ends tells done stop a e internal external shown over) [
          | inl (first, second, nothing) ↦ add_silent before x a e (kept a e first second) nothing
          | inr (text, is_shown, votes, on, on_internal, on_external) ↦ elim (none_or_some text) [
            | inl nothing ↦
                let left = found_left names x c d told t r es given section here.state run.0 run.1 run.2 m b n start ops found whole traced answer ends tells text a e votes here.state (votes.before nothing) in
                add before x start.internal.content start.external.content a e here here.state (by_both left.0) left.1 (silent (is_shown ∙ nothing)) (also_none (ballot_lines t) here.state)
                (λ all. (left.0, frames_of origin a e text (frames_then body_size origin start (left_so a e text) [] (here.both all.1).1 votes.frames)))
            | inr some ↦
                let left = found_left names x c d told t r es given section here.state run.0 run.1 run.2 m b n start ops found whole traced answer ends tells text a e votes votes.both.state votes.both.is in
                add before x start.internal.content start.external.content a e here votes.both.state (by_both left.0) left.1 (session of (λ nothing. some (sym is_shown ∙ nothing)) on)
                (run_counts t r.titles (found_roll t r section here.state start found) on.after.run)
                (λ all. (left.0, frames_of origin a e text (frames_then body_size origin start (left_so a e text) [] (here.both all.1).1 votes.frames)))
          ]
        ]

    -- ---- any call

    module _ (next : Flashes) (is : IsCall start x next) (may : MayBeCalled t r section start x is.done) (a e : List ℕ) (stop : IsStop is.ops is.done)
        (internal : IsImage (after is.done start).internal a) (external : IsImage (after is.done start).external e)
        (over : IsOver port_status x.status is.answer is.ops is.done) where
      -- it did nothing but sync and show
      idle_here : Idles is.machine is.machine_after → ((es : List Event) → ¬ IsSessionOf t r x es) → AtNext a e
      idle_here idles others = idle_step is.done a e (idle_stop is.ops is.done (idle_trail is.machine is.machine_after start is.ops is.traced idles) stop) internal external others

      -- it did nothing
      nothing_here : is.machine_after ≡ is.machine → AtNext a e
      nothing_here same =
          let nothing : is.ops ≡ [] = sym (traced_is is.machine is.machine_after start is.ops [] is.traced (subst (Does [] is.machine) (sym same) (does_nothing is.machine))) in
          let stopped_first : is.done ≡ [] = stop_none is.ops is.done nothing stop in
          add_silent before x a e
          (kept a e (subst (λ (l : List Op). IsImage (after l start).internal a) stopped_first internal) (subst (λ (l : List Op). IsImage (after l start).external e) stopped_first external))
          (is.shown ∙ ap shown_by stopped_first)

      -- words of another command, or of none, give no session
      no_session : (command : Option Command) → command_of x.words ≡ command → ((names : Vota) → command ≢ Some (ToVote names)) → (es : List Event) → ¬ IsSessionOf t r x es
      no_session command is_this none_of es of = none_of of.names (sym is_this ∙ of.command)

      -- what is done is that of the command, and then of its fault line
      then_told : Idles is.machine is.ends.between → Idles is.machine is.machine_after
      then_told idles = idles-append is.machine is.ends.between is.machine_after idles (told_idles (fault_text is.answer) is.ends.between is.machine_after is.ends.told)

      command_step : (command : Option Command) → command_of x.words ≡ command → IsIdleEnding command is.answer → ((names : Vota) → command ≢ Some (ToVote names)) → AtNext a e
      command_step command is_this idle none_of =
          idle_here (idle_endings x.words is.cabinet is.cabinet_after is.machine is.machine_after is.answer is.ends (subst (λ (o : Option Command). IsIdleEnding o is.answer) (sym is_this) idle))
          (no_session command is_this none_of)

      load_step : (names : Carga) → command_of x.words ≡ Some (ToLoad names) → AtNext a e
      load_step names is_this =
          let others = no_session (Some (ToLoad names)) is_this (λ other_names same. absurd (cc)) in
          elim (ready_or_opened here.state.phase) [
            | inl still ↦ idle_step is.done a e (may.no_load names is_this here.state poll still) internal external others
            | inr opened ↦
                let used = poll_in_use t r section here.state start poll opened in
                let ends = ends_as x.words (ToLoad names) is.cabinet is.cabinet_after is.machine is.ends.between is.answer is_this is.ends.command in
                idle_here (then_told (load_is_kept_out names is.cabinet is.cabinet_after is.machine is.ends.between is.answer ends start used.0 is.traced.flashes used.1).0) others
          ]

      -- ---- repoe

      module _ (names : Repoe) (is_this : command_of x.words ≡ Some (ToReplace names)) where
        no_vota : (es : List Event) → ¬ IsSessionOf t r x es
        no_vota = no_session (Some (ToReplace names)) is_this (λ other_names same. absurd (cc))

        left_here : (text : List ℕ) → LeavesStanding t r section here.state names.replaced (left_so a e text) → AtNext a e
        left_here text leaves =
            add before x start.internal.content start.external.content a e here here.state (leaves_poll t r section here.state names.replaced (left_so a e text) leaves) leaves.whole
            (other no_vota) (also_none (ballot_lines t) here.state) (λ all. absurd (all.0 names is_this))

        module _ (it : DoesReplace names is.cabinet is.machine is.machine_after)
            (stops : AtEachStop (after both_synced start) it.rest (LeavesStanding t r section here.state names.replaced)) where
          behind_syncs : (later : List Op) → IsStop (it.rest ++ it.more) later → IsImage (after later (after both_synced start)).internal a → IsImage (after later (after both_synced start)).external e
              → AtNext a e
          behind_syncs later behind first second = elim (stop-append it.rest it.more later behind) [
            | inl within ↦ left_here (shown_by later) (stops later within (left_so a e (shown_by later)) (record { internal = first; external = second; shown = refl }))
            | inr (tail, split, rest) ↦
                let all : after later (after both_synced start) ≡ after tail (after it.rest (after both_synced start)) =
                ap (λ (l : List Op). after l (after both_synced start)) split ∙ after-append it.rest tail (after both_synced start) in
                let left = idle_left tail (after it.rest (after both_synced start)) [] (images a e) (idle_stop it.more tail it.idle rest)
                (record { internal = subst (λ (fs : Flashes). IsImage fs.internal a) all first; external = subst (λ (fs : Flashes). IsImage fs.external e) all second; shown = refl }) in
                left_here (shown_by it.rest)
                (stops it.rest (stop_whole it.rest) (left_so a e (shown_by it.rest)) (record { internal = left.internal; external = left.external; shown = refl }))
          ]

          replacing_step : AtNext a e
          replacing_step =
              let all : both_synced ++ (it.rest ++ it.more) ≡ is.ops =
              traced_is is.machine is.machine_after start is.ops (both_synced ++ (it.rest ++ it.more)) is.traced it.does in
              elim (stop-append both_synced (it.rest ++ it.more) is.done (subst (λ (l : List Op). IsStop l is.done) (sym all) stop)) [
                | inl before_them ↦ idle_step is.done a e (idle_stop both_synced is.done (tt, (tt, tt)) before_them) internal external no_vota
                | inr (later, front, behind) ↦
                    behind_syncs later behind (subst (λ (l : List Op). IsImage (after l start).internal a) front internal)
                    (subst (λ (l : List Op). IsImage (after l start).external e) front external)
              ]

        replace_step : AtNext a e
        replace_step =
            let ends = ends_as x.words (ToReplace names) is.cabinet is.cabinet_after is.machine is.ends.between is.answer is_this is.ends.command in
            elim (repoe_then names is.cabinet is.machine is.ends.between is.machine_after (repoe_does names is.cabinet is.cabinet_after is.machine is.ends.between is.answer ends)
            (told_idles (fault_text is.answer) is.ends.between is.machine_after is.ends.told)) [
              | inl idles ↦ idle_here idles no_vota
              | inr it ↦ elim (keeps t r section here.state start ready.tables ready.roll names x.files is.cabinet is.told (may.no_other_documents names is_this) is.machine is.machine_after is.traced.flashes it poll) [
                | inl stops ↦ replacing_step it stops
                | inr (wrong, no_frame, still) ↦ idle_step is.done a e (may.no_wrong_flash names is_this here.state wrong no_frame still) internal external no_vota
              ]
            ]

      -- ---- vota

      module _ (names : Vota) (is_this : command_of x.words ≡ Some (ToVote names)) (ends : VotaEnds names is.cabinet is.cabinet_after is.machine is.ends.between is.answer) where
        -- the documents of a session are those of these names
        given_of : (es : List Event) → IsSessionOf t r x es → IsGiven (Some x.files) names t r es
        given_of es of =
            let both : Some (ToVote of.names) ≡ Some (ToVote names) = sym of.command ∙ is_this in
            let same : of.names ≡ names = cc in
            subst (λ (y : Vota). IsGiven (Some x.files) y t r es) same of.given

        refused_step : IsRefused (Some x.files) names is.answer → Idles is.machine is.ends.between → AtNext a e
        refused_step why idles = idle_here (then_told idles) (λ es of. refused_or_given x.files names is.answer t r es why (given_of es of))

        module _ (found : AreFound t r section here.state start) where
          others_step : GivesOthers t r x.files names → AtNext a e
          others_step gives =
              idle_here (then_told (front_idles is.machine is.ends.between (others_are_kept_out t r section here.state start ready.tables ready.roll found names x.files gives is.cabinet is.cabinet_after is.machine is.ends.between is.answer ends is.told is.traced.flashes)))
              (λ es of. gives t r es (given_of es of) (refl, refl))

          these_step : (es : List Event) → IsGiven (Some x.files) names t r es → AtNext a e
          these_step es given =
              session_step found names is.cabinet is.cabinet_after is.machine is.ends.between is.machine_after is.answer ends is.ends.told is.told es
              (record { names = names; command = is_this; given = given }) given is.ops is.traced
              is.done stop a e internal external is.shown over

          -- the keys don't matter for what is told by the hashes
          others_by : (u : TablesData) (q : RollData) (es : List Event) → IsGiven (Some x.files) names u q es → ¬ ((u.digest ≡ t.digest) × (q.digest ≡ r.digest)) → GivesOthers t r x.files names
          others_by u q es given differ v w fs also same =
              let one = given_once x.files names u v q w es fs given also in
              differ (ap (λ (y : TablesData). y.digest) one.0 ∙ same.0, ap (λ (y : RollData). y.digest) one.1 ∙ same.1)

          given_step : (u : TablesData) (q : RollData) (es : List Event) → IsGiven is.cabinet.files names u q es → AtNext a e
          given_step u q es also =
              let given : IsGiven (Some x.files) names u q es = subst (λ (o : Option Files). IsGiven o names u q es) is.told also in
              elim (cases_Bool (bytes_eq u.digest t.digest)) [
                | inr other_tables ↦ others_step (others_by u q es given (λ same. differ u.digest t.digest other_tables same.0))
                | inl first ↦ elim (cases_Bool (bytes_eq q.digest r.digest)) [
                  | inr other_roll ↦ others_step (others_by u q es given (λ same. differ q.digest r.digest other_roll same.1))
                  | inl second ↦
                      let same = may.no_collision names is_this u q es given ((bytes_eq-Decides u.digest t.digest).0 first) ((bytes_eq-Decides q.digest r.digest).0 second) in
                      these_step es (subst (λ (y : TablesData). IsGiven (Some x.files) names y r es) same.0 (subst (λ (y : RollData). IsGiven (Some x.files) names u y es) same.1 given))
                ]
              ]

        -- over a replaced flash that hasn't the frame of the load
        module _ (d : Dev) (replaced_one : IsReplaced t r section here.state d start) (no_frame : ¬ HasFrameOf t r section d (flash_of d start).content) where
          fronts : Runs IsFrontOfSyncs is.machine is.ends.between
          fronts =
              vota_kept_out t r section here.state d start ready.tables ready.roll replaced_one no_frame x.files is.cabinet is.cabinet_after is.machine is.ends.between is.told is.traced.flashes
              names (may.no_collision names is_this) is.answer ends

          kept_here : At before a e
          kept_here =
              idle_kept is.done a e (idle_stop is.ops is.done (idle_trail is.machine is.machine_after start is.ops is.traced (then_told (front_idles is.machine is.ends.between fronts))) stop) internal external

          -- nothing but the line that tells a fault is shown
          line_front : (text : List ℕ) → Tells (Some text) is.ends.between is.machine_after → (rest : List ℕ) × (fault_line text ≡ x.shown ++ rest)
          line_front text tells =
              let (ops, does, back, front) = tells_front text is.ends.between is.machine_after tells in
              let all : fronts.0 ++ ops ≡ is.ops =
              traced_is is.machine is.machine_after start is.ops (fronts.0 ++ ops) is.traced (does-append fronts.0 ops is.machine is.ends.between is.machine_after fronts.1 does) in
              let text_is : shown_by is.ops ≡ shown_by ops =
              ap shown_by (sym all) ∙ shown_by-append fronts.0 ops ∙ ap (λ (l : List ℕ). l ++ shown_by ops) (syncs_silent fronts.0 fronts.2) in
              let (more, at_stop) = stop_front is.ops is.done stop in
              (more ++ back, front ∙ ap (λ (l : List ℕ). l ++ back) (sym text_is ∙ at_stop) ∙ append_assoc (shown_by is.done) more back ∙ ap (λ (l : List ℕ). l ++ (more ++ back)) (sym is.shown))

          -- no line tells this status
          silent_step : is.machine_after ≡ is.ends.between → AtNext a e
          silent_step same =
              let all : fronts.0 ≡ is.ops = traced_is is.machine is.machine_after start is.ops fronts.0 is.traced (subst (Does fronts.0 is.machine) (sym same) fronts.1) in
              let (more, at_stop) = stop_front is.ops is.done stop in
              let nothing : shown_by is.done ++ more ≡ [] = sym at_stop ∙ ap shown_by (sym all) ∙ syncs_silent fronts.0 fronts.2 in
              add_silent before x a e kept_here (is.shown ∙ first_none (shown_by is.done) more nothing)
            where
              first_none : (xs ys : List ℕ) → xs ++ ys ≡ [] → xs ≡ []
              first_none [] ys none_left = refl
              first_none (one ∷ xs) ys none_left = absurd (cc)

          foreign_step : EndsForeign is.answer → AtNext a e
          foreign_step (inl (which, same)) =
              let tells : Tells (Some (codes "OUTRA CARGA " ++ device_word which)) is.ends.between is.machine_after =
              subst (λ (y : Status). Tells (fault_text y) is.ends.between is.machine_after) same is.ends.told in
              let (rest, front) = line_front (codes "OUTRA CARGA " ++ device_word which) tells in
              add_foreign before x a e kept_here (which, codes "OUTRA CARGA " ++ device_word which, rest, refl, front)
          foreign_step (inr (inl same)) = silent_step (subst (λ (y : Status). Tells (fault_text y) is.ends.between is.machine_after) same is.ends.told)
          foreign_step (inr (inr (inl same))) = silent_step (subst (λ (y : Status). Tells (fault_text y) is.ends.between is.machine_after) same is.ends.told)
          foreign_step (inr (inr (inr (which, same)))) =
              silent_step (port_silent (port_of which) is.ends.between is.machine_after (subst (λ (y : Status). Tells (fault_text y) is.ends.between is.machine_after) same is.ends.told))

          unloaded_step : AtNext a e
          unloaded_step =
              elim (vota_answer t r section here.state d start ready.tables ready.roll replaced_one no_frame x.files is.cabinet is.cabinet_after is.machine is.ends.between is.told is.traced.flashes
              names (may.no_collision names is_this) is.answer ends) [
                | inl why ↦ refused_step why (front_idles is.machine is.ends.between fronts)
                | inr ends_so ↦ foreign_step ends_so
              ]

      found_step : AreFound t r section here.state start → (names : Vota) → command_of x.words ≡ Some (ToVote names) → (answer : Status) → is.answer ≡ answer
          → VotaEnds names is.cabinet is.cabinet_after is.machine is.ends.between answer → AtNext a e
      found_step found names is_this answer same (refused why taken un) =
          refused_step names is_this (subst (VotaEnds names is.cabinet is.cabinet_after is.machine is.ends.between) (sym same) (refused why taken un))
          (subst (λ (y : Status). IsRefused (Some x.files) names y) (sym same) (subst (λ (o : Option Files). IsRefused o names answer) is.told why)) (untouched_idles is.machine is.ends.between un)
      found_step found names is_this _ same (no_memory taken un) = nothing_here (subst (λ (y : Status). Tells (fault_text y) is.ends.between is.machine_after) same is.ends.told ∙ un)
      found_step found names is_this _ same (no_cabinet taken un) = nothing_here (subst (λ (y : Status). Tells (fault_text y) is.ends.between is.machine_after) same is.ends.told ∙ un)
      found_step found names is_this _ same (not_started {t = u} {r = q} {es} error given taken h) =
          given_step names is_this (subst (VotaEnds names is.cabinet is.cabinet_after is.machine is.ends.between) (sym same) (not_started error given taken h)) found u q es given
      found_step found names is_this _ same (vota_cut {t = u} {r = q} {es} p given taken h) =
          given_step names is_this (subst (VotaEnds names is.cabinet is.cabinet_after is.machine is.ends.between) (sym same) (vota_cut p given taken h)) found u q es given
      found_step found names is_this answer same (session_held {t = u} {r = q} {es} after_it given taken h one_of state put) =
          given_step names is_this (subst (VotaEnds names is.cabinet is.cabinet_after is.machine is.ends.between) (sym same) (session_held after_it given taken h one_of state put)) found u q es given

      vota_step : (names : Vota) → command_of x.words ≡ Some (ToVote names) → VotaEnds names is.cabinet is.cabinet_after is.machine is.ends.between is.answer → AtNext a e
      vota_step names is_this ends = elim (poll_cases t r section here.state start ready.tables poll) [
        | inl found ↦ found_step found names is_this is.answer refl ends
        | inr (d, replaced_one, no_frame) ↦ unloaded_step names is_this ends d replaced_one no_frame
      ]

      any_step : (command : Option Command) → command_of x.words ≡ command → AtNext a e
      any_step None is_this = command_step None is_this tt (λ names same. absurd (cc))
      any_step (Some (ToVote names)) is_this =
          vota_step names is_this (ends_as x.words (ToVote names) is.cabinet is.cabinet_after is.machine is.ends.between is.answer is_this is.ends.command)
      any_step (Some (ToLoad names)) is_this = load_step names is_this
      any_step (Some (ToEmit names)) is_this = command_step (Some (ToEmit names)) is_this tt (λ other_names same. absurd (cc))
      any_step (Some (ToCheck names)) is_this = command_step (Some (ToCheck names)) is_this tt (λ other_names same. absurd (cc))
      any_step (Some (ToRecount names)) is_this = command_step (Some (ToRecount names)) is_this tt (λ other_names same. absurd (cc))
      any_step (Some (ToCertify names)) is_this = command_step (Some (ToCertify names)) is_this tt (λ other_names same. absurd (cc))
      any_step (Some (ToVerify names)) is_this = command_step (Some (ToVerify names)) is_this tt (λ other_names same. absurd (cc))
      any_step (Some (ToTotal names)) is_this = command_step (Some (ToTotal names)) is_this tt (λ other_names same. absurd (cc))
      any_step (Some (ToRehearse voters)) is_this = command_step (Some (ToRehearse voters)) is_this tt (λ other_names same. absurd (cc))
      any_step (Some (ToReplace names)) is_this = replace_step names is_this

  -- ---- all of them

  flashes_whole : (steps : List Step) (flashes : Flashes) → Kept steps flashes → AreWhole flashes
  flashes_whole steps flashes kept dev.Internal = (contents_kept steps flashes kept).whole dev.Internal
  flashes_whole steps flashes kept dev.External = (contents_kept steps flashes kept).whole dev.External

  step : (before : List Step) (start : Flashes) → Kept before start → (x : Call) (next : Flashes) (is : IsCall start x next) → MayBeCalled t r section start x is.done → Kept (Called x ∷ before) next
  step before start kept x next is may =
      goes port_status start is.answer is.ops is.done x.status next (λ a b. At (Called x ∷ before) a b) is.goes_on
      (λ a b stop internal external over. any_step before start kept x next is may a b stop internal external over (command_of x.words) refl)

  exchange_step : (before : List Step) (d : Dev) (now next : Flashes) → Kept before now → IsExchange d now next → (u : State) → LeadTo t r s before u
      → IsStanding t r section u (beside d) (flash_of (beside d) now).content → Kept (Exchanged d ∷ before) next
  exchange_step before d now next kept is u led standing a b internal external =
      let i = clean_image next.internal a (is.clean dev.Internal) internal in
      let e = clean_image next.external b (is.clean dev.External) external in
      subst (λ (x : List ℕ). At (Exchanged d ∷ before) x b) (sym i)
      (subst (λ (y : List ℕ). At (Exchanged d ∷ before) next.internal.content y) (sym e)
      (record {
        state = u;
        poll = by_one d (replaced_clean t r section u d next (record { standing = subst (λ (f : Flash). IsStanding t r section u (beside d) f.content) (sym is.stays) standing; unused = is.unused }));
        whole = clean_sized;
        led = exchanges led;
        has = led_has_ballots t r s u before (found_roll t r section s origin ready.found) led;
        both = λ all. absurd all.0;
      }))
    where
      sized : (e : Dev) → length (flash_of e next).content ≡ device_size
      sized e = elim (one_or_beside e d) [
        | inl same ↦ subst (λ (x : Dev). length (flash_of x next).content ≡ device_size) (sym same) is.size
        | inr other_one ↦
            subst (λ (x : Dev). length (flash_of x next).content ≡ device_size) (sym other_one)
            (ap (λ (f : Flash). length f.content) is.stays ∙ flashes_whole before now kept (beside d))
      ]

      clean_sized : AreWhole (clean_flashes next.internal.content next.external.content)
      clean_sized dev.Internal = sized dev.Internal
      clean_sized dev.External = sized dev.External

  all_kept : (steps : List Step) (last : Flashes) → AreDone t r section s origin steps last → Kept steps last
  all_kept _ _ done_nothing = kept_first
  all_kept _ last (done_call {before} {now} {x} done is may) = step before now (all_kept before now done) x last is may
  all_kept _ last (done_exchange {before} {now} {d} {u} done is led standing) = exchange_step before d now last (all_kept before now done) is u led standing

pub steps_keep_votes : StepsKeepVotes
steps_keep_votes t r section s start last steps ready done left is =
    let kept = all_kept t r section s start ready steps last done left.internal left.external is.internal is.external in
    record {
      state = kept.state;
      poll = kept.poll;
      whole = kept.whole;
      led = kept.led;
      has = kept.has;
      both = λ all. ((kept.both all).0, frames_text body_size start (images left.internal left.external) left.shown (kept.both all).1);
    }

pub next_is_safe : NextIsSafe
next_is_safe t r section s start last steps ready done =
    let kept = contents_kept t r section s start ready steps last (all_kept t r section s start ready steps last done) in (
      kept.state,
      kept.led,
      kept.has,
      poll_of t r section kept.state last kept.poll,
      λ all. record { loaded = (kept.both all).0.loaded; held = (kept.both all).0.held },
      λ found. votes_are_kept t r section kept.state last found,
    )

-- ---- either flash may be exchanged behind a session

has_byte : (text : List ℕ) → text ≢ [] → 0 < length text
has_byte [] some = absurd (some refl)
has_byte (one ∷ text) some = omega arith

-- the flash alone stands for a poll to which the steps lead
abbrev Alone : TablesData → RollData → Section → State → List Step → Dev → List ℕ → Type 0
Alone t r section s steps e image = (u : State) × LeadTo t r s steps u × IsStanding t r section u e image

on_images : (t : TablesData) (r : RollData) (section : Section) (s : State) (steps : List Step) (d : Dev) (left : Left) → Alone t r section s steps d (left_on d (images left.internal left.external))
    → Alone t r section s steps d (left_on d left)
on_images t r section s steps dev.Internal left alone = alone
on_images t r section s steps dev.External left alone = alone

pub either_may_be_exchanged : EitherMayBeExchanged
either_may_be_exchanged t r section s start now next before x es ready done v found is of some d left at =
    on_images t r section s (Called x ∷ before) d left
    (goes port_status now is.answer is.ops is.done x.status next (λ a b. Alone t r section s (Called x ∷ before) d (left_on d (images a b))) is.goes_on
    (λ a b stop internal external over. by_device d (both a b stop internal external over)) left.internal left.external at.internal at.external)
  where
    kept : Kept t r section s start ready before now
    kept = all_kept t r section s start ready before now done

    here : HasKept t r section s start before (images now.internal.content now.external.content)
    here = contents_kept t r section s start ready before now kept

    found_here : AreFound t r section here.state now
    found_here =
        subst (λ (y : State). AreFound t r section y now)
        (sym (poll_once t r section v here.state now ready.tables found (poll_of t r section here.state now here.poll))) found

    by_device : {a b : List ℕ} (e : Dev) → Alone t r section s (Called x ∷ before) dev.Internal a × Alone t r section s (Called x ∷ before) dev.External b
        → Alone t r section s (Called x ∷ before) e (left_on e (images a b))
    by_device dev.Internal both = both.0
    by_device dev.External both = both.1

    both : (a b : List ℕ) → IsStop is.ops is.done → IsImage (after is.done now).internal a → IsImage (after is.done now).external b → IsOver port_status x.status is.answer is.ops is.done
        → Alone t r section s (Called x ∷ before) dev.Internal a × Alone t r section s (Called x ∷ before) dev.External b
    both a b stop internal external over =
        let run = run_exists (setting_of t r.titles) here.state es (tables_setting t r.titles ready.tables) in
        let ends = ends_as x.words (ToVote of.names) is.cabinet is.cabinet_after is.machine is.ends.between is.answer of.command is.ends.command in
        let whole = flashes_whole t r section s start ready before now kept in
        elim (session_leaves of.names x is.cabinet is.cabinet_after is.told t r es of.given section here.state run.0 run.1 run.2 is.machine is.ends.between is.machine_after now is.ops found_here whole is.traced
        is.answer ends is.ends.told is.done stop a b internal external is.shown over) [
          | inl (first, second, nothing) ↦ absurd (some nothing)
          | inr (text, is_shown, votes, on, on_internal, on_external) ↦
              let began = has_byte text (λ nothing. some (is_shown ∙ nothing)) in
              let there = found_left of.names x is.cabinet is.cabinet_after is.told t r es of.given section here.state run.0 run.1 run.2 is.machine is.ends.between is.machine_after now is.ops found_here whole
              is.traced is.answer ends is.ends.told text a b votes votes.both.state votes.both.is in (
                (
                  (votes.internal began).state,
                  leads here.led (session of some (on_internal began)),
                  record { section_fits = found_here.loaded.section_fits; frame = there.0.loaded.internal_frame; held = (votes.internal began).is },
                ),
                (
                  (votes.external began).state,
                  leads here.led (session of some (on_external began)),
                  record { section_fits = found_here.loaded.section_fits; frame = there.0.loaded.external_frame; held = (votes.external began).is },
                ),
              )
        ]

-- ---- and the one that stands goes on standing

-- what reads give is an image
own_content : (t : TablesData) (r : RollData) (section : Section) (s : State) (steps : List Step) (flashes : Flashes) (d : Dev) → StandsAlone t r section s steps flashes d
    → Alone t r section s steps d (flash_of d flashes).content
own_content t r section s steps flashes dev.Internal all =
    at_end flashes [] (λ left. Alone t r section s steps dev.Internal left.internal) (stops_none flashes (λ left. Alone t r section s steps dev.Internal left.internal) (λ left at. all left at))
own_content t r section s steps flashes dev.External all =
    at_end flashes [] (λ left. Alone t r section s steps dev.External left.external) (stops_none flashes (λ left. Alone t r section s steps dev.External left.external) (λ left at. all left at))

module _ (t : TablesData) (r : RollData) (section : Section) (s : State) (now next : Flashes) (before : List Step) (x : Call) (d : Dev) (tables : IsTables t) (roll : IsRoll r)
    (stands : StandsAlone t r section s before now d) (is : IsCall now x next) where
  abbrev After : List ℕ → List ℕ → Type 0
  After a b = Alone t r section s (Called x ∷ before) d (left_on d (images a b))

  -- behind operations that put nothing
  still_idle : (done : List Op) (a b : List ℕ) → AreIdle done → IsImage (after done now).internal a → IsImage (after done now).external b → ((u : State) → LeadsTo t r x u u) → After a b
  still_idle done a b idle internal external nowhere =
      let (u, led, standing) = stands (images a b) (idle_left done now [] (images a b) idle (record { internal = internal; external = external; shown = refl })) in
      (u, leads led (nowhere u), standing)

  module _ (names : Repoe) (is_this : command_of x.words ≡ Some (ToReplace names)) (which : d ≡ beside names.replaced) (gives : AreNoCollision t r x.files names) where
    nowhere : (u : State) → LeadsTo t r x u u
    nowhere u = other (λ es of. let clash : Some (ToVote of.names) ≡ Some (ToReplace names) = sym of.command ∙ is_this in absurd (cc))

    module _ (it : DoesReplace names is.cabinet is.machine is.machine_after) where
      mine : Alone t r section s before (beside names.replaced) (flash_of (beside names.replaced) now).content
      mine = own_content t r section s before now (beside names.replaced) (subst (StandsAlone t r section s before now) which stands)

      stops : AtEachStop (after both_synced now) it.rest (LeavesStanding t r section mine.0 names.replaced)
      stops = standing_stops t r section mine.0 now tables roll names x.files is.cabinet is.told gives is.machine is.machine_after is.traced.flashes it mine.2

      standing_left : (a b text : List ℕ) → LeavesStanding t r section mine.0 names.replaced (left_so a b text) → After a b
      standing_left a b text leaves =
          (mine.0, leads mine.1 (nowhere mine.0), subst (λ (e : Dev). IsStanding t r section mine.0 e (left_on e (images a b))) (sym which) (same_side (beside names.replaced) leaves.standing))
        where
          same_side : (e : Dev) → IsStanding t r section mine.0 e (left_on e (left_so a b text)) → IsStanding t r section mine.0 e (left_on e (images a b))
          same_side dev.Internal standing = standing
          same_side dev.External standing = standing

      standing_behind : (a b : List ℕ) (later : List Op) → IsStop (it.rest ++ it.more) later → IsImage (after later (after both_synced now)).internal a
          → IsImage (after later (after both_synced now)).external b → After a b
      standing_behind a b later behind first second = elim (stop-append it.rest it.more later behind) [
        | inl within ↦ standing_left a b (shown_by later) (stops later within (left_so a b (shown_by later)) (record { internal = first; external = second; shown = refl }))
        | inr (tail, split, rest) ↦
            let all : after later (after both_synced now) ≡ after tail (after it.rest (after both_synced now)) =
            ap (λ (l : List Op). after l (after both_synced now)) split ∙ after-append it.rest tail (after both_synced now) in
            let left = idle_left tail (after it.rest (after both_synced now)) [] (images a b) (idle_stop it.more tail it.idle rest)
            (record { internal = subst (λ (fs : Flashes). IsImage fs.internal a) all first; external = subst (λ (fs : Flashes). IsImage fs.external b) all second; shown = refl }) in
            standing_left a b (shown_by it.rest) (stops it.rest (stop_whole it.rest) (left_so a b (shown_by it.rest)) (record { internal = left.internal; external = left.external; shown = refl }))
      ]

    still_repoe : (a b : List ℕ) → IsStop is.ops is.done → IsImage (after is.done now).internal a → IsImage (after is.done now).external b → After a b
    still_repoe a b stop internal external =
        let ends = ends_as x.words (ToReplace names) is.cabinet is.cabinet_after is.machine is.ends.between is.answer is_this is.ends.command in
        elim (repoe_then names is.cabinet is.machine is.ends.between is.machine_after (repoe_does names is.cabinet is.cabinet_after is.machine is.ends.between is.answer ends)
        (told_idles (fault_text is.answer) is.ends.between is.machine_after is.ends.told)) [
          | inl idles ↦ still_idle is.done a b (idle_stop is.ops is.done (idle_trail is.machine is.machine_after now is.ops is.traced idles) stop) internal external nowhere
          | inr it ↦
              let all : both_synced ++ (it.rest ++ it.more) ≡ is.ops = traced_is is.machine is.machine_after now is.ops (both_synced ++ (it.rest ++ it.more)) is.traced it.does in
              elim (stop-append both_synced (it.rest ++ it.more) is.done (subst (λ (l : List Op). IsStop l is.done) (sym all) stop)) [
                | inl before_them ↦ still_idle is.done a b (idle_stop both_synced is.done (tt, (tt, tt)) before_them) internal external nowhere
                | inr (later, front, behind) ↦
                    standing_behind it a b later behind (subst (λ (l : List Op). IsImage (after l now).internal a) front internal) (subst (λ (l : List Op). IsImage (after l now).external b) front external)
              ]
        ]

pub still_stands_alone : StillStandsAlone
still_stands_alone t r section s now next before x d tables roll stands is how left at =
    on_images t r section s (Called x ∷ before) d left
    (goes port_status now is.answer is.ops is.done x.status next (λ a b. After t r section s now next before x d tables roll stands is a b) is.goes_on
    (λ a b stop internal external over. elim how [
      | inl (idle, nowhere_it) ↦ still_idle t r section s now next before x d tables roll stands is is.done a b idle internal external nowhere_it
      | inr (names, is_this, which, gives) ↦ still_repoe t r section s now next before x d tables roll stands is names is_this which gives a b stop internal external
    ]) left.internal left.external at.internal at.external)

-- ---- behind an exchange of the other flash, and at rest

-- an image of a flash on which nothing is dirty is its content
clean_on : (flashes : Flashes) (left : Left) (d : Dev) → IsClean (flash_of d flashes) → IsLeft flashes [] left → left_on d left ≡ (flash_of d flashes).content
clean_on flashes left dev.Internal clean at = clean_image flashes.internal left.internal clean at.internal
clean_on flashes left dev.External clean at = clean_image flashes.external left.external clean at.external

pub exchange_leaves_it : ExchangeLeavesIt
exchange_leaves_it t r section s now next before d stands is left at =
    let (u, led, standing) = own_content t r section s before now d stands in
    let same : flash_of d next ≡ flash_of d now = subst (λ (e : Dev). flash_of e next ≡ flash_of e now) (twice_beside d) is.stays in
    let image : left_on d left ≡ (flash_of d now).content = clean_on next left d (is.clean d) at ∙ ap (λ (f : Flash). f.content) same in
    (u, exchanges led, subst (IsStanding t r section u d) (sym image) standing)

pub rest_stands_alone : RestStandsAlone
rest_stands_alone t r section s u flashes steps d tables roll fits of rest led left at =
    (u, led, subst (IsStanding t r section u d) (sym (clean_on flashes left d (rest.clean d) at)) (stands_at_rest t r section u flashes d tables roll fits of rest))

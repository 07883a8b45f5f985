-- What lies at rest when vota has ended, and that it tells no order of voting
use Rattle.urna_outside.specs.declared.device.Dev.{Dev}
use Rattle.image_codec.specs.Laws.{votes_for}
use Rattle.flash_store.proofs.ShowStops.{text_of_lines}
use Rattle.station.proofs.Performing.{tables_setting}
use Rattle.std.proofs.lemmas.List.Sums.{sum_by-cons}
use Rattle.std.proofs.lemmas.Option.{slice_get-get_or}
use Rattle.station.specs.Setting.{setting_of}
use Rattle.station.specs.Text.{session_pieces}
use Rattle.call_laws.specs.Headline.{session_of}
use Rattle.station.proofs.RunLaws.{run_exists, run_unique}
use Rattle.result_files.specs.Reports.{report_file}
use Rattle.urna_commands.proofs.Once.{refused_or_given}
use Rattle.vote_record.specs.RecordText.{record_text}
use Rattle.urna_commands.specs.Errors.{port_status, start_status}
use Rattle.station.proofs.Casting.{pieces_commit, run_counts, run_last}
use Rattle.image_codec.proofs.OfTables.{panels_of}
use Rattle.call_laws.proofs.Headline.{not_empty, not_foreign, of_given, results_silent, same_first, same_load}
use Rattle.state_store.specs.Load.{load_of}
use Rattle.urna_outside.proofs.Courses.{in_shows}
use Rattle.turnout.specs.Turnout.{has_come}
use Rattle.call_laws.proofs.Keeping.{found_roll}
use Rattle.urna_outside.proofs.Doing.{does-append, shown_by-append, told_after}
use Rattle.flash_store.specs.Pieces.{commits_in, lines_in, state_after, text_in}
use Rattle.call_laws.proofs.PutFiles.{both_are_there}
use Rattle.station.specs.Cast.{ballots_of}
use Rattle.vote_record.specs.Bag.{bag_at, count_of}
use Rattle.std.proofs.lemmas.List.{append-nil}
use Rattle.station.proofs.Prefixes.{after_prefix}
use Rattle.urna_commands.specs.Command.{Vota}
use Rattle.command_parts.specs.FaultLines.{Tells}
use Rattle.urna_commands.specs.FaultLines.{fault_text}
use Rattle.urna_commands.specs.declared.status.Status.{Status}
use Rattle.image_codec.specs.State.{State}
use Rattle.station.specs.declared.station.StartError.{StartError}
use Rattle.election_tables.specs.declared.tables.sections.Section.{Section}
use Rattle.election_tables.specs.Roll.{RollData}
use Rattle.urna_commands.specs.Putting.{PutsResults, no_results, result_files, results_not_made, results_not_put, results_put, HasBoth, record_name, report_name}
use Rattle.urna_outside.specs.declared.device.Port.{Port}
use Rattle.station.specs.Output.{Output, commits_of}
use Rattle.state_store.specs.declared.load.Load.{Load}
use Rattle.election_tables.specs.TablesData.{IsTables, TablesData}
use Rattle.image_codec.specs.Encoding.{IsStateOf}
use Rattle.station.specs.Run.{IsRun, ends}
use Rattle.urna_commands.specs.Vota.{HasVoted, HasVotedTo, IsRefused, VotaEnds, no_cabinet, no_memory, not_started, session_held, cut, refused}
use Rattle.urna_commands.specs.Taking.{HasTaken}
use Rattle.image_codec.specs.Also.{HasAlso, votes_in_ballots}
use Rattle.std.specs.Option.{ForSome, option_map}
use Rattle.urna_outside.specs.Flash.{Flashes, Op, after, flash_of, shown_by}
use Rattle.station.specs.Start.{FailsToStart, IsCutAtOpening, opening_line}
use Rattle.key_script.specs.declared.keys.Event.{Event}
use Rattle.urna_outside.specs.Told.{Does, Told}
use Rattle.std.proofs.lemmas.List.Sorted.{Contains-permutation, IsPermutation-sym, sum_by-IsPermutation}
use Rattle.std.proofs.lemmas.List.Elements.{Contains-append_right}
use Rattle.std.specs.Prelude.{Contains, IsPermutation}
use Rattle.vote_kinds.specs.declared.choice.Choice.{Choice}
use Rattle.urna_outside.specs.Cabinet.{CabinetTold, Files, Holds, file_at}
use Rattle.std.proofs.Common.{Bool, List, Option, Some, [], false, inl, length, map, refl, slice_get, suc, sym, true, zero, ℕ, ◌++◌, ◌+◌, ◌<◌, ◌∙◌, ◌∷◌, ◌≡◌, ◌≢◌, ◌⊎◌, ap, subst, arith, inr}
use Rattle.vote_kinds.specs.Ballot.{BallotLine, ballot_lines}
use Rattle.image_codec.specs.CodecLaws.{Ballot, IsKnownByVotes}
use Rattle.call_laws.specs.AtRest.{AllAreCounted, AreResults, DoneIsWhole, VotaOver, HaveSameFile, RestAtEnd, LateFaultIsSealed, RestAtPrefix, RestsWhereNoFlashFailed, SameAtRest, SameInAnyOrder, both_files, no_files, RestWith}
use Rattle.state_store.specs.Calls.{AreFound}
use Rattle.state_store.specs.Rest.{AreAtRest, rest}
use Rattle.std.specs.List.{sum_by, concat}
use Rattle.seat_remainders.proofs.Lists.{of_member}
use Rattle.turnout.specs.declared.phase.Phase.TheVariants as phase
use Rattle.station.specs.declared.station.StartError.TheVariants as starting
use Rattle.urna_outside.specs.declared.device.Port.TheVariants as port
use Rattle.urna_commands.specs.declared.status.Status.TheVariants as status

-- ---- what was held, over flashes that hold a poll

module _ (t : TablesData) (r : RollData) (tables : IsTables t) (section : Section) (s : State) (m : Told) (start : Flashes) (found : AreFound t r section s start) (flashes : m.flashes ≡ Some start) where
  -- what is at rest behind operations is told
  rest_with : (ops : List Op) (b : Told) (u : State) → Does ops m b → ForSome b.flashes (AreAtRest t (load_of t r section) u) → RestWith t r section u b
  rest_with ops b u does rest =
      let told = told_after ops m b start does flashes in
      record { now = after ops start; told = told; rest = rest (after ops start) told }

  module _ (es : List Event) (last : State) (out : List Output) (run : IsRun (setting_of t r.titles) s es last out) (b : Told) (h : HasVoted t r es m b) where
    first_is : h.first ≡ s
    first_is = same_first t r tables section s m start found flashes h.load h.first h.opens.between h.opens.recovered

    load_is : h.load ≡ load_of t r section
    load_is = same_load t r tables section s m start found flashes h.load h.first h.opens.between h.opens.recovered

    same_run : (h.last ≡ last) × (h.out ≡ out)
    same_run =
        run_unique (setting_of t r.titles) s h.last last es h.out out (tables_setting t r.titles tables)
        (subst (λ (x : State). IsRun (setting_of t r.titles) x es h.last h.out) first_is h.run) run

    abbrev ops : List Op
    ops = h.opens.recovered.ran.0 ++ (h.opens.shown.ops ++ h.put.ops)

    does : Does ops m b
    does =
        does-append h.opens.recovered.ran.0 (h.opens.shown.ops ++ h.put.ops) m h.opens.between b h.opens.recovered.ran.1
        (does-append h.opens.shown.ops h.put.ops h.opens.between h.between b h.opens.shown.does h.put.does)

    end_rest : RestWith t r section last b
    end_rest =
        let end : state_after h.first (session_pieces t h.out) ≡ last =
        ap (λ (y : State). state_after y (session_pieces t h.out)) first_is ∙ ap (λ (o : List Output). state_after s (session_pieces t o)) same_run.1
        ∙ run_last t r.titles (found_roll t r section s start found) run in
        rest_with ops b last does
        (λ x is. subst (λ (load : Load). AreAtRest t load last x) load_is (subst (λ (y : State). AreAtRest t h.load y x) end (h.put.rest x is)))

    end_shown : b.shown ≡ option_map (λ (before : List ℕ). before ++ text_in (session_of t s out)) m.shown
    end_shown =
        let recovery = h.opens.recovered.ran in
        let line = h.opens.shown in
        let quiet : shown_by recovery.0 ≡ [] = ap shown_by recovery.2.1 ∙ in_shows _ recovery.2.0 recovery.2.2.slots.within in
        let first : shown_by line.ops ≡ opening_line t s =
        text_of_lines line.ops (opening_line t h.first ∷ []) line.shown ∙ append-nil (opening_line t h.first) ∙ ap (opening_line t) first_is in
        let then : shown_by h.put.ops ≡ concat (lines_in (session_pieces t out)) =
        text_of_lines h.put.ops (lines_in (session_pieces t h.out)) h.put.shown ∙ ap (λ (o : List Output). concat (lines_in (session_pieces t o))) same_run.1 in
        let text : shown_by ops ≡ text_in (session_of t s out) =
        shown_by-append recovery.0 (line.ops ++ h.put.ops)
        ∙ ap (λ (l : List ℕ). l ++ shown_by (line.ops ++ h.put.ops)) quiet
        ∙ shown_by-append line.ops h.put.ops
        ∙ ap (λ (l : List ℕ). l ++ shown_by h.put.ops) first
        ∙ ap (λ (l : List ℕ). opening_line t s ++ l) then in
        does.shown ∙ ap (λ (l : List ℕ). option_map (λ (before : List ℕ). before ++ l) m.shown) text

  -- a state that a run commits is the one after a prefix
  prefix_rest : (es : List Event) (last u : State) (out : List Output) (n : Told) → IsRun (setting_of t r.titles) s es last out → Contains (s ∷ commits_of out) u
      → RestWith t r section u n → RestAtPrefix t r section s es n
  prefix_rest es last u out n run (k, within, is) flashes =
      let got : slice_get (s ∷ commits_of out) k ≡ Some u = slice_get-get_or (s ∷ commits_of out) k u within ∙ ap Some is in
      let after = after_prefix (setting_of t r.titles) run k u got in
      record { prefix = after.prefix; more = after.more; events = after.events; state = u; put = after.put; run = after.run; flashes = flashes }

-- ---- the files of results

module _ (word : List ℕ) (t : TablesData) (section : Section) (s : State) (files : Files) (c d : CabinetTold) (told : c.files ≡ Some files) where
  results : (answer : Status) → answer ≡ status.Done → PutsResults word t section s c d answer → (now : Files) × (d.files ≡ Some now) × AreResults word t section s files now
  results _ done (no_results unsealed same) = (files, ap (λ (x : CabinetTold). x.files) same ∙ told, no_files unsealed refl)
  results _ done (results_put {opened} {closed} sealed put) =
      let (now, is, both) = both_are_there word t section s opened closed c d files told put in
      (now, is, both_files sealed both)
  results _ done (results_not_made sealed same) = absurd (cc)
  results _ done (results_not_put sealed stop) = absurd (cc)

-- a list of one has no other
first_of : (x y : State) (k : ℕ) → slice_get (x ∷ []) k ≡ Some y → y ≡ x
first_of x y zero got = cc
first_of x y (suc k) got = absurd (cc)

only : (x y : State) → Contains (x ∷ []) y → y ≡ x
only x y (k, within, is) = first_of x y k (slice_get-get_or (x ∷ []) k y within ∙ ap Some is)

-- ---- the endings of vota

module _ (names : Vota) (c d : CabinetTold) (m n : Told) (answer : Status) (t : TablesData) (r : RollData) (es : List Event) (section : Section) (s : State) (files : Files)
    (is : VotaOver names c d m n answer t r es section s files) where
  abbrev b : Told
  b = is.call.between

  tables : IsTables t
  tables = is.call.given.tables.valid

  -- the session that was held, and its files, of the documents that were taken
  abbrev Held : CabinetTold → Status → TablesData → RollData → List Event → Type 0
  Held after s1 x y z = (h : HasVoted x y z m b) × IsStateOf x h.load.section.voters h.last × PutsResults names.out x h.load.section h.last after d s1

  port_not_late : (p : Port) → (port_status p ≡ status.Done) ⊎ (port_status p ≡ status.Memory) ⊎ (port_status p ≡ status.Cabinet) → ⊥
  port_not_late port.Internal one = elim one [ inl is_it ↦ absurd (cc) | inr (inl is_it) ↦ absurd (cc) | inr (inr is_it) ↦ absurd (cc) ]
  port_not_late port.External one = elim one [ inl is_it ↦ absurd (cc) | inr (inl is_it) ↦ absurd (cc) | inr (inr is_it) ↦ absurd (cc) ]
  port_not_late port.Display one = elim one [ inl is_it ↦ absurd (cc) | inr (inl is_it) ↦ absurd (cc) | inr (inr is_it) ↦ absurd (cc) ]

  start_late : {X : Type 0} (e : StartError) → FailsToStart t r m b e → Tells (fault_text (start_status e)) b n
      → (start_status e ≡ status.Done) ⊎ (start_status e ≡ status.Memory) ⊎ (start_status e ≡ status.Cabinet) → ((n ≡ m) × (start_status e ≢ status.Done)) ⊎ X
  start_late starting.Memory h tells one = inl (tells ∙ h, λ done. absurd (cc))
  start_late (starting.Port port.Internal) h tells one = absurd (port_not_late port.Internal one)
  start_late (starting.Port port.External) h tells one = absurd (port_not_late port.External one)
  start_late (starting.Port port.Display) h tells one = absurd (port_not_late port.Display one)
  start_late (starting.Foreign e) h tells one = absurd (not_foreign t r s tables section m b is.start is.found is.flashes e h)
  start_late starting.NoImage h tells one = absurd (not_empty t r s tables section m b is.start is.found is.flashes h)

  module _ (last : State) (out : List Output) (run : IsRun (setting_of t r.titles) s es last out) where
    abbrev Whole : Type 0
    Whole = RestAtEnd t r section s last out m n

    -- the session was held, of these documents
    held_whole : n ≡ b → (h : HasVoted t r es m b) → IsStateOf t h.load.section.voters h.last → Whole
    held_whole same h of =
        let section_is : h.load.section ≡ section = ap (λ (l : Load). l.section) (load_is t r tables section s m is.start is.found is.flashes es last out run b h) in
        let last_is : h.last ≡ last = (same_run t r tables section s m is.start is.found is.flashes es last out run b h).0 in
        record {
          valid = subst (λ (y : State). IsStateOf t section.voters y) last_is (subst (λ (x : Section). IsStateOf t x.voters h.last) section_is of);
          flashes = subst (RestWith t r section last) (sym same) (end_rest t r tables section s m is.start is.found is.flashes es last out run b h);
          shown = ap (λ (x : Told). x.shown) same ∙ end_shown t r tables section s m is.start is.found is.flashes es last out run b h;
        }

    -- and its files are those of this section and this state
    puts_here : (h : HasVoted t r es m b) (after : CabinetTold) (s1 : Status) → PutsResults names.out t h.load.section h.last after d s1 → PutsResults names.out t section last after d s1
    puts_here h after s1 put =
        let section_is : h.load.section ≡ section = ap (λ (l : Load). l.section) (load_is t r tables section s m is.start is.found is.flashes es last out run b h) in
        let last_is : h.last ≡ last = (same_run t r tables section s m is.start is.found is.flashes es last out run b h).0 in
        subst (λ (x : Section). PutsResults names.out t x last after d s1) section_is (subst (λ (y : State). PutsResults names.out t h.load.section y after d s1) last_is put)

    -- the whole session, and what was done with its files; or no call of the machine, or a fault of a port
    abbrev Late : Status → Type 0
    Late s1 = Whole × (after : CabinetTold) × HasTaken 3 status.Done c after × PutsResults names.out t section last after d s1

    late_of : (s1 : Status) → VotaEnds names c d m b s1 → Tells (fault_text s1) b n → (s1 ≡ status.Done) ⊎ (s1 ≡ status.Memory) ⊎ (s1 ≡ status.Cabinet)
        → ((n ≡ m) × (s1 ≢ status.Done)) ⊎ Late s1
    late_of s1 (refused why taken un) tells one =
        absurd (refused_or_given files names s1 t r es (subst (λ (o : Option Files). IsRefused o names s1) is.call.cabinet why) is.call.given)
    late_of _ (no_memory taken un) tells one = inl (tells ∙ un, λ done. absurd (cc))
    late_of _ (no_cabinet taken un) tells one = inl (tells ∙ un, λ done. absurd (cc))
    late_of _ (not_started {t = u} {r = q} {es = fs} e also taken h) tells one = start_late e (of_given files names c is.call.cabinet t u r q es fs (λ x y z. FailsToStart x y m b e) is.call.given also h) tells one
    late_of _ (cut p also taken h) tells one = absurd (port_not_late p one)
    late_of s1 (session_held {t = u} {r = q} {es = fs} after also taken h one_of state put) tells one =
        let (held, of, puts) = of_given files names c is.call.cabinet t u r q es fs (Held after s1) is.call.given also (h, state, put) in
        inr (held_whole (results_silent _ _ _ _ _ _ _ b n put tells) held of, after, taken, puts_here held after s1 puts)

  abbrev Rests : Type 0
  Rests = (n ≡ m) ⊎ RestAtPrefix t r section s es n

  -- the display failed in the opening line
  opening_rests : n ≡ b → IsCutAtOpening t r m b → Rests
  opening_rests same h =
      let first_is = same_first t r tables section s m is.start is.found is.flashes h.load h.state h.between h.recovered in
      let load_here = same_load t r tables section s m is.start is.found is.flashes h.load h.state h.between h.recovered in
      let (u, one, rest) = h.stopped.rest refl in
      let one_of : Contains (s ∷ commits_of []) u = subst (λ (x : State). Contains (x ∷ []) u) first_is one in
      let here : RestWith t r section u b =
      rest_with t r tables section s m is.start is.found is.flashes (h.recovered.ran.0 ++ h.stopped.ops) b u
      (does-append h.recovered.ran.0 h.stopped.ops m h.between b h.recovered.ran.1 h.stopped.does) (subst (λ (l : Load). ForSome b.flashes (AreAtRest t l u)) load_here rest) in
      let same_state : u ≡ s = only s u one_of in
      inr (record {
        prefix = [];
        more = es;
        events = refl;
        state = s;
        put = [];
        run = ends;
        flashes = subst (RestWith t r section s) (sym same) (subst (λ (y : State). RestWith t r section y b) same_state here);
      })

  cut_rests : n ≡ b → HasVotedTo t r es port.Display m b → Rests
  cut_rests same h =
      let first_is = same_first t r tables section s m is.start is.found is.flashes h.load h.first h.opens.between h.opens.recovered in
      let load_here = same_load t r tables section s m is.start is.found is.flashes h.load h.first h.opens.between h.opens.recovered in
      let (u, one, rest) = h.stopped.rest refl in
      let one_of : Contains (s ∷ commits_of h.out) u =
      subst (λ (l : List State). Contains (s ∷ l) u) (pieces_commit t h.out) (subst (λ (x : State). Contains (x ∷ commits_in (session_pieces t h.out)) u) first_is one) in
      let recovered = h.opens.recovered.ran in
      let line = h.opens.shown in
      let here : RestWith t r section u b =
      rest_with t r tables section s m is.start is.found is.flashes (recovered.0 ++ (line.ops ++ h.stopped.ops)) b u
      (does-append recovered.0 (line.ops ++ h.stopped.ops) m h.opens.between b recovered.1 (does-append line.ops h.stopped.ops h.opens.between h.between b line.does h.stopped.does))
      (subst (λ (l : Load). ForSome b.flashes (AreAtRest t l u)) load_here rest) in
      inr (prefix_rest t r tables section s m is.start is.found is.flashes es h.last u h.out n (subst (λ (x : State). IsRun (setting_of t r.titles) x es h.last h.out) first_is h.run) one_of
      (subst (RestWith t r section u) (sym same) here))

  held_rests : n ≡ b → HasVoted t r es m b → Rests
  held_rests same h =
      let run = run_exists (setting_of t r.titles) s es (tables_setting t r.titles tables) in
      inr (record {
        prefix = es;
        more = [];
        events = sym (append-nil es);
        state = run.0;
        put = run.1;
        run = run.2;
        flashes = subst (RestWith t r section run.0) (sym same) (end_rest t r tables section s m is.start is.found is.flashes es run.0 run.1 run.2 b h);
      })

  start_rests : (e : StartError) → FailsToStart t r m b e → Tells (fault_text (start_status e)) b n → start_status e ≢ status.InternalFlash → start_status e ≢ status.ExternalFlash → Rests
  start_rests starting.Memory h tells internal external = inl (tells ∙ h)
  start_rests (starting.Port port.Internal) h tells internal external = absurd (internal refl)
  start_rests (starting.Port port.External) h tells internal external = absurd (external refl)
  start_rests (starting.Port port.Display) h tells internal external = opening_rests tells h
  start_rests (starting.Foreign e) h tells internal external = absurd (not_foreign t r s tables section m b is.start is.found is.flashes e h)
  start_rests starting.NoImage h tells internal external = absurd (not_empty t r s tables section m b is.start is.found is.flashes h)

  port_rests : (p : Port) → HasVotedTo t r es p m b → Tells (fault_text (port_status p)) b n → port_status p ≢ status.InternalFlash → port_status p ≢ status.ExternalFlash → Rests
  port_rests port.Internal h tells internal external = absurd (internal refl)
  port_rests port.External h tells internal external = absurd (external refl)
  port_rests port.Display h tells internal external = cut_rests tells h

  vota_rests : (answer : Status) → VotaEnds names c d m b answer → Tells (fault_text answer) b n → answer ≢ status.InternalFlash → answer ≢ status.ExternalFlash → Rests
  vota_rests answer (refused why taken un) tells internal external =
      absurd (refused_or_given files names answer t r es (subst (λ (o : Option Files). IsRefused o names answer) is.call.cabinet why) is.call.given)
  vota_rests _ (no_memory taken un) tells internal external = inl (tells ∙ un)
  vota_rests _ (no_cabinet taken un) tells internal external = inl (tells ∙ un)
  vota_rests _ (not_started {t = u} {r = q} {es = fs} e also taken h) tells internal external =
      start_rests e (of_given files names c is.call.cabinet t u r q es fs (λ x y z. FailsToStart x y m b e) is.call.given also h) tells internal external
  vota_rests _ (cut {t = u} {r = q} {es = fs} p also taken h) tells internal external =
      port_rests p (of_given files names c is.call.cabinet t u r q es fs (λ x y z. HasVotedTo x y z p m b) is.call.given also h) tells internal external
  vota_rests answer (session_held {t = u} {r = q} {es = fs} after also taken h one_of state put) tells internal external =
      held_rests (results_silent _ _ _ _ _ _ _ b n put tells) (of_given files names c is.call.cabinet t u r q es fs (λ x y z. HasVoted x y z m b) is.call.given also h)

pub done_is_whole : DoneIsWhole
done_is_whole names c d m n t r es section s files is last out run =
    elim (late_of names c d m n status.Done t r es section s files is last out run status.Done is.call.ends is.call.told (inl refl)) [
      | inl never ↦ absurd (never.1 refl)
      | inr late ↦ let (now, told, are) = results names.out t section last files late.1 d (late.2.files ∙ is.call.cabinet) status.Done refl late.3 in (late.0, now, told, are)
    ]

pub all_are_counted : AllAreCounted
all_are_counted names c d m n t r es section s files is last out run =
    (run_counts t r.titles (found_roll t r section s is.start is.found) run, (done_is_whole names c d m n t r es section s files is last out run).0.flashes)

puts_sealed : (word : List ℕ) (t : TablesData) (section : Section) (s : State) (c d : CabinetTold) (answer : Status) → answer ≢ status.Done → PutsResults word t section s c d answer
    → (opened closed : ℕ) × (s.phase ≡ phase.Sealed opened closed)
puts_sealed word t section s c d _ late (no_results unsealed same) = absurd (late refl)
puts_sealed word t section s c d _ late (results_put sealed put) = absurd (late refl)
puts_sealed word t section s c d _ late (results_not_made {opened} {closed} sealed same) = (opened, closed, sealed)
puts_sealed word t section s c d _ late (results_not_put {opened} {closed} sealed stop) = (opened, closed, sealed)

pub late_fault_is_sealed : LateFaultIsSealed
late_fault_is_sealed names c d m n answer t r es section s files is one last out run =
    elim (late_of names c d m n answer t r es section s files is last out run answer is.call.ends is.call.told (inr one)) [
      | inl same ↦ inl same.0
      | inr late ↦ let (opened, closed, sealed) = puts_sealed names.out t section last late.1 d answer not_done late.3 in inr (late.0, opened, closed, sealed)
    ]
  where
    not_done : answer ≢ status.Done
    not_done done = elim one [ inl memory ↦ absurd (cc) | inr cabinet ↦ absurd (cc) ]

pub rests_where_no_flash_failed : RestsWhereNoFlashFailed
rests_where_no_flash_failed names c d m n answer t r es section s files is internal external =
    vota_rests names c d m n answer t r es section s files is answer is.call.ends is.call.told internal external

-- ---- no order of voting

pub same_at_rest : IsKnownByVotes → SameAtRest
same_at_rest known out t load s u of_s of_u in_phase came counts =
    let same : s ≡ u = (known t load.section.voters s u of_s of_u in_phase came counts).0 in
    ((λ d. ap (λ (x : State). rest t load d x) same), (λ opened closed. ap (λ (x : State). result_files out t load.section x opened closed) same))

votes_are_sums : (panel : ℕ) (c : Choice) (lines : List BallotLine) (ballots : List Ballot)
    → votes_in_ballots panel c lines ballots ≡ sum_by (λ (b : Ballot). votes_for panel c lines b.choices) ballots
votes_are_sums panel c lines [] = refl
votes_are_sums panel c lines (b ∷ ballots) =
    ap (λ (k : ℕ). votes_for panel c lines b.choices + k) (votes_are_sums panel c lines ballots) ∙ sym (sum_by-cons (λ (x : Ballot). votes_for panel c lines x.choices) b ballots)

-- who is among the voters of these ballots has a ballot
voter_has : (place : ℕ) (ballots : List Ballot) → Contains (map (λ (b : Ballot). b.place) ballots) place → (b : Ballot) × Contains ballots b × (b.place ≡ place)
voter_has place [] (k, within, is) = absurd (omega (arith, within))
voter_has place (b ∷ ballots) (zero, within, is) = (b, (0, omega arith, refl), is)
voter_has place (b ∷ ballots) (suc k, within, is) =
    let (x, has, same) = voter_has place ballots (k, omega (arith, within), is) in
    (x, Contains-append_right (b ∷ []) ballots x has, same)

came_too : (lines : List BallotLine) (s u w : State) (a b : List Ballot) → HasAlso lines s a u → HasAlso lines s b w → IsPermutation a b
    → (place : ℕ) → has_come u.came place ≡ true → has_come w.came place ≡ true
came_too lines s u w a b first second same place come = elim (first.nobody_else place come) [
  | inl before ↦ second.stay place before
  | inr among ↦
      let has = voter_has place a among in
      let there : Contains b has.0 = Contains-permutation a b has.0 same has.1 in
      let is = of_member (λ (x : Ballot). (has_come s.came x.place ≡ false) × (has_come w.came x.place ≡ true)) b has.0 second.come there in
      subst (λ (k : ℕ). has_come w.came k ≡ true) has.2 is.1
]

both_true : (x y : Bool) → (x ≡ true → y ≡ true) → (y ≡ true → x ≡ true) → x ≡ y
both_true true y f g = sym (f refl)
both_true false true f g = g refl
both_true false false f g = refl

-- whose ballots are the same in another order are one state
one_state_left : IsKnownByVotes → (t : TablesData) (voters : ℕ) (s u w : State) (a b : List Ballot) → IsStateOf t voters u → IsStateOf t voters w → HasAlso (ballot_lines t) s a u → HasAlso (ballot_lines t) s b w
    → IsPermutation a b → u.phase ≡ w.phase → u ≡ w
one_state_left known t voters s u w a b of_u of_w first second same in_phase =
    (known t voters u w of_u of_w in_phase
    (λ place. both_true (has_come u.came place) (has_come w.came place) (came_too (ballot_lines t) s u w a b first second same place)
    (came_too (ballot_lines t) s w u b a second first (IsPermutation-sym a b same) place))
    (λ panel c lt.
    let within : panel < length s.bags = subst (λ (k : ℕ). panel < k) (sym (panels_of t voters u of_u) ∙ first.panels) lt in
    first.votes panel c within
    ∙ ap (λ (k : ℕ). count_of c (bag_at s.bags panel) + k)
    (votes_are_sums panel c (ballot_lines t) a ∙ sym (sum_by-IsPermutation (λ (x : Ballot). votes_for panel c (ballot_lines t) x.choices) a b same) ∙ sym (votes_are_sums panel c (ballot_lines t) b))
    ∙ sym (second.votes panel c within))).0

pub same_in_any_order : IsKnownByVotes → SameInAnyOrder
same_in_any_order known names t r section s c d m n es files one other c1 d1 m1 n1 fs files1 two last out run last1 out1 run1 permuted phase_same = (
  λ a b first second e. content_is whole.0.flashes a first e ∙ ap (λ (x : State). rest t (load_of t r section) e x) same ∙ sym (content_is whole1.0.flashes b second e),
  λ word opened closed sealed. files_same word whole.1 whole.2 whole.3 whole1.1 whole1.2 whole1.3 opened closed sealed,
)
  where
    -- the content of flashes that are told at rest
    content_is : {u : State} {k : Told} → RestWith t r section u k → (x : Flashes) → k.flashes ≡ Some x → (e : Dev) → (flash_of e x).content ≡ rest t (load_of t r section) e u
    content_is {u = u} {k = k} is x told e =
        let here : is.now ≡ x = (let both : Some is.now ≡ Some x = sym is.told ∙ told in cc) in
        subst (λ (y : Flashes). (flash_of e y).content ≡ rest t (load_of t r section) e u) here (is.rest.content e)

    roll : length s.came ≡ length r.titles
    roll = found_roll t r section s one.start one.found

    whole : RestAtEnd t r section s last out m n × (now : Files) × (d.files ≡ Some now) × AreResults names.out t section last files now
    whole = done_is_whole names c d m n t r es section s files one last out run

    whole1 : RestAtEnd t r section s last1 out1 m1 n1 × (now : Files) × (d1.files ≡ Some now) × AreResults other.out t section last1 files1 now
    whole1 = done_is_whole other c1 d1 m1 n1 t r fs section s files1 two last1 out1 run1

    same : last ≡ last1
    same =
        one_state_left known t section.voters s last last1 (ballots_of run) (ballots_of run1) whole.0.valid whole1.0.valid (run_counts t r.titles roll run) (run_counts t r.titles roll run1) permuted phase_same

    -- the files of one poll
    same_file : (name bytes : List ℕ) (now now1 : Files) → Holds name bytes now → Holds name bytes now1 → d.files ≡ Some now → d1.files ≡ Some now1 → HaveSameFile name d d1
    same_file name bytes now now1 held held1 told told1 a b first second =
        let one_is : now ≡ a = (let both : Some now ≡ Some a = sym told ∙ first in cc) in
        let other_is : now1 ≡ b = (let both : Some now1 ≡ Some b = sym told1 ∙ second in cc) in
        ap (file_at name) (sym one_is) ∙ held ∙ sym held1 ∙ ap (file_at name) other_is

    moments : (a b o e : ℕ) → phase.Sealed a b ≡ phase.Sealed o e → (a ≡ o) × (b ≡ e)
    moments a b o e is = (cc, cc)

    files_same : other.out ≡ names.out → (now : Files) → d.files ≡ Some now → AreResults names.out t section last files now → (now1 : Files) → d1.files ≡ Some now1 → AreResults other.out t section last1 files1 now1
        → (opened closed : ℕ) → last.phase ≡ phase.Sealed opened closed
        → HaveSameFile (report_name names.out) d d1 × HaveSameFile (record_name names.out) d d1
    files_same word now told (no_files unsealed is) now1 told1 are opened closed sealed = absurd (unsealed opened closed sealed)
    files_same word now told (both_files at both) now1 told1 (no_files unsealed is) opened closed sealed = absurd (unsealed opened closed (sym phase_same ∙ sealed))
    files_same word now told (both_files {opened = a} {closed = b} at both) now1 told1 (both_files {opened = o} {closed = e} at1 both1) opened closed sealed =
        let same_moments = moments a b o e (sym at ∙ phase_same ∙ at1) in
        let here : HasBoth names.out t section last a b files1 now1 =
        subst (λ (w : List ℕ). HasBoth w t section last a b files1 now1) word
        (subst (λ (x : State). HasBoth other.out t section x a b files1 now1) (sym same)
        (subst (λ (k : ℕ). HasBoth other.out t section last1 k b files1 now1) (sym same_moments.0)
        (subst (λ (k : ℕ). HasBoth other.out t section last1 o k files1 now1) (sym same_moments.1) both1))) in (
          same_file (report_name names.out) (report_file t section last a b) now now1 both.report here.report told told1,
          same_file (record_name names.out) (record_text t section last.bags) now now1 both.votes here.votes told told1,
        )

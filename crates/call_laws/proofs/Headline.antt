-- However a call of vota ends, what a power cut leaves keeps its votes
use Rattle.std.proofs.Common.{◌≡◌, ◌⊎◌, inl, inr, ℕ, List, [], ◌∷◌, ◌++◌, Option, Some, length, sym, ap, subst, ◌∙◌}
use Rattle.std.specs.List.{concat}
use Rattle.std.proofs.lemmas.List.{append-nil}
use Rattle.urna_outside.specs.Cabinet.{CabinetTold, Files}
use Rattle.urna_outside.specs.Flash.{Flashes, Op, after, shown_by}
use Rattle.urna_outside.specs.Stop.{AtEachStop, Left}
use Rattle.urna_outside.specs.Traced.{IsTraced}
use Rattle.urna_outside.specs.Told.{Told, Does, Runs}
use Rattle.urna_outside.specs.declared.device.Dev.{Dev}
use Rattle.urna_outside.specs.declared.device.Dev.TheVariants as dev
use Rattle.urna_outside.specs.declared.device.Port.{Port}
use Rattle.urna_outside.specs.declared.device.Port.TheVariants as port
use Rattle.urna_outside.proofs.Courses.{in_shows, stops_silent}
use Rattle.urna_outside.proofs.Doing.{does-append, does_nothing, shown_by-append}
use Rattle.urna_outside.proofs.Keeping.{synced_clean}
use Rattle.urna_outside.proofs.Stops.{stops_none}
use Rattle.urna_outside.proofs.Traced.{traced_is}
use Rattle.election_tables.specs.Roll.{RollData}
use Rattle.election_tables.specs.TablesData.{IsTables, TablesData}
use Rattle.election_tables.specs.declared.tables.sections.Section.{Section}
use Rattle.key_script.specs.Script.{events_of}
use Rattle.key_script.specs.declared.keys.Event.{Event}
use Rattle.image_codec.specs.State.{State}
use Rattle.flash_store.specs.Syncs.{FromSyncs, IsUntouched, both_synced}
use Rattle.state_store.specs.Held.{KeepFrames, HeldByBoth, poll}
use Rattle.state_store.specs.Calls.{AreFound, Recovers}
use Rattle.flash_store.specs.Held.{bodies_of_both}
use Rattle.state_store.specs.Load.{IsSectionOf, load_of}
use Rattle.state_store.specs.Played.{Survives}
use Rattle.flash_store.specs.Pieces.{lines_in, text_in}
use Rattle.state_store.specs.declared.load.Load.{Load}
use Rattle.state_store.proofs.Going.{found_once, loaded_once, loaded_or_foreign}
use Rattle.flash_store.proofs.Holding.{hold_or_none}
use Rattle.flash_store.proofs.Syncing.{behind_is, both_clean, frames_before, not_done, not_within}
use Rattle.flash_store.proofs.Resting.{clean_image, frames_same}
use Rattle.flash_store.proofs.ShowStops.{text_of_lines}
use Rattle.station.specs.Cast.{ballots_of}
use Rattle.station.specs.Output.{Output}
use Rattle.station.specs.Run.{IsRun}
use Rattle.station.specs.Setting.{setting_of}
use Rattle.station.specs.Start.{FailsToStart, IsCutAtOpening, IsRecovered, opening, opening_line}
use Rattle.station.specs.Text.{session_pieces}
use Rattle.station.specs.declared.station.StartError.{StartError}
use Rattle.station.specs.declared.station.StartError.TheVariants as starting
use Rattle.station.proofs.Performing.{tables_setting}
use Rattle.station.proofs.RunLaws.{run_exists, run_unique}
use Rattle.urna_commands.specs.Command.{Vota}
use Rattle.urna_commands.specs.Errors.{start_status}
use Rattle.command_parts.specs.FaultLines.{Tells}
use Rattle.urna_commands.specs.FaultLines.{fault_text}
use Rattle.call_laws.specs.Headline.{KeepsVotes, KeysHaveRun, VotesAreKept, session_of}
use Rattle.urna_commands.specs.Putting.{PutsResults, no_results, results_not_made, results_not_put, results_put}
use Rattle.urna_commands.specs.Vota.{HasVoted, HasVotedTo, IsGiven, VotaEnds, cut, session_held, no_cabinet, no_memory, not_started, refused, IsRefused}
use Rattle.command_parts.specs.declared.error.Doc.TheVariants as doc
use Rattle.urna_commands.specs.declared.status.Status.{Status}
use Rattle.call_laws.proofs.Completion.{port_silent}
use Rattle.call_laws.proofs.Keeping.{found_roll, kept_silent, safe_stops, session_kept}
use Rattle.command_parts.proofs.Once.{same_bytes, same_roll, same_tables}
use Rattle.urna_commands.proofs.Once.{refused_or_given}
use Rattle.image_codec.specs.Layout.{body_size}

-- ---- what is recovered, over flashes that hold a poll

module _ (t : TablesData) (r : RollData) (tables : IsTables t) (section : Section) (s : State) (m : Told) (start : Flashes) (found : AreFound t r section s start) (flashes : m.flashes ≡ Some start) where
  pub same_first : (load : Load) (first : State) (b : Told) → IsRecovered t r load first m b → first ≡ s
  same_first load first b is = found_once t r section s first start tables found (is.ran.2.2.stops start flashes).0.held

  pub same_load : (load : Load) (first : State) (b : Told) → IsRecovered t r load first m b → load ≡ load_of t r section
  same_load load first b is =
      is.same
      ∙ ap (λ (x : Section). load_of t r x)
      (loaded_once t r load.section section start.internal.content start.external.content tables (is.ran.2.2.stops start flashes).0.loaded found.loaded)

-- ---- a session in which the opening line began, and what else there is behind the two syncs

module _ (t : TablesData) (r : RollData) (s last : State) (es : List Event) (out : List Output) (run : IsRun (setting_of t r.titles) s es last out) (tables : IsTables t)
    (section : Section) (m n : Told) (start : Flashes) (rest : List Op) (found : AreFound t r section s start) (traced : IsTraced m n start (both_synced ++ rest)) where
  abbrev Kept : Left → Type 0
  Kept left = KeepsVotes t r s start es out (ballots_of run) left

  abbrev AreKept : Type 0
  AreKept = AtEachStop (after both_synced start) rest Kept

  roll : length s.came ≡ length r.titles
  roll = found_roll t r section s start found

  -- the state of a recovery is that which the flashes hold
  found_here : (other : Section) (first : State) → AreFound t r other first start → (first ≡ s) × (other.voters ≡ length r.titles)
  found_here other first also = (found_once t r section s first start tables found also.held, also.loaded.section_fits.voters)

  recovered_here : (load : Load) (first : State) (b : Told) → IsRecovered t r load first m b → (first ≡ s) × (load.section.voters ≡ length r.titles)
  recovered_here load first b is = found_here load.section first (is.ran.2.2.stops start traced.flashes).0

  -- a session that was held or cut short
  session_stops : (load : Load) (first u : State) (b : Told) (put : List Output) → IsRecovered t r load first m b → IsRun (setting_of t r.titles) first es u put
      → AtEachStop (after both_synced start) rest (Survives t load first (opening t first ++ session_pieces t put) start) → AreKept
  session_stops load first u b put recovered ran survives ops stop left is =
      let here = recovered_here load first b recovered in
      let again : IsRun (setting_of t r.titles) s es u put = subst (λ (x : State). IsRun (setting_of t r.titles) x es u put) here.0 ran in
      let same : put ≡ out = (run_unique (setting_of t r.titles) s u last es put out (tables_setting t r.titles tables) again run).1 in
      session_kept t r s last es out run roll start left load here.1
      (subst (λ (o : List Output). Survives t load s (opening t s ++ session_pieces t o) start left) same
      (subst (λ (x : State). Survives t load x (opening t x ++ session_pieces t put) start left) here.0 (survives ops stop left is)))

  pub voted_kept : HasVoted t r es m n → AreKept
  voted_kept voted =
      session_stops voted.load voted.first voted.last voted.opens.between voted.out voted.opens.recovered voted.run
      (safe_stops m n start rest traced t voted.load voted.first (opening t voted.first ++ session_pieces t voted.out) voted.survives)

  pub cut_kept : (p : Port) → HasVotedTo t r es p m n → AreKept
  cut_kept p h =
      session_stops h.load h.first h.last h.opens.between h.out h.opens.recovered h.run
      (safe_stops m n start rest traced t h.load h.first (opening t h.first ++ session_pieces t h.out) h.survives)

  -- where it was held, it is the session of this run
  abbrev ops_of : HasVoted t r es m n → List Op
  ops_of voted = voted.opens.recovered.ran.0 ++ (voted.opens.shown.ops ++ voted.put.ops)

  voted_does : (voted : HasVoted t r es m n) → Does (ops_of voted) m n
  voted_does voted =
      does-append voted.opens.recovered.ran.0 (voted.opens.shown.ops ++ voted.put.ops) m voted.opens.between n voted.opens.recovered.ran.1
      (does-append voted.opens.shown.ops voted.put.ops voted.opens.between voted.between n voted.opens.shown.does voted.put.does)

  voted_same : (voted : HasVoted t r es m n) → (voted.first ≡ s) × (voted.out ≡ out)
  voted_same voted =
      let here = recovered_here voted.load voted.first voted.opens.between voted.opens.recovered in
      let again : IsRun (setting_of t r.titles) s es voted.last voted.out = subst (λ (x : State). IsRun (setting_of t r.titles) x es voted.last voted.out) here.0 voted.run in
      (here.0, (run_unique (setting_of t r.titles) s voted.last last es voted.out out (tables_setting t r.titles tables) again run).1)

  -- whose whole text was shown
  pub voted_shown : HasVoted t r es m n → shown_by rest ≡ text_in (session_of t s out)
  voted_shown voted =
      let recovery = voted.opens.recovered.ran in
      let line = voted.opens.shown in
      let same = voted_same voted in
      let trail : ops_of voted ≡ both_synced ++ rest = traced_is m n start (both_synced ++ rest) (ops_of voted) traced (voted_does voted) in
      let quiet : shown_by recovery.0 ≡ [] = ap shown_by recovery.2.1 ∙ in_shows _ recovery.2.0 recovery.2.2.slots.within in
      let first : shown_by line.ops ≡ opening_line t s =
      text_of_lines line.ops (opening_line t voted.first ∷ []) line.shown ∙ append-nil (opening_line t voted.first) ∙ ap (opening_line t) same.0 in
      let then : shown_by voted.put.ops ≡ concat (lines_in (session_pieces t out)) =
      text_of_lines voted.put.ops (lines_in (session_pieces t voted.out)) voted.put.shown ∙ ap (λ (o : List Output). concat (lines_in (session_pieces t o))) same.1 in
      sym (ap shown_by trail) ∙ shown_by-append recovery.0 (line.ops ++ voted.put.ops)
      ∙ ap (λ (l : List ℕ). l ++ shown_by (line.ops ++ voted.put.ops)) quiet
      ∙ shown_by-append line.ops voted.put.ops
      ∙ ap (λ (l : List ℕ). l ++ shown_by voted.put.ops) first
      ∙ ap (λ (l : List ℕ). opening_line t s ++ l) then

  pub opening_cut_kept : IsCutAtOpening t r m n → AreKept
  opening_cut_kept h ops stop left is =
      let here = recovered_here h.load h.state h.between h.recovered in
      let pieces = session_pieces t out in
      let survives = safe_stops m n start rest traced t h.load h.state (opening t h.state ++ pieces) (h.survives pieces) ops stop left is in
      session_kept t r s last es out run roll start left h.load here.1 (subst (λ (x : State). Survives t h.load x (opening t x ++ pieces) start left) here.0 survives)

  silent : (left : Left) → left.shown ≡ [] → HeldByBoth t (length r.titles) left.internal left.external s → KeepFrames start left → Kept left
  silent left none held frames = kept_silent t r s last es out run roll start left none held frames

  -- nothing was done behind the syncs
  nothing_kept : (behind : List Op) → behind ≡ [] → AtEachStop (after both_synced start) behind Kept
  nothing_kept behind none =
      subst (λ (l : List Op). AtEachStop (after both_synced start) l Kept) (sym none) (stops_none (after both_synced start) Kept (λ left is.
      let internal = clean_image (after both_synced start).internal left.internal (synced_clean start.internal) is.internal in
      let external = clean_image (after both_synced start).external left.external (synced_clean start.external) is.external in
      silent left is.shown (subst (λ (x : List ℕ). HeldByBoth t (length r.titles) x left.external s) (sym internal)
      (subst (λ (x : List ℕ). HeldByBoth t (length r.titles) start.internal.content x s) (sym external) found.held))
      (frames_before body_size start left (frames_same body_size (after both_synced start) left (both_clean start) is.internal is.external))))

  -- a recovery that a flash cut short
  recovering_kept : (behind : List Op) (other : Section) (first : State) → Recovers t r other first m behind → AtEachStop (after both_synced start) behind Kept
  recovering_kept behind other first recovers ops stop left is =
      let at = recovers.stops start traced.flashes in
      let here = found_here other first at.0 in
      let held = (at.1 ops stop left is).0 in
      silent left (stops_silent _ (after both_synced start) behind recovers.slots.within ops stop left is)
      (subst (λ (x : State). HeldByBoth t (length r.titles) left.internal left.external x) here.0 held) (at.1 ops stop left is).1

  flash_kept : Runs (FromSyncs (λ ops. (ops ≡ []) ⊎ ((other : Section) × (first : State) × IsSectionOf t r other × Recovers t r other first m ops))) m n → AreKept
  flash_kept (ops, does, inl (inl none)) = absurd (not_done m n start rest traced (subst (λ (l : List Op). Does l m n) none does))
  flash_kept (ops, does, inl (inr one)) = absurd (not_within m n start rest traced (subst (λ (l : List Op). Does l m n) one does))
  flash_kept (ops, does, inr (behind, is, inl none)) =
      subst (λ (l : List Op). AtEachStop (after both_synced start) l Kept) (behind_is m n start rest traced ops behind does is) (nothing_kept behind none)
  flash_kept (ops, does, inr (behind, is, inr (other, first, fits, recovers))) =
      subst (λ (l : List Op). AtEachStop (after both_synced start) l Kept) (behind_is m n start rest traced ops behind does is) (recovering_kept behind other first recovers)

  pub untouched_kept : IsUntouched m n → AreKept
  untouched_kept same = absurd (not_done m n start rest traced (subst (Does [] m) (sym same) (does_nothing m)))

  -- a station that didn't start
  pub start_cut_kept : (p : Port) → FailsToStart t r m n (starting.Port p) → AreKept
  start_cut_kept port.Internal h = flash_kept h.1
  start_cut_kept port.External h = flash_kept h.1
  start_cut_kept port.Display h = opening_cut_kept h

-- where a poll is found, neither flash is foreign, and a slot stands
module _ (t : TablesData) (r : RollData) (s : State) (tables : IsTables t) (section : Section) (m b : Told) (start : Flashes) (found : AreFound t r section s start) (flashes : m.flashes ≡ Some start) where
  pub not_foreign : (d : Dev) → FailsToStart t r m b (starting.Foreign d) → ⊥
  not_foreign dev.Internal h =
      loaded_or_foreign t r section dev.Internal start.internal.content start.external.content tables found.loaded (h.1 start flashes)
  not_foreign dev.External h =
      loaded_or_foreign t r section dev.External start.internal.content start.external.content tables found.loaded (h.1 start flashes)

  pub not_empty : FailsToStart t r m b starting.NoImage → ⊥
  not_empty h =
      hold_or_none (poll t (length r.titles)) (bodies_of_both body_size start.internal.content start.external.content) s (h.1.2 start flashes).1 found.held

-- ---- what was given

pub given_once : (files : Files) (names : Vota) (t u : TablesData) (r q : RollData) (es fs : List Event) → IsGiven (Some files) names t r es → IsGiven (Some files) names u q fs
    → (t ≡ u) × (r ≡ q) × (es ≡ fs)
given_once files names t u r q es fs a b =
    let three = same_bytes files doc.Keys names.keys a.keys.bytes b.keys.bytes a.keys.taken b.keys.taken in
    let first : events_of b.keys.bytes ≡ Some es = ap events_of (sym three) ∙ a.keys.read in
    let second = b.keys.read in
    let both : Some es ≡ Some fs = sym first ∙ second in
    let keys : es ≡ fs = cc in
    (same_tables files names.tables t u a.tables b.tables, same_roll files names.roll r q a.roll b.roll, keys)

-- what is so of the documents that were taken
pub of_given : (files : Files) (names : Vota) (c : CabinetTold) → c.files ≡ Some files → (t u : TablesData) (r q : RollData) (es fs : List Event)
    (P : TablesData → RollData → List Event → Type 0) → IsGiven (Some files) names t r es → IsGiven c.files names u q fs → P u q fs → P t r es
of_given files names c told t u r q es fs P given also h =
    let one = given_once files names u t q r fs es (subst (λ (o : Option Files). IsGiven o names u q fs) told also) given in
    subst (λ (x : TablesData). P x r es) one.0 (subst (λ (x : RollData). P u x es) one.1 (subst (λ (x : List Event). P u q x) one.2 h))

-- ---- the headline

-- where a status has no fault line, nothing is done after the command
pub results_silent : (word : List ℕ) (t : TablesData) (section : Section) (s : State) (c d : CabinetTold) (answer : Status) (b n : Told)
    → PutsResults word t section s c d answer → Tells (fault_text answer) b n → n ≡ b
results_silent word t section s c d _ b n (no_results unsealed same) tells = tells
results_silent word t section s c d _ b n (results_put sealed put) tells = tells
results_silent word t section s c d _ b n (results_not_made sealed same) tells = tells
results_silent word t section s c d _ b n (results_not_put sealed stop) tells = tells

module _ (names : Vota) (files : Files) (c d : CabinetTold) (told : c.files ≡ Some files) (t : TablesData) (r : RollData) (es : List Event) (given : IsGiven (Some files) names t r es)
    (section : Section) (s last : State) (out : List Output) (run : IsRun (setting_of t r.titles) s es last out) (m b n : Told) (start : Flashes) (rest : List Op)
    (found : AreFound t r section s start) (traced : IsTraced m n start (both_synced ++ rest)) where
  abbrev All : Type 0
  All = AtEachStop (after both_synced start) rest (KeepsVotes t r s start es out (ballots_of run))

  tables : IsTables t
  tables = given.tables.valid

  -- what is so of what the command did, where nothing was done after it
  at_end : (P : Told → Type 0) → n ≡ b → P b → P n
  at_end P same h = subst P (sym same) h

  untouched : IsUntouched m b → n ≡ b → All
  untouched h same = untouched_kept t r s last es out run tables section m n start rest found traced (at_end (λ x. IsUntouched m x) same h)

  not_begun : (e : StartError) → FailsToStart t r m b e → Tells (fault_text (start_status e)) b n → All
  not_begun starting.Memory h tells = untouched h tells
  not_begun (starting.Port p) h tells =
      start_cut_kept t r s last es out run tables section m n start rest found traced p
      (at_end (λ x. FailsToStart t r m x (starting.Port p)) (port_silent p b n tells) h)
  not_begun (starting.Foreign e) h tells = absurd (not_foreign t r s tables section m b start found traced.flashes e h)
  not_begun starting.NoImage h tells = absurd (not_empty t r s tables section m b start found traced.flashes h)

  pub vota_kept : (answer : Status) → VotaEnds names c d m b answer → Tells (fault_text answer) b n → All
  vota_kept answer (refused bad taken un) tells = absurd (refused_or_given files names answer t r es (subst (λ (o : Option Files). IsRefused o names answer) told bad) given)
  vota_kept _ (no_memory taken un) tells = untouched un tells
  vota_kept _ (no_cabinet taken un) tells = untouched un tells
  vota_kept _ (not_started {t = u} {r = q} {es = fs} e also taken h) tells =
      not_begun e (of_given files names c told t u r q es fs (λ x y z. FailsToStart x y m b e) given also h) tells
  vota_kept _ (cut {t = u} {r = q} {es = fs} p also taken h) tells =
      cut_kept t r s last es out run tables section m n start rest found traced p
      (at_end (λ x. HasVotedTo t r es p m x) (port_silent p b n tells) (of_given files names c told t u r q es fs (λ x y z. HasVotedTo x y z p m b) given also h))
  vota_kept _ (session_held {t = u} {r = q} {es = fs} after also taken h one_of state put) tells =
      voted_kept t r s last es out run tables section m n start rest found traced
      (at_end (λ x. HasVoted t r es m x) (results_silent _ _ _ _ _ _ _ b n put tells) (of_given files names c told t u r q es fs (λ x y z. HasVoted x y z m b) given also h))

pub votes_are_kept : VotesAreKept
votes_are_kept t r section s start found names c d m n answer es ops is last out run =
    vota_kept names is.files c d is.call.cabinet t r es is.call.given section s last out run m is.call.between n start ops found is.traced answer is.call.ends is.call.told

pub keys_have_run : KeysHaveRun
keys_have_run files names t r es s given = run_exists (setting_of t r.titles) s es (tables_setting t r.titles given.tables.valid)

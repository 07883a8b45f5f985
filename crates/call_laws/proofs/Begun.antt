-- From the first show on each flash alone holds so, also where nothing of it went out
use Rattle.flash_store.proofs.Counting.{reached_more}
use Rattle.urna_commands.specs.Errors.{start_status}
use Rattle.urna_commands.proofs.Once.{refused_or_given}
use Rattle.call_laws.proofs.Completion.{port_silent}
use Rattle.call_laws.proofs.Headline.{not_empty, not_foreign, of_given, results_silent, votes_are_kept}
use Rattle.station.specs.Text.{session_pieces}
use Rattle.station.proofs.Pieces.{full_opening}
use Rattle.call_laws.proofs.Keeping.{commits_none, text_cases}
use Rattle.station.specs.Cast.{ballots_of, fims_reached}
use Rattle.urna_commands.specs.Command.{Vota}
use Rattle.command_parts.specs.FaultLines.{Tells}
use Rattle.urna_commands.specs.FaultLines.{fault_text}
use Rattle.urna_commands.specs.declared.status.Status.{Status}
use Rattle.image_codec.specs.State.{State}
use Rattle.station.specs.declared.station.StartError.{StartError}
use Rattle.election_tables.specs.declared.tables.sections.Section.{Section}
use Rattle.election_tables.specs.Roll.{RollData}
use Rattle.urna_outside.specs.declared.device.Port.{Port}
use Rattle.flash_store.specs.Pieces.{commits_in, commits_reached, lines_in, lines_reached}
use Rattle.state_store.specs.Pieces.{Piece}
use Rattle.turnout.specs.declared.phase.Phase.{Phase}
use Rattle.station.specs.Output.{Output}
use Rattle.state_store.specs.declared.load.Load.{Load}
use Rattle.election_tables.specs.TablesData.{IsTables, TablesData}
use Rattle.state_store.specs.Load.{IsSectionOf}
use Rattle.station.proofs.Fims.{IsOther, fims_in, fims_none, fims_other}
use Rattle.urna_outside.specs.ShownLines.{IsCutShort}
use Rattle.state_store.specs.Held.{HeldAlone}
use Rattle.urna_commands.specs.Vota.{HasVoted, HasVotedTo, IsGiven, IsRefused, VotaEnds, cut, no_cabinet, no_memory, not_started, refused, session_held}
use Rattle.station.specs.Start.{FailsToStart, IsCutAtOpening, IsRecovered, Opens, opening_line}
use Rattle.key_script.specs.declared.keys.Event.{Event}
use Rattle.urna_outside.specs.Cabinet.{CabinetTold, Files}
use Rattle.flash_store.specs.Syncs.{FromSyncs, IsUntouched, both_synced}
use Rattle.state_store.specs.Calls.{AreFound, Recovers}
use Rattle.call_laws.specs.Headline.{AloneFromTheFirstShow, HoldsPrefix, HoldsShown, session_of}
use Rattle.urna_outside.specs.declared.device.Port.TheVariants as port
use Rattle.station.specs.declared.station.StartError.TheVariants as starting
use Rattle.turnout.specs.declared.phase.Phase.TheVariants as phase
use Rattle.std.proofs.Common.{◌≡◌, ◌≢◌, ◌⊎◌, inl, inr, ℕ, ◌<◌, List, [], ◌∷◌, ◌++◌, Option, Some, length, refl, sym, ap, subst, ◌∙◌, arith, length-append, suc, take, ◌-◌}
use Rattle.std.proofs.lemmas.List.{append-nil}
use Rattle.urna_outside.specs.Flash.{Flashes, Op, Put, Show, Sync, after, after_one, shown_by, IsImage}
use Rattle.urna_outside.specs.Stop.{IsLeft, IsStop}
use Rattle.urna_outside.specs.Told.{Does, Told, IsTornShow, Runs}
use Rattle.urna_outside.specs.Traced.{IsTraced}
use Rattle.urna_outside.proofs.Doing.{does-append, shown_by-append, does_nothing}
use Rattle.urna_outside.proofs.Traced.{traced_is}
use Rattle.flash_store.specs.Played.{shows_in}
use Rattle.flash_store.proofs.ShowStops.{shows_in-append, shows_in_silent}

-- ---- the first of some shows

-- the first show, if there is one, has a byte
abbrev FirstIsFull : List Op → Type 0
FirstIsFull [] = Unit {0}
FirstIsFull (Put d at bytes ∷ ops) = FirstIsFull ops
FirstIsFull (Sync d ∷ ops) = FirstIsFull ops
FirstIsFull (Show bytes ∷ ops) = 0 < length bytes

-- a stop at which nothing was shown, but a show was begun, is one at which no byte of the first show went out; so its first byte may have gone out
record IsAtShow (ops done : List Op) : Type 0 where
  before : List Op
  byte : ℕ
  is : done ≡ before ++ Show [] ∷ []
  stop : IsStop ops (before ++ Show (byte ∷ []) ∷ [])

longer : (op : Op) (ops done : List Op) → IsAtShow ops done → IsAtShow (op ∷ ops) (op ∷ done)
longer op ops done at = record { before = op ∷ at.before; byte = at.byte; is = ap (λ (l : List Op). op ∷ l) at.is; stop = inl (refl, at.stop) }

begun : (ops done : List Op) → FirstIsFull ops → IsStop ops done → shows_in done ≢ [] → shown_by done ≡ [] → IsAtShow ops done
begun ops [] full stop some none = absurd (some refl)
begun [] (one ∷ done) full stop some none = absurd stop
begun (Put d at bytes ∷ ops) (Put e k xs ∷ done) full (inl whole) some none =
    subst (λ (o : Op). IsAtShow (o ∷ ops) (Put e k xs ∷ done)) whole.0 (longer (Put e k xs) ops done (begun ops done full whole.1 some none))
begun (Put d at bytes ∷ ops) (Put e k xs ∷ done) full (inr part) some none = absurd (some (ap shows_in part.1))
begun (Put d at bytes ∷ ops) (Sync e ∷ done) full (inl whole) some none = absurd (let is = whole.0 in cc)
begun (Put d at bytes ∷ ops) (Sync e ∷ done) full (inr part) some none = absurd (let is = part.0.4 in cc)
begun (Put d at bytes ∷ ops) (Show xs ∷ done) full (inl whole) some none = absurd (let is = whole.0 in cc)
begun (Put d at bytes ∷ ops) (Show xs ∷ done) full (inr part) some none = absurd (let is = part.0.4 in cc)
begun (Sync d ∷ ops) (Sync e ∷ done) full (inl whole) some none =
    subst (λ (o : Op). IsAtShow (o ∷ ops) (Sync e ∷ done)) whole.0 (longer (Sync e) ops done (begun ops done full whole.1 some none))
begun (Sync d ∷ ops) (Put e k xs ∷ done) full (inl whole) some none = absurd (let is = whole.0 in cc)
begun (Sync d ∷ ops) (Show xs ∷ done) full (inl whole) some none = absurd (let is = whole.0 in cc)
begun (Sync d ∷ ops) (one ∷ done) full (inr part) some none = absurd part.0
begun (Show bytes ∷ ops) (Show xs ∷ done) full (inl whole) some none =
    let is = whole.0 in
    let same : xs ≡ bytes = cc in
    absurd (omega (arith, full, ap (λ (l : List ℕ). length l) same, ap (λ (l : List ℕ). length l) none, length-append xs (shown_by done)))
begun (Show [] ∷ ops) (Show xs ∷ done) full (inr part) some none = absurd (omega (arith, full))
begun (Show (b ∷ bytes) ∷ ops) (Show xs ∷ done) full (inr part) some none =
    let last : done ≡ [] = part.1 in
    let empty : xs ≡ [] = sym (append-nil xs) ∙ ap (λ (l : List Op). xs ++ shown_by l) (sym last) ∙ none in
    record {
      before = [];
      byte = b;
      is = ap (λ (l : List Op). Show xs ∷ l) last ∙ ap (λ (l : List ℕ). Show l ∷ []) empty;
      stop = inr ((b ∷ [], bytes, refl, refl), refl);
    }
begun (Show bytes ∷ ops) (Put e k xs ∷ done) full (inl whole) some none = absurd (let is = whole.0 in cc)
begun (Show bytes ∷ ops) (Put e k xs ∷ done) full (inr part) some none = absurd (let is = part.0.3 in cc)
begun (Show bytes ∷ ops) (Sync e ∷ done) full (inl whole) some none = absurd (let is = whole.0 in cc)
begun (Show bytes ∷ ops) (Sync e ∷ done) full (inr part) some none = absurd (let is = part.0.3 in cc)

-- behind operations without a show
full-append : (xs ys : List Op) → shows_in xs ≡ [] → FirstIsFull ys → FirstIsFull (xs ++ ys)
full-append [] ys none full = full
full-append (Put d at bytes ∷ xs) ys none full = full-append xs ys none full
full-append (Sync d ∷ xs) ys none full = full-append xs ys none full
full-append (Show bytes ∷ xs) ys none full = absurd (cc)

-- where the first show is this one
full_by : (xs : List Op) (bytes : List ℕ) (more : List Op) → shows_in xs ≡ Show bytes ∷ more → 0 < length bytes → FirstIsFull xs
full_by [] bytes more is some = absurd (cc)
full_by (Put d at b ∷ xs) bytes more is some = full_by xs bytes more is some
full_by (Sync d ∷ xs) bytes more is some = full_by xs bytes more is some
full_by (Show b ∷ xs) bytes more is some =
    let same : b ≡ bytes = cc in
    subst (λ (l : List ℕ). 0 < length l) (sym same) some

full_none : (xs : List Op) → shows_in xs ≡ [] → FirstIsFull xs
full_none [] none = tt
full_none (Put d at b ∷ xs) none = full_none xs none
full_none (Sync d ∷ xs) none = full_none xs none
full_none (Show b ∷ xs) none = absurd (cc)

-- ---- what a show leaves of flashes, and of the text

after_show : (ops : List Op) (bytes : List ℕ) (start : Flashes) → after (ops ++ Show bytes ∷ []) start ≡ after ops start
after_show [] bytes start = refl
after_show (op ∷ ops) bytes start = after_show ops bytes (after_one op start)

shown_none : (ops : List Op) → shown_by (ops ++ Show [] ∷ []) ≡ [] → shown_by ops ≡ []
shown_none ops none = sym (append-nil (shown_by ops)) ∙ sym (shown_by-append ops (Show [] ∷ [])) ∙ none

shown_one : (ops : List Op) (byte : ℕ) → shown_by ops ≡ [] → shown_by (ops ++ Show (byte ∷ []) ∷ []) ≡ byte ∷ []
shown_one ops byte none = shown_by-append ops (Show (byte ∷ []) ∷ []) ∙ ap (λ (l : List ℕ). l ++ byte ∷ []) none

-- ---- the lines that one byte reaches into

-- the opening line is no FIM, whatever the phase
poll_other : (t : TablesData) (p : Phase) (s : State) → IsOther (opening_line t (record s { phase = p }))
poll_other t phase.Ready s = refl
poll_other t (phase.Polling opened) s = refl
poll_other t (phase.Sealed opened closed) s = refl

module _ (t : TablesData) (s : State) (out : List Output) where
  abbrev pieces : List Piece
  pieces = session_of t s out

  -- one byte reaches into the opening line alone
  one_line : lines_reached (lines_in pieces) 1 ≡ 1
  one_line =
      let rest : List (List ℕ) = lines_in (session_pieces t out) in
      let all : 1 - length (opening_line t s) ≡ 0 = omega (arith, full_opening t s) in
      reached_more (opening_line t s) rest 1 (omega arith) ∙ ap (λ (k : ℕ). suc (lines_reached rest k)) all ∙ ap suc (none_reached rest)
    where
      none_reached : (lines : List (List ℕ)) → lines_reached lines 0 ≡ 0
      none_reached [] = refl
      none_reached (line ∷ lines) = refl

  -- which tells no state, and is no FIM
  none_told : commits_reached pieces 1 ≡ commits_reached pieces 0
  none_told = ap (λ (k : ℕ). length (commits_in (take k pieces))) one_line ∙ sym (commits_none pieces)

  none_shown : fims_reached (lines_in pieces) 1 ≡ fims_reached (lines_in pieces) 0
  none_shown =
      ap (λ (k : ℕ). fims_in (take k (lines_in pieces))) one_line
      ∙ fims_other (opening_line t s) [] (poll_other t s.phase s)
      ∙ sym (fims_none (lines_in pieces))

-- ---- of a session

module _ (names : Vota) (files : Files) (c d : CabinetTold) (told : c.files ≡ Some files) (t : TablesData) (r : RollData) (es : List Event) (given : IsGiven (Some files) names t r es)
    (section : Section) (s : State) (m b n : Told) (start : Flashes) (rest : List Op) (found : AreFound t r section s start) (traced : IsTraced m n start (both_synced ++ rest)) where
  tables : IsTables t
  tables = given.tables.valid

  -- what was done is the trail
  trail_full : (ops : List Op) → Does ops m n → FirstIsFull ops → FirstIsFull rest
  trail_full ops does full = subst FirstIsFull (traced_is m n start (both_synced ++ rest) ops traced does) full

  -- a recovery shows nothing
  recovered_quiet : (load : Load) (first : State) (k : Told) (is : IsRecovered t r load first m k) → shows_in is.ran.0 ≡ []
  recovered_quiet load first k is = ap shows_in is.ran.2.1 ∙ shows_in_silent _ is.ran.2.0 is.ran.2.2.slots.within

  -- the first line is the opening line
  opened_full : (load : Load) (first : State) (k : Told) (opens : Opens t r load first m k) (more : List Op) → Does (opens.recovered.ran.0 ++ (opens.shown.ops ++ more)) m n → FirstIsFull rest
  opened_full load first k opens more does =
      trail_full (opens.recovered.ran.0 ++ (opens.shown.ops ++ more)) does
      (full-append opens.recovered.ran.0 (opens.shown.ops ++ more) (recovered_quiet load first opens.between opens.recovered)
      (full_by (opens.shown.ops ++ more) (opening_line t first) (shows_in more)
      (shows_in-append opens.shown.ops more ∙ ap (λ (l : List Op). l ++ shows_in more) opens.shown.shown) (full_opening t first)))

  voted_full : HasVoted t r es m n → FirstIsFull rest
  voted_full h =
      opened_full h.load h.first h.between h.opens h.put.ops
      (does-append h.opens.recovered.ran.0 (h.opens.shown.ops ++ h.put.ops) m h.opens.between n h.opens.recovered.ran.1
      (does-append h.opens.shown.ops h.put.ops h.opens.between h.between n h.opens.shown.does h.put.does))

  cut_full : (p : Port) → HasVotedTo t r es p m n → FirstIsFull rest
  cut_full p h =
      opened_full h.load h.first h.between h.opens h.stopped.ops
      (does-append h.opens.recovered.ran.0 (h.opens.shown.ops ++ h.stopped.ops) m h.opens.between n h.opens.recovered.ran.1
      (does-append h.opens.shown.ops h.stopped.ops h.opens.between h.between n h.opens.shown.does h.stopped.does))

  -- of a line that was cut off some byte went out, or nothing stands there
  torn_full : (bytes : List ℕ) (ops : List Op) → IsTornShow bytes (shows_in ops) → FirstIsFull ops
  torn_full bytes ops (inl none) = full_none ops none
  torn_full bytes ops (inr (some, back, long, is, one)) = full_by ops some [] one long

  cut_short_full : (line : List ℕ) (ops : List Op) → IsCutShort (line ∷ []) (shows_in ops) → FirstIsFull ops
  cut_short_full line ops (inl torn) = torn_full line ops torn
  cut_short_full line ops (inr (more, is, none)) = absurd none

  opening_full : IsCutAtOpening t r m n → FirstIsFull rest
  opening_full h =
      trail_full (h.recovered.ran.0 ++ h.stopped.ops) (does-append h.recovered.ran.0 h.stopped.ops m h.between n h.recovered.ran.1 h.stopped.does)
      (full-append h.recovered.ran.0 h.stopped.ops (recovered_quiet h.load h.state h.between h.recovered) (cut_short_full (opening_line t h.state) h.stopped.ops h.stopped.cut))

  untouched_full : IsUntouched m n → FirstIsFull rest
  untouched_full same = trail_full [] (subst (Does [] m) (sym same) (does_nothing m)) tt

  flash_full : Runs (FromSyncs (λ ops. (ops ≡ []) ⊎ ((other : Section) × (first : State) × IsSectionOf t r other × Recovers t r other first m ops))) m n → FirstIsFull rest
  flash_full (ops, does, inl (inl none)) = trail_full ops does (subst FirstIsFull (sym none) tt)
  flash_full (ops, does, inl (inr one)) = trail_full ops does (subst FirstIsFull (sym one) tt)
  flash_full (ops, does, inr (behind, is, inl none)) = trail_full ops does (subst FirstIsFull (sym (is ∙ ap (λ (l : List Op). both_synced ++ l) none)) tt)
  flash_full (ops, does, inr (behind, is, inr (other, first, fits, recovers))) =
      trail_full ops does (subst FirstIsFull (sym is) (full_none behind (shows_in_silent _ behind recovers.slots.within)))

  start_full : (p : Port) → FailsToStart t r m n (starting.Port p) → FirstIsFull rest
  start_full port.Internal h = flash_full h.1
  start_full port.External h = flash_full h.1
  start_full port.Display h = opening_full h

  not_begun_full : (e : StartError) → FailsToStart t r m b e → Tells (fault_text (start_status e)) b n → FirstIsFull rest
  not_begun_full starting.Memory h tells = untouched_full (tells ∙ h)
  not_begun_full (starting.Port p) h tells = start_full p (subst (λ (x : Told). FailsToStart t r m x (starting.Port p)) (sym (port_silent p b n tells)) h)
  not_begun_full (starting.Foreign e) h tells = absurd (not_foreign t r s tables section m b start found traced.flashes e h)
  not_begun_full starting.NoImage h tells = absurd (not_empty t r s tables section m b start found traced.flashes h)

  pub first_is_full : (answer : Status) → VotaEnds names c d m b answer → Tells (fault_text answer) b n → FirstIsFull rest
  first_is_full answer (refused bad taken un) tells = absurd (refused_or_given files names answer t r es (subst (λ (o : Option Files). IsRefused o names answer) told bad) given)
  first_is_full _ (no_memory taken un) tells = untouched_full (tells ∙ un)
  first_is_full _ (no_cabinet taken un) tells = untouched_full (tells ∙ un)
  first_is_full _ (not_started {t = u} {r = q} {es = fs} e also taken h) tells =
      not_begun_full e (of_given files names c told t u r q es fs (λ x y z. FailsToStart x y m b e) given also h) tells
  first_is_full _ (cut {t = u} {r = q} {es = fs} p also taken h) tells =
      cut_full p (subst (λ (x : Told). HasVotedTo t r es p m x) (sym (port_silent p b n tells)) (of_given files names c told t u r q es fs (λ x y z. HasVotedTo x y z p m b) given also h))
  first_is_full _ (session_held {t = u} {r = q} {es = fs} after also taken h one_of state put) tells =
      voted_full (subst (λ (x : Told). HasVoted t r es m x) (sym (results_silent _ _ _ _ _ _ _ b n put tells)) (of_given files names c told t u r q es fs (λ x y z. HasVoted x y z m b) given also h))

pub alone_from_the_first_show : AloneFromTheFirstShow
alone_from_the_first_show t r section s start found names c d m n answer es ops is last out run done stop begun_to left at =
    elim (text_cases left.shown) [
      | inl none ↦
          let none_done : shown_by done ≡ [] = sym at.shown ∙ none in
          let full = first_is_full names is.files c d is.call.cabinet t r es is.call.given section s m is.call.between n start ops found is.traced answer is.call.ends is.call.told in
          at_show none (begun ops done full stop begun_to none_done) none_done
      | inr some ↦ let kept = votes_are_kept t r section s start found names c d m n answer es ops is last out run done stop left at in (kept.internal some, kept.external some)
    ]
  where
    Alone : List ℕ → (State → Type 0) → Type 0
    Alone shown held =
        HoldsPrefix t r s es out (ballots_of run) (commits_reached (session_of t s out) (length shown)) (fims_reached (lines_in (session_of t s out)) (length shown)) held

    as_none : (held : State → Type 0) (byte : ℕ) → left.shown ≡ [] → Alone (byte ∷ []) held → Alone left.shown held
    as_none held byte none at_one =
        subst (λ (l : List ℕ). Alone l held) (sym none)
        (subst (λ (k : ℕ). HoldsPrefix t r s es out (ballots_of run) k (fims_reached (lines_in (session_of t s out)) 0) held) (none_told t s out)
        (subst (λ (k : ℕ). HoldsPrefix t r s es out (ballots_of run) (commits_reached (session_of t s out) 1) k held) (none_shown t s out) at_one))

    at_show : left.shown ≡ [] → IsAtShow ops done → shown_by done ≡ []
        → HoldsShown t r s es out (ballots_of run) left (HeldAlone t (length r.titles) left.internal) × HoldsShown t r s es out (ballots_of run) left (HeldAlone t (length r.titles) left.external)
    at_show none show none_done =
        let more : List Op = show.before ++ Show (show.byte ∷ []) ∷ [] in
        let silent : shown_by show.before ≡ [] = shown_none show.before (ap shown_by (sym show.is) ∙ none_done) in
        let same : after done (after both_synced start) ≡ after more (after both_synced start) =
        ap (λ (l : List Op). after l (after both_synced start)) show.is ∙ after_show show.before [] (after both_synced start) ∙ sym (after_show show.before (show.byte ∷ []) (after both_synced start)) in
        let there : IsLeft (after more (after both_synced start)) (shown_by more) (record { internal = left.internal; external = left.external; shown = show.byte ∷ [] }) =
        record {
          internal = subst (λ (x : Flashes). IsImage x.internal left.internal) same at.internal;
          external = subst (λ (x : Flashes). IsImage x.external left.external) same at.external;
          shown = sym (shown_one show.before show.byte silent);
        } in
        let kept = votes_are_kept t r section s start found names c d m n answer es ops is last out run more show.stop (record { internal = left.internal; external = left.external; shown = show.byte ∷ [] }) there in
        (as_none (HeldAlone t (length r.titles) left.internal) show.byte none (kept.internal (omega arith)), as_none (HeldAlone t (length r.titles) left.external) show.byte none (kept.external (omega arith)))

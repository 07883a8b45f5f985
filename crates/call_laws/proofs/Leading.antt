-- How far a session comes that finds a poll, and to which poll it leads
use Rattle.state_store.specs.Held.{HeldAlone, HeldByBoth}
use Rattle.std.proofs.Common.{◌≡◌, ◌≢◌, ◌⊎◌, inl, inr, ℕ, ◌+◌, ◌<◌, List, [], ◌∷◌, ◌++◌, Option, Some, length, take, refl, sym, ap, subst, ◌∙◌, arith, length-append}
use Rattle.std.proofs.lemmas.List.{append_cancel_left, take_all}
use Rattle.std.proofs.lemmas.List.Elements.{Contains-get_or}
use Rattle.urna_outside.specs.Cabinet.{CabinetTold, Files}
use Rattle.urna_outside.specs.Flash.{Flashes, IsImage, Op, after, shown_by}
use Rattle.urna_outside.specs.Started.{clean_flashes}
use Rattle.urna_outside.specs.Stop.{IsStop, Left}
use Rattle.urna_outside.specs.Told.{Does, Runs, Told}
use Rattle.urna_outside.specs.Traced.{IsTraced}
use Rattle.urna_outside.specs.declared.device.Port.TheVariants as port
use Rattle.urna_outside.proofs.Doing.{does_nothing}
use Rattle.urna_outside.proofs.Stops.{stop-append}
use Rattle.urna_outside.proofs.Traced.{traced_is}
use Rattle.election_tables.specs.Roll.{RollData}
use Rattle.election_tables.specs.TablesData.{IsTables, TablesData}
use Rattle.election_tables.specs.declared.tables.sections.Section.{Section}
use Rattle.key_script.specs.declared.keys.Event.{Event}
use Rattle.image_codec.specs.CodecLaws.{Ballot}
use Rattle.image_codec.specs.State.{State}
use Rattle.flash_store.specs.Syncs.{FromSyncs, IsUntouched, IsWithinSyncs, both_synced}
use Rattle.state_store.specs.Calls.{AreFound}
use Rattle.state_store.specs.Laws.{AreWhole, IsPollOf}
use Rattle.flash_store.specs.Pieces.{AreFull, commits_in, commits_reached, lines_in, text_in}
use Rattle.state_store.specs.Pieces.{Piece}
use Rattle.flash_store.proofs.Counting.{all_reached}
use Rattle.flash_store.proofs.Syncing.{syncs_leave_no_more}
use Rattle.state_store.proofs.Going.{found_once, poll_left}
use Rattle.station.specs.Cast.{ballots_of, fims_reached}
use Rattle.station.specs.Output.{Output, commits_of}
use Rattle.station.specs.Run.{IsRun}
use Rattle.station.specs.Setting.{setting_of}
use Rattle.station.specs.Start.{FailsToStart}
use Rattle.station.specs.declared.station.StartError.{StartError}
use Rattle.station.specs.declared.station.StartError.TheVariants as starting
use Rattle.station.proofs.Casting.{opened_fims, pieces_commit}
use Rattle.station.proofs.Pieces.{full_opening, full_pieces}
use Rattle.station.proofs.RunLaws.{commits_of-append}
use Rattle.command_parts.specs.Steps.{IsInterrupted, IsToldOrOneMore, failed}
use Rattle.command_parts.proofs.Steps.{IsOver, within_stop}
use Rattle.call_laws.specs.Again.{Call, LeadsOn}
use Rattle.urna_commands.specs.Command.{Vota}
use Rattle.urna_commands.specs.Errors.{port_status, start_status}
use Rattle.command_parts.specs.FaultLines.{Tells}
use Rattle.urna_commands.specs.FaultLines.{fault_text}
use Rattle.call_laws.specs.Headline.{HoldsShown, KeepsVotes, session_of}
use Rattle.urna_commands.specs.Vota.{HasVoted, HasVotedTo, IsGiven, IsRefused, VotaEnds, no_cabinet, no_memory, not_started, refused, session_held, cut as vota_cut}
use Rattle.urna_commands.specs.declared.status.Status.{Status}
use Rattle.urna_commands.specs.declared.status.Status.TheVariants as status
use Rattle.call_laws.proofs.Completion.{port_silent}
use Rattle.call_laws.proofs.Headline.{not_empty, not_foreign, of_given, results_silent, voted_shown, votes_are_kept}
use Rattle.call_laws.proofs.Keeping.{found_roll}
use Rattle.urna_commands.proofs.Once.{refused_or_given}

-- ---- how far a call of vota comes

module _ (names : Vota) (files : Files) (c d : CabinetTold) (told : c.files ≡ Some files) (t : TablesData) (r : RollData) (es : List Event) (given : IsGiven (Some files) names t r es)
    (section : Section) (s last : State) (out : List Output) (run : IsRun (setting_of t r.titles) s es last out) (m b n : Told) (start : Flashes) (ops : List Op)
    (found : AreFound t r section s start) (traced : IsTraced m n start ops) where
  -- within its two opening syncs, or behind them; there it was interrupted, or showed the whole text
  abbrev Reaches : Status → Type 0
  Reaches answer =
      IsWithinSyncs ops
      ⊎ ((rest : List Op) × (ops ≡ both_synced ++ rest) × (IsInterrupted port_status (Some answer) ⊎ (shown_by rest ≡ text_in (session_of t s out))))

  tables : IsTables t
  tables = given.tables.valid

  done_is : (done : List Op) → Does done m n → done ≡ ops
  done_is done does = traced_is m n start ops done traced does

  not_touched : (answer : Status) → IsUntouched m b → n ≡ b → Reaches answer
  not_touched answer h same = inl (inl (sym (done_is [] (subst (Does [] m) (sym (same ∙ h)) (does_nothing m)))))

  interrupted : {P : List Op → Type 0} (answer : Status) → IsInterrupted port_status (Some answer) → Runs (λ done. (rest : List Op) × (done ≡ both_synced ++ rest) × P rest) m n
      → Reaches answer
  interrupted answer is (done, does, (rest, front, h)) = inr (rest, sym (done_is done does) ∙ front, inl is)

  flash_failed : {P : List Op → Type 0} (answer : Status) → IsInterrupted port_status (Some answer) → Runs (FromSyncs P) m n → Reaches answer
  flash_failed answer is (done, does, inl within) = inl (subst IsWithinSyncs (done_is done does) within)
  flash_failed answer is (done, does, inr (rest, front, h)) = inr (rest, sym (done_is done does) ∙ front, inl is)

  not_begun : (e : StartError) → FailsToStart t r m b e → Tells (fault_text (start_status e)) b n → Reaches (start_status e)
  not_begun starting.Memory h tells = not_touched status.Memory h tells
  not_begun (starting.Port port.Internal) h tells =
      flash_failed status.InternalFlash (failed port.Internal) (subst (λ x. FailsToStart t r m x (starting.Port port.Internal)) (sym tells) h).1
  not_begun (starting.Port port.External) h tells =
      flash_failed status.ExternalFlash (failed port.External) (subst (λ x. FailsToStart t r m x (starting.Port port.External)) (sym tells) h).1
  not_begun (starting.Port port.Display) h tells =
      interrupted status.Display (failed port.Display) ((subst (λ x. FailsToStart t r m x (starting.Port port.Display)) (sym tells) h).survives [])
  not_begun (starting.Foreign e) h tells = absurd (not_foreign t r s tables section m b start found traced.flashes e h)
  not_begun starting.NoImage h tells = absurd (not_empty t r s tables section m b start found traced.flashes h)

  held : (answer : Status) → HasVoted t r es m n → Reaches answer
  held answer voted =
      let front = sym (done_is voted.survives.0 voted.survives.1) ∙ voted.survives.2.1 in
      let rest = voted.survives.2.0 in
      let traced_here : IsTraced m n start (both_synced ++ rest) = subst (λ (done : List Op). IsTraced m n start done) front traced in
      inr (rest, front, inr (voted_shown t r s last es out run tables section m n start rest found traced_here voted))

  reaches : (answer : Status) → VotaEnds names c d m b answer → Tells (fault_text answer) b n → Reaches answer
  reaches answer (refused why taken un) tells =
      absurd (refused_or_given files names answer t r es (subst (λ (o : Option Files). IsRefused o names answer) told why) given)
  reaches _ (no_memory taken un) tells = not_touched status.Memory un tells
  reaches _ (no_cabinet taken un) tells = not_touched status.Cabinet un tells
  reaches _ (not_started {t = u} {r = q} {es = fs} e also taken h) tells = not_begun e (of_given files names c told t u r q es fs (λ x y z. FailsToStart x y m b e) given also h) tells
  reaches _ (vota_cut {t = u} {r = q} {es = fs} p also taken h) tells =
      interrupted (port_status p) (failed p) (subst (λ x. HasVotedTo t r es p m x) (sym (port_silent p b n tells)) (of_given files names c told t u r q es fs (λ x y z. HasVotedTo x y z p m b) given also h)).survives
  reaches answer (session_held {t = u} {r = q} {es = fs} after also taken h one_of state put) tells =
      held answer (subst (λ x. HasVoted t r es m x) (sym (results_silent _ _ _ _ _ _ _ b n put tells)) (of_given files names c told t u r q es fs (λ x y z. HasVoted x y z m b) given also h))

-- ---- the whole text of a session

opened_full : (t : TablesData) (s : State) (out : List Output) → AreFull (session_of t s out)
opened_full t s out = (full_opening t s, full_pieces t out)

-- it reaches into all lines that tell a state
commits_whole : (pieces : List Piece) → AreFull pieces → commits_reached pieces (length (text_in pieces)) ≡ length (commits_in pieces)
commits_whole pieces full =
    ap (λ (k : ℕ). length (commits_in (take k pieces))) (all_reached pieces full)
    ∙ ap (λ (l : List Piece). length (commits_in l)) (take_all (length pieces) pieces (omega arith))

-- ---- a session over both flashes

-- what is left, and what was shown of it
abbrev pub left_so : List ℕ → List ℕ → List ℕ → Left
left_so a b text = record { internal = a; external = b; shown = text }

module _ (names : Vota) (x : Call) (c d : CabinetTold) (told : c.files ≡ Some x.files) (t : TablesData) (r : RollData) (es : List Event) (given : IsGiven (Some x.files) names t r es)
    (section : Section) (u last : State) (out : List Output) (run : IsRun (setting_of t r.titles) u es last out) (m b n : Told) (start : Flashes) (ops : List Op)
    (found : AreFound t r section u start) (whole : AreWhole start) (traced : IsTraced m n start ops)
    (answer : Status) (ends : VotaEnds names c d m b answer) (tells : Tells (fault_text answer) b n) where
  abbrev pieces : List Piece
  pieces = session_of t u out

  -- It was stopped before its second sync, and nothing was shown. Or this is left of it, with the text that was shown, and to this poll it leads.
  abbrev pub Stopped : List ℕ → List ℕ → Type 0
  Stopped a e = IsImage start.internal a × IsImage start.external e × (x.shown ≡ [])

  abbrev pub Kept : List ℕ → List ℕ → List ℕ → Type 0
  Kept text a e = KeepsVotes t r u start es out (ballots_of run) (left_so a e text)

  abbrev pub Leaves : List ℕ → List ℕ → Type 0
  Leaves a e =
      (text : List ℕ) × (x.shown ≡ text) × (kept : Kept text a e) × LeadsOn t r x es u kept.both.state
      × ((some : 0 < length text) → LeadsOn t r x es u (kept.internal some).state) × ((some : 0 < length text) → LeadsOn t r x es u (kept.external some).state)

  -- stopped before the second sync
  early : (done : List Op) (a e : List ℕ) → IsStop both_synced done → IsImage (after done start).internal a → IsImage (after done start).external e → x.shown ≡ shown_by done → Stopped a e
  early done a e stop internal external shown =
      let is = syncs_leave_no_more start done (left_so a e (shown_by done)) stop (record { internal = internal; external = external; shown = refl }) in
      (is.internal, is.external, shown ∙ is.shown)

  module _ (rest : List Op) (front : ops ≡ both_synced ++ rest) (how : IsInterrupted port_status (Some answer) ⊎ (shown_by rest ≡ text_in pieces)) (done : List Op) (stop : IsStop rest done) (a e : List ℕ)
      (internal : IsImage (after done (after both_synced start)).internal a) (external : IsImage (after done (after both_synced start)).external e)
      (shown : x.shown ≡ shown_by done) (over : IsOver port_status x.status answer rest done) where
    abbrev left : Left
    left = left_so a e (shown_by done)

    votes_kept : KeepsVotes t r u start es out (ballots_of run) left
    votes_kept =
        votes_are_kept t r section u start found names c d m n answer es rest
        (record {
          files = x.files;
          call = record { between = b; ends = ends; told = tells; cabinet = told; given = given };
          traced = subst (λ (l : List Op). IsTraced m n start l) front traced;
        }) last out run done stop left (record { internal = internal; external = external; shown = refl })

    -- it was interrupted, or the whole text was shown
    ended_so : IsInterrupted port_status x.status ⊎ (shown_by done ≡ text_in pieces)
    ended_so = elim over [
      | inl cut_off ↦ inl cut_off
      | inr (with, all) ↦ elim how [
        | inl cut_off ↦ inl (subst (IsInterrupted port_status) (sym with) cut_off)
        | inr text ↦ inr (ap shown_by all ∙ text)
      ]
    ]

    -- as many as were told, or one more of an interrupted call
    told_so : (k j : ℕ) → ((k ≡ j) ⊎ (k ≡ j + 1)) → (shown_by done ≡ text_in pieces → k ≢ j + 1) → IsToldOrOneMore port_status x.status j k
    told_so k j (inl is) none = inl is
    told_so k j (inr more) none = elim ended_so [
      | inl cut_off ↦ inr (cut_off, more)
      | inr text ↦ absurd (none text more)
    ]

    -- of both flashes, or of one of them
    module _ (held : State → Type 0) (p : HoldsShown t r u es out (ballots_of run) left held) where
      -- whose whole text was shown has no state and no ballot more
      no_more_told : shown_by done ≡ text_in pieces → p.number ≢ commits_reached pieces (length (shown_by done)) + 1
      no_more_told text more =
          let reached = ap (λ (l : List ℕ). commits_reached pieces (length l)) text ∙ commits_whole pieces (opened_full t u out) in
          let all = ap (λ (l : List State). length l) (pieces_commit t out) in
          let split = ap (λ (l : List Output). length (commits_of l)) p.after.texts
          ∙ ap (λ (l : List State). length l) (commits_of-append p.after.put p.after.later) ∙ length-append (commits_of p.after.put) (commits_of p.after.later) in
          absurd (omega (arith, more, reached, all, split, p.after.committed))

      no_more_shown : shown_by done ≡ text_in pieces → length (ballots_of p.after.run) ≢ fims_reached (lines_in pieces) (length (shown_by done)) + 1
      no_more_shown text more =
          let reached = ap (λ (l : List ℕ). fims_reached (lines_in pieces) (length l)) text ∙ opened_fims t r.titles (found_roll t r section u start found) run in
          let split = ap (λ (l : List Ballot). length l) p.after.cast ∙ length-append (ballots_of p.after.run) p.after.others in
          absurd (omega (arith, more, reached, split))

      on : LeadsOn t r x es u p.state
      on =
          record {
            last = last;
            out = out;
            run = run;
            rest = votes_kept.rest;
            front = votes_kept.front ∙ ap (λ (l : List ℕ). l ++ votes_kept.rest) (sym shown);
            number = p.number;
            after = p.after;
            told = subst (λ (l : List ℕ). IsToldOrOneMore port_status x.status (commits_reached pieces (length l)) p.number) (sym shown)
                (told_so p.number (commits_reached pieces (length (shown_by done))) p.told no_more_told);
            fims = subst (λ (l : List ℕ). IsToldOrOneMore port_status x.status (fims_reached (lines_in pieces) (length l)) (length (ballots_of p.after.run))) (sym shown)
                (told_so (length (ballots_of p.after.run)) (fims_reached (lines_in pieces) (length (shown_by done))) p.shown no_more_shown);
          }

    late : Leaves a e
    late = (
      shown_by done,
      shown,
      votes_kept,
      on (HeldByBoth t (length r.titles) a e) votes_kept.both,
      λ some. on (HeldAlone t (length r.titles) a) (votes_kept.internal some),
      λ some. on (HeldAlone t (length r.titles) e) (votes_kept.external some),
    )

  pub session_leaves : (done : List Op) → IsStop ops done → (a e : List ℕ) → IsImage (after done start).internal a → IsImage (after done start).external e → x.shown ≡ shown_by done
      → IsOver port_status x.status answer ops done → Stopped a e ⊎ Leaves a e
  session_leaves done stop a e internal external shown over =
      go (reaches names x.files c d told t r es given section u last out run m b n start ops found traced answer ends tells)
    where
      later : (rest done_rest : List Op) → ops ≡ both_synced ++ rest → IsInterrupted port_status (Some answer) ⊎ (shown_by rest ≡ text_in pieces) → done ≡ both_synced ++ done_rest → IsStop rest done_rest
          → Leaves a e
      later rest done_rest front how is stop_rest =
          late rest front how done_rest stop_rest a e
          (subst (λ (l : List Op). IsImage (after l start).internal a) is internal)
          (subst (λ (l : List Op). IsImage (after l start).external e) is external)
          (shown ∙ ap shown_by is)
          (elim over [
            | inl cut_off ↦ inl cut_off
            | inr end ↦ inr (end.0, append_cancel_left both_synced done_rest rest (sym is ∙ end.1 ∙ front))
          ])

      go : IsWithinSyncs ops ⊎ ((rest : List Op) × (ops ≡ both_synced ++ rest) × (IsInterrupted port_status (Some answer) ⊎ (shown_by rest ≡ text_in pieces))) → Stopped a e ⊎ Leaves a e
      go (inl within) = inl (early done a e (within_stop ops done within stop) internal external shown)
      go (inr (rest, front, how)) = elim (stop-append both_synced rest done (subst (λ (l : List Op). IsStop l done) front stop)) [
        | inl before_them ↦ inl (early done a e before_them internal external shown)
        | inr behind ↦ inr (later rest behind.0 front how behind.1 behind.2)
      ]

  -- a state that both then hold is that of a poll of the section
  pub found_left : (text a e : List ℕ) → Kept text a e → (v : State) → HeldByBoth t (length r.titles) a e v
      → AreFound t r section v (clean_flashes a e) × AreWhole (clean_flashes a e)
  found_left text a e kept v held =
      let left = left_so a e text in
      let poll : IsPollOf t r section (v ∷ []) left =
      poll_left t r section u v (v ∷ []) start left whole found kept.frames held (Contains-get_or (v ∷ []) 0 v (omega arith)) in (
        subst (λ (y : State). AreFound t r section y (clean_flashes a e))
            (sym (found_once t r section poll.state v (clean_flashes a e) given.tables.valid poll.found held)) poll.found,
        poll.whole,
      )

-- A load that the power stops leaves no flash in use
use Rattle.std.proofs.Common.{◌≡◌, ◌≢◌, ◌⊎◌, inl, inr, ℕ, List, [], ◌∷◌, ◌++◌, Option, Some, refl, sym, ap, subst, ◌∙◌, append_assoc}
use Rattle.std.proofs.lemmas.List.{append-nil, append_cancel_left}
use Rattle.urna_outside.specs.Cabinet.{CabinetTold, Files}
use Rattle.urna_outside.specs.Flash.{Flashes, IsClean, Op, after, flash_of, shown_by}
use Rattle.urna_outside.specs.Started.{clean_flashes}
use Rattle.urna_outside.specs.Stop.{AtEachStop, IsLeft, Left, left_on}
use Rattle.urna_outside.specs.Told.{Runs, Told}
use Rattle.urna_outside.specs.Traced.{IsTraced}
use Rattle.urna_outside.specs.declared.device.Dev.{Dev}
use Rattle.urna_outside.specs.declared.device.Dev.TheVariants as dev
use Rattle.urna_outside.proofs.Doing.{after-append, does-append}
use Rattle.urna_outside.proofs.Stops.{stop-append, stop_whole}
use Rattle.urna_outside.proofs.Traced.{traced_is}
use Rattle.flash_store.specs.Syncs.{IsWithinSyncs, both_synced}
use Rattle.flash_store.proofs.Syncing.{both_clean}
use Rattle.state_store.specs.Rest.{AreFree, IsBusy}
use Rattle.state_store.specs.Calls.{FailsToLoad, Loads}
use Rattle.state_store.specs.Rest.{IsInUse}
use Rattle.state_store.specs.declared.store.LoadError.{LoadError}
use Rattle.state_store.specs.declared.store.LoadError.TheVariants as load
use Rattle.flash_store.proofs.Resting.{clean_image}
use Rattle.urna_commands.specs.Carga.{CargaEnds, load_no_cabinet, load_no_memory, load_refused, loaded, loaded_line, no_section, not_loaded, not_told}
use Rattle.urna_commands.specs.Command.{Carga, ToLoad}
use Rattle.command_parts.specs.declared.error.CommandError.TheVariants as error
use Rattle.command_parts.proofs.Once.{first_is}
use Rattle.urna_commands.specs.Documents.{IsFirstFault}
use Rattle.urna_commands.specs.Errors.{load_status}
use Rattle.urna_commands.specs.FaultLines.{fault_text}
use Rattle.call_laws.specs.NeverBusy.{LoadIsNotBusy, LoadLeavesFree}
use Rattle.command_parts.specs.declared.error.Doc.{Doc}
use Rattle.urna_commands.specs.declared.status.Status.{Status}
use Rattle.urna_commands.specs.declared.status.Status.TheVariants as status
use Rattle.command_parts.specs.Idle.{AreIdle}
use Rattle.command_parts.proofs.Idle.{Idles, cut_idles, idle-append, idle_left, idle_stop, idles-append, shown_idles, synced_idles, told_idles, untouched_idles}
use Rattle.urna_commands.proofs.Endings.{ends_as}

-- ---- what carga does

-- it loads behind the two syncs, and then writes nothing
abbrev pub LoadsThen : Told → List Op → Type 0
LoadsThen m done = (rest tail : List Op) × (done ≡ both_synced ++ (rest ++ tail)) × Loads m rest × AreIdle tail

-- or it writes nothing
abbrev pub DoesLoad : Told → Told → Type 0
DoesLoad m n = Idles m n ⊎ Runs (LoadsThen m) m n

loads_then : (m b n : Told) → Runs (λ done. (rest : List Op) × (done ≡ both_synced ++ rest) × Loads m rest) m b → Idles b n → DoesLoad m n
loads_then m b n (done, does, (rest, is, loads)) (tail, then, idle) =
    inr (
      done ++ tail,
      does-append done tail m b n does then,
      (rest, tail, ap (λ (l : List Op). l ++ tail) is, loads, idle),
    )

pub then_idles : (m b n : Told) → DoesLoad m b → Idles b n → DoesLoad m n
then_idles m b n (inl before) idles = inl (idles-append m b n before idles)
then_idles m b n (inr (done, does, (rest, tail, is, loads, idle))) (more, then, idle_more) =
    inr (
      done ++ more,
      does-append done more m b n does then,
      (
        rest,
        tail ++ more,
        ap (λ (l : List Op). l ++ more) is ∙ ap (λ (l : List Op). both_synced ++ l) (append_assoc rest tail more),
        loads,
        idle-append tail more idle idle_more,
      ),
    )

pub within_idle : (ops : List Op) → IsWithinSyncs ops → AreIdle ops
within_idle ops (inl none) = subst AreIdle (sym none) tt
within_idle ops (inr one) = subst AreIdle (sym one) (tt, tt)

fails_to_load : (m b : Told) (e : LoadError) → FailsToLoad m b e → DoesLoad m b
fails_to_load m b load.Memory h = inl (untouched_idles m b h)
fails_to_load m b (load.Busy d) h = inl (synced_idles m b h.0)
fails_to_load m b (load.Flash d) (ends, (done, does, inl within)) = inl (done, does, within_idle done within)
fails_to_load m b (load.Flash d) (ends, (done, does, inr (rest, is, inl none))) =
    inl (done, does, subst AreIdle (sym (is ∙ ap (λ (l : List Op). both_synced ++ l) none)) (tt, (tt, tt)))
fails_to_load m b (load.Flash d) (ends, (done, does, inr (rest, is, inr loads))) =
    inr (done, does, (rest, [], is ∙ ap (λ (l : List Op). both_synced ++ l) (sym (append-nil rest)), loads, tt))

pub carga_does : (names : Carga) (c d : CabinetTold) (m b : Told) (answer : Status) → CargaEnds names c d m b answer → DoesLoad m b
carga_does names c d m b _ (load_refused why taken un) = inl (untouched_idles m b un)
carga_does names c d m b _ (load_no_memory taken un) = inl (untouched_idles m b un)
carga_does names c d m b _ (load_no_cabinet taken un) = inl (untouched_idles m b un)
carga_does names c d m b _ (no_section given none taken un) = inl (untouched_idles m b un)
carga_does names c d m b _ (not_loaded e given asked taken h) = fails_to_load m b e h.fails
carga_does names c d m b _ (not_told {section} between given asked taken h off) =
    loads_then m between b h.ran (cut_idles (loaded_line section ∷ []) between b off)
carga_does names c d m b _ (loaded {section} between given asked taken h shown) =
    loads_then m between b h.ran (shown_idles (loaded_line section ∷ []) between b shown)

-- ---- what is left of it

abbrev free_flashes : Left → Type 0
free_flashes left = AreFree (clean_flashes left.internal left.external)

free_left : (left : Left) → ((d : Dev) → ¬ IsInUse (left_on d left)) → free_flashes left
free_left left free dev.Internal = free dev.Internal
free_left left free dev.External = free dev.External

-- of flashes on which nothing is dirty, what they have
free_image : (flashes : Flashes) (text : List ℕ) (left : Left) → ((d : Dev) → IsClean (flash_of d flashes)) → AreFree flashes → IsLeft flashes text left → free_flashes left
free_image flashes text left clean free is dev.Internal =
    subst (λ (x : List ℕ). ¬ IsInUse x) (sym (clean_image flashes.internal left.internal (clean dev.Internal) is.internal)) (free dev.Internal)
free_image flashes text left clean free is dev.External =
    subst (λ (x : List ℕ). ¬ IsInUse x) (sym (clean_image flashes.external left.external (clean dev.External) is.external)) (free dev.External)

free_of : (left : Left) (text : List ℕ) → ((d : Dev) → ¬ IsInUse (left_on d (record left { shown = text }))) → (d : Dev) → ¬ IsInUse (left_on d left)
free_of left text free dev.Internal = free dev.Internal
free_of left text free dev.External = free dev.External

module _ (start : Flashes) (free : AreFree start) where
  free_synced : AreFree (after both_synced start)
  free_synced dev.Internal = free dev.Internal
  free_synced dev.External = free dev.External

  idle_free : (ops : List Op) → AreIdle ops → AtEachStop (after both_synced start) ops free_flashes
  idle_free ops idle done stop left is =
      free_image (after both_synced start) (shown_by done) left (both_clean start) free_synced
      (idle_left done (after both_synced start) (shown_by done) left (idle_stop ops done idle stop) is)

  loads_free : (m : Told) → m.flashes ≡ Some start → (rest tail : List Op) → Loads m rest → AreIdle tail → AtEachStop (after both_synced start) (rest ++ tail) free_flashes
  loads_free m told rest tail loads idle done stop left is = elim (stop-append rest tail done stop) [
    | inl early ↦ free_left left (loads.stops start told done early left is)
    | inr (more, all, late) ↦
        let there : IsLeft (after (rest ++ more) (after both_synced start)) (shown_by done) left =
        subst (λ (l : List Op). IsLeft (after l (after both_synced start)) (shown_by done) left) all is in
        let behind : IsLeft (after more (after rest (after both_synced start))) (shown_by done) left =
        subst (λ (fs : Flashes). IsLeft fs (shown_by done) left) (after-append rest more (after both_synced start)) there in
        let before = idle_left more (after rest (after both_synced start)) (shown_by done) left (idle_stop tail more idle late) behind in
        let whole : Left = record { internal = left.internal; external = left.external; shown = shown_by rest } in
        let at = loads.stops start told rest (stop_whole rest) whole (record { internal = before.internal; external = before.external; shown = refl }) in
        free_left left (free_of left (shown_by rest) at)
  ]

  load_free : (m n : Told) (ops : List Op) → IsTraced m n start (both_synced ++ ops) → DoesLoad m n → AtEachStop (after both_synced start) ops free_flashes
  load_free m n ops traced (inl (done, does, idle)) =
      let all : AreIdle (both_synced ++ ops) = subst AreIdle (traced_is m n start (both_synced ++ ops) done traced does) idle in
      idle_free ops all.1.1
  load_free m n ops traced (inr (done, does, (rest, tail, is, loads, idle))) =
      let same : rest ++ tail ≡ ops = append_cancel_left both_synced (rest ++ tail) ops (sym is ∙ traced_is m n start (both_synced ++ ops) done traced does) in
      subst (λ (l : List Op). AtEachStop (after both_synced start) l free_flashes) same (loads_free m traced.flashes rest tail loads idle)

pub load_leaves_free : LoadLeavesFree
load_leaves_free words c d m n answer ends names command start ops traced free =
    load_free start free m n ops traced
    (then_idles m ends.between n (carga_does names c d m ends.between answer (ends_as words (ToLoad names) c d m ends.between answer command ends.command))
    (told_idles (fault_text answer) ends.between n ends.told))

-- ---- what it answers

first_not_busy : (files : Option Files) (tables : List ℕ) (d : Doc) (name : List ℕ) (s : Status) (e : Dev) → IsFirstFault files tables d name s → s ≢ status.Busy e
first_not_busy files tables d name s e h is =
    let of_file = first_is files tables d name (error.Busy e) (subst (IsFirstFault files tables d name) is h) in absurd (cc)

free_not_busy : (start : Flashes) (d : Dev) → AreFree start → IsBusy d start → ⊥
free_not_busy start dev.Internal free busy = free dev.Internal busy
free_not_busy start dev.External free busy = free dev.External busy.1

load_not_busy : (m b : Told) (start : Flashes) (e : Dev) (error : LoadError) → m.flashes ≡ Some start → AreFree start → FailsToLoad m b error → load_status error ≢ status.Busy e
load_not_busy m b start e load.Memory told free h is = absurd (cc)
load_not_busy m b start e (load.Flash dev.Internal) told free h is = absurd (cc)
load_not_busy m b start e (load.Flash dev.External) told free h is = absurd (cc)
load_not_busy m b start e (load.Busy d) told free h is = free_not_busy start d free (h.1 start told)

carga_not_busy : (names : Carga) (c d : CabinetTold) (m b : Told) (answer : Status) (start : Flashes) (e : Dev) → m.flashes ≡ Some start → AreFree start
    → CargaEnds names c d m b answer → answer ≢ status.Busy e
carga_not_busy names c d m b answer start e told free (load_refused why taken un) is = first_not_busy c.files names.tables _ names.roll answer e why is
carga_not_busy names c d m b _ start e told free (load_no_memory taken un) is = absurd (cc)
carga_not_busy names c d m b _ start e told free (load_no_cabinet taken un) is = absurd (cc)
carga_not_busy names c d m b _ start e told free (no_section given none taken un) is = absurd (cc)
carga_not_busy names c d m b _ start e told free (not_loaded error given asked taken h) is = load_not_busy m b start e error told free h.fails is
carga_not_busy names c d m b _ start e told free (not_told between given asked taken h off) is = absurd (cc)
carga_not_busy names c d m b _ start e told free (loaded between given asked taken h shown) is = absurd (cc)

pub load_is_not_busy : LoadIsNotBusy
load_is_not_busy names c d m n answer ends start told free e = carga_not_busy names c d m n answer start e told free ends

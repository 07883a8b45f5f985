-- Loading makes no device one in use, and goes through the slots in order.
use Rattle.std.proofs.Common.{◌≡◌, ◌⊎◌, inl, inr, ℕ, Some, List, [], ◌∷◌, ◌++◌, take, refl, sym, ap, subst, ◌∙◌, lit≤}
use Rattle.std.proofs.lemmas.List.{take-take}
use Rattle.std.specs.Option.{ForSome}
use Rattle.urna_outside.specs.Flash.{Op, Sync, Flashes, flash_of, after}
use Rattle.urna_outside.specs.Told.{Told, Does, Runs}
use Rattle.urna_outside.specs.declared.device.Dev.{Dev}
use Rattle.urna_outside.specs.declared.device.Dev.TheVariants.{Internal, External}
use Rattle.urna_outside.proofs.Doing.{does-append, told_after}
use Rattle.gate_slot.specs.Front.{IsFrontOf, IsFrontOfSome}
use Rattle.gate_slot.specs.Slot.{header_size}
use Rattle.gate_slot.proofs.Fronts.{front_later, none_yet}
use Rattle.twin_image.specs.Lay.{IsEarly, IsLate, IsPublished, Lays, LeavesLaid, header_for, load_ops}
use Rattle.twin_image.specs.Twin.{WasOpen}
use Rattle.twin_image.proofs.Loading.{load_none}
use Rattle.flash_store.specs.InUse.{AreFree, IsBusy, IsInUse, IsLoad, IsUsed, Loads}
use Rattle.flash_store.specs.Syncs.{IsWithinSyncs, both_synced}

module _ (magic : List ℕ) (size : ℕ) (IsBegun : List ℕ → Type 0) where
  -- a slot that was open with this body was used as now
  used_before : (index : ℕ) (before image : List ℕ) → WasOpen size index before image → IsUsed magic size IsBegun index image → IsUsed magic size IsBegun index before
  used_before index before image was used = let there = was used.0 in (there.1, subst IsBegun there.0 used.1)

  -- while a device has its old header and slots, it is in use as before
  pub early_before : (before image : List ℕ) → IsEarly size before image → IsInUse magic size IsBegun image → IsInUse magic size IsBegun before
  early_before before image early busy =
      record {
        begins = sym (take-take 8 header_size before (lit≤ tt)) ∙ ap (take 8) (sym early.header) ∙ take-take 8 header_size image (lit≤ tt) ∙ busy.begins;
        used = either busy.used;
      }
    where
      either : IsUsed magic size IsBegun 0 image ⊎ IsUsed magic size IsBegun 1 image → IsUsed magic size IsBegun 0 before ⊎ IsUsed magic size IsBegun 1 before
      either (inl first) = inl (used_before 0 before image early.first first)
      either (inr second) = inr (used_before 1 before image early.second second)

  -- a slot with a body that isn't begun isn't used
  fresh_unused : (index : ℕ) (header body image : List ℕ) → ¬ IsBegun body → IsPublished size index header body image → ¬ IsUsed magic size IsBegun index image
  fresh_unused index header body image fresh published used = fresh (subst IsBegun (published used.0).0 used.1)

  late_unused : (header body image : List ℕ) → ¬ IsBegun body → IsLate size header body image → ¬ IsInUse magic size IsBegun image
  late_unused header body image fresh late busy = either busy.used
    where
      either : ¬ (IsUsed magic size IsBegun 0 image ⊎ IsUsed magic size IsBegun 1 image)
      either (inl first) = fresh_unused 0 header body image fresh late.first first
      either (inr second) = fresh_unused 1 header body image fresh late.second second

  -- A device that wasn't in use isn't while it is loaded with a body that isn't begun.
  pub never_in_use : (header body before image : List ℕ) → ¬ IsBegun body → ¬ IsInUse magic size IsBegun before → LeavesLaid size header body before image → ¬ IsInUse magic size IsBegun image
  never_in_use header body before image fresh free (inl early) busy = free (early_before before image early busy)
  never_in_use header body before image fresh free (inr late) busy = late_unused header body image fresh late busy

  -- the syncs change no content, so what is in use is so before them
  free_before : (start : Flashes) → AreFree magic size IsBegun (after both_synced start) → AreFree magic size IsBegun start
  free_before start free Internal = free Internal
  free_before start free External = free External

  pub busy_before : (d : Dev) (start : Flashes) → IsBusy magic size IsBegun d (after both_synced start) → IsBusy magic size IsBegun d start
  busy_before Internal start busy = busy
  busy_before External start busy = busy

  module _ (internal external body : List ℕ) (fresh : ¬ IsBegun body) (a b c d : Told) (synced : Does both_synced a b) (done : Does [] b c)
      (free : ForSome b.flashes (AreFree magic size IsBegun)) (run : Runs (Lays c size internal external body) c d) where
    -- behind the syncs no device is in use at any stop
    pub loads : Loads magic size IsBegun a run.0
    loads =
        record {
          within = run.2.within;
          syncs = run.2.syncs;
          free = λ start told. free_before start (free (after both_synced start) (told_after both_synced a b start synced told));
          stops = λ start told.
              let mid = after both_synced start in
              let told_b = told_after both_synced a b start synced told in
              let told_c = told_after [] b c mid done told_b in
              λ done_ops stop left is dev.
              never_in_use (header_for dev internal external) body (flash_of dev mid).content _ fresh (free mid told_b dev) (run.2.stops mid told_c done_ops stop left is dev);
        }

    pub does_load : Does (both_synced ++ run.0) a d
    does_load = does-append both_synced run.0 a c d (does-append both_synced [] a b c synced done) run.1

    pub loaded : Runs (λ ops. (rest : List Op) × (ops ≡ both_synced ++ rest) × Loads magic size IsBegun a rest) a d
    loaded = (both_synced ++ run.0, does_load, (run.0, refl, loads))

-- ---- the order of a load

module _ (size : ℕ) (header : Dev → List ℕ) (body : List ℕ) where
  -- what is done behind the syncs
  abbrev behind : Flashes → List Op
  behind start = load_ops size (header Internal) (header External) body start

  module _ (a b : Told) where
    -- nothing was done
    pub load_not_begun : Does [] a b → ForSome a.flashes (λ start. Runs (IsFrontOfSome (IsLoad size header body start)) a b)
    load_not_begun does start told = ([], does, (both_synced ++ behind start, refl, none_yet [] (Sync Internal) (Sync External ∷ behind start)))

    -- a sync failed
    pub load_syncing : Runs IsWithinSyncs a b → ForSome a.flashes (λ start. Runs (IsFrontOfSome (IsLoad size header body start)) a b)
    load_syncing run start told = (run.0, run.1, (both_synced ++ behind start, refl, front run.0 run.2))
      where
        front : (ops : List Op) → IsWithinSyncs ops → IsFrontOf (both_synced ++ behind start) ops
        front ops (inl none) = subst (IsFrontOf (both_synced ++ behind start)) (sym none) (none_yet [] (Sync Internal) (Sync External ∷ behind start))
        front ops (inr one) =
            subst (IsFrontOf (both_synced ++ behind start)) (sym one) (front_later (Sync Internal ∷ []) (Sync External ∷ behind start) [] (none_yet [] (Sync External) (behind start)))

  module _ (a b c : Told) (synced : Does both_synced a b) (done : Does [] b c) where
    syncs_done : Does both_synced a c
    syncs_done = does-append both_synced [] a b c synced done

    -- both were synced, and no more
    pub load_not_tested : ForSome a.flashes (λ start. Runs (IsFrontOfSome (IsLoad size header body start)) a c)
    load_not_tested start told =
        let none = load_none size (header Internal) (header External) body start in
        (both_synced, syncs_done, (both_synced ++ behind start, refl, front_later both_synced (behind start) [] none))

    module _ (d : Told) (internal external bytes : List ℕ) (internal_is : internal ≡ header Internal) (external_is : external ≡ header External) (body_is : bytes ≡ body) where
      same_load : (start : Flashes) → both_synced ++ load_ops size internal external bytes start ≡ both_synced ++ behind start
      same_load start =
          ap (λ (h : List ℕ). both_synced ++ load_ops size h external bytes start) internal_is
          ∙ ap (λ (h : List ℕ). both_synced ++ load_ops size (header Internal) h bytes start) external_is
          ∙ ap (λ (b : List ℕ). both_synced ++ load_ops size (header Internal) (header External) b start) body_is

      told_then : (start : Flashes) → a.flashes ≡ Some start → c.flashes ≡ Some (after both_synced start)
      told_then start told = told_after both_synced a c start syncs_done told

      -- all was done; the syncs change no content, so what is to be shut is as before them
      pub load_done : ForSome c.flashes (λ start. Does (load_ops size internal external bytes start) c d) → ForSome a.flashes (λ start. Runs (IsLoad size header body start) a d)
      load_done does start told =
          let mid = after both_synced start in
          let ops = load_ops size internal external bytes mid in
          (both_synced ++ ops, does-append both_synced ops a c d syncs_done (does mid (told_then start told)), same_load start)

      -- or up to a fault
      pub load_cut : ForSome c.flashes (λ start. Runs (IsFrontOf (load_ops size internal external bytes start)) c d) → ForSome a.flashes (λ start. Runs (IsFrontOfSome (IsLoad size header body start)) a d)
      load_cut cut start told =
          let mid = after both_synced start in
          let ops = load_ops size internal external bytes mid in
          let run = cut mid (told_then start told) in
          (both_synced ++ run.0, does-append both_synced run.0 a c d syncs_done run.1, (both_synced ++ ops, same_load start, front_later both_synced ops run.0 run.2))

-- A recovery: two syncs, a look at the flashes, a heal, and the change to the encoding that is written today.
use Rattle.std.proofs.Common.{◌≡◌, inl, inr, ℕ, Some, ◌≤◌, List, [], ◌++◌, append_assoc, arith, length, refl, sym, subst}
use Rattle.std.specs.Option.{ForSome}
use Rattle.urna_outside.specs.Faults.{EndsAt, IsFaultless}
use Rattle.urna_outside.specs.Flash.{Op, Flashes, after}
use Rattle.urna_outside.specs.Stop.{AtEachStop}
use Rattle.urna_outside.specs.Told.{Told, Does, Runs, port_of}
use Rattle.urna_outside.specs.declared.device.Dev.{Dev}
use Rattle.urna_outside.specs.declared.device.Dev.TheVariants.{Internal, External}
use Rattle.urna_outside.proofs.Doing.{does-append, told_after}
use Rattle.urna_outside.proofs.Faults.{ends_later, faultless_trans}
use Rattle.urna_outside.specs.Told.{AreSized}
use Rattle.urna_outside.proofs.Courses.{in-append, in_shows}
use Rattle.urna_outside.proofs.Runs.{syncs-append}
use Rattle.urna_outside.proofs.Stops.{stops-append_silent}
use Rattle.gate_slot.specs.Front.{IsFrontOfSome, IsUpTo}
use Rattle.gate_slot.proofs.Fronts.{up_to_as, up_to_first, up_to_later}
use Rattle.twin_image.specs.Heal.{Heals, IsHeal}
use Rattle.twin_image.specs.Level.{IsLevel}
use Rattle.twin_image.specs.Held.{HoldsBody, held_on}
use Rattle.twin_image.specs.Twin.{IsOfTwin}
use Rattle.twin_image.proofs.Mending.{cases_bytes}
use Rattle.twin_image.proofs.Ordering.{renewal_is, renewal_ops, renewals_join}
use Rattle.election_tables.specs.Limits.{most_voters}
use Rattle.election_tables.specs.Roll.{IsRoll, RollData}
use Rattle.election_tables.specs.TablesData.{IsTables, TablesData}
use Rattle.election_tables.specs.declared.tables.sections.Section.{Section}
use Rattle.image_codec.specs.Decoded.{decoded, rank_in}
use Rattle.image_codec.specs.Encoding.{IsEncoding, encode}
use Rattle.image_codec.specs.State.{State}
use Rattle.image_codec.proofs.Decoding.{decoded_back}
use Rattle.image_codec.specs.Layout.{body_size}
use Rattle.state_store.specs.Calls.{AreFound, BringsUp, FailsToPeek, FailsToRecover, IsBroughtUp, IsRecovery, Recovers}
use Rattle.state_store.specs.Finding.{EndsFinding}
use Rattle.state_store.specs.Held.{AreLoaded, HeldByBoth, HeldByNone, IsForeign, KeepFrames, poll}
use Rattle.state_store.specs.Load.{IsSectionOf, header, load_of}
use Rattle.state_store.specs.Rest.{AreAtRest}
use Rattle.state_store.specs.Store.{AreDevices}
use Rattle.state_store.specs.declared.store.StoreError.{StoreError}
use Rattle.state_store.specs.declared.store.StoreError.TheVariants as store
use Rattle.flash_store.specs.Calls.{KeepsHeld}
use Rattle.flash_store.specs.Held.{IsFirstOf, bodies_of_both}
use Rattle.flash_store.specs.Syncs.{IsSynced, both_synced}
use Rattle.flash_store.proofs.Holding.{held_first, held_state}
use Rattle.flash_store.proofs.Resting.{AreFramed, frames_at_end, frames_trans, framed_after, rests_after}
use Rattle.flash_store.proofs.Syncing.{frames_before, told_before}
use Rattle.flash_store.proofs.Tracing.{traced}
use Rattle.state_store.proofs.Stored.{long_state, reads}

-- finding no poll behind the syncs
pub fails_finding : (t : TablesData) (r : RollData) (a b c : Told) (error : StoreError) → IsSynced a b → Does [] b c → EndsFinding t r b c error → FailsToRecover t r a c error
fails_finding t r a b c store.Memory synced done ends = absurd ends
fails_finding t r a b c (store.Flash d) synced done ends = (
  ends_later (port_of d) a b c synced.fine ends,
  (both_synced, does-append both_synced [] a b c synced.does done, inr ([], refl, inl refl)),
)
fails_finding t r a b c (store.Foreign d) synced done ends = (
  record { does = does-append both_synced [] a b c synced.does done; fine = faultless_trans a b c synced.fine ends.0 },
  told_before a b (λ internal external. IsForeign t r d internal external) synced.does ends.1,
)
fails_finding t r a b c store.NoImage synced done ends = (
  record { does = does-append both_synced [] a b c synced.does done; fine = faultless_trans a b c synced.fine ends.0 },
  (
    ends.1.0,
    ends.1.1,
    told_before a b (λ internal external. AreLoaded t r ends.1.0 internal external × HeldByNone t (length r.titles) internal external) synced.does ends.1.2,
  ),
)

-- the same of a look at the flashes
pub fails_peeking : (t : TablesData) (r : RollData) (a b c : Told) (error : StoreError) → IsSynced a b → Does [] b c → EndsFinding t r b c error → FailsToPeek t r a c error
fails_peeking t r a b c store.Memory synced done ends = absurd ends
fails_peeking t r a b c (store.Flash d) synced done ends =
    (ends_later (port_of d) a b c synced.fine ends, (both_synced, does-append both_synced [] a b c synced.does done, inr refl))
fails_peeking t r a b c (store.Foreign d) synced done ends = fails_finding t r a b c (store.Foreign d) synced done ends
fails_peeking t r a b c store.NoImage synced done ends = fails_finding t r a b c store.NoImage synced done ends

module _ (t : TablesData) (r : RollData) (section : Section) (tables : IsTables t) (few : length r.titles ≤ most_voters) (s : State) (body : List ℕ) (known : decoded t (length r.titles) body ≡ Some s) where
  -- what is held as a body is held as a state
  held_now : (internal external : List ℕ) → held_on (rank_in t (length r.titles)) body_size internal external ≡ Some body
      → HeldByBoth t (length r.titles) internal external s
  held_now internal external is =
      held_state (poll t (length r.titles)) (decoded t (length r.titles)) (reads t (length r.titles) tables few) internal external body s known is

  -- and it is the first that is an encoding of the state
  first_now : (internal external : List ℕ) → held_on (rank_in t (length r.titles)) body_size internal external ≡ Some body
      → IsFirstOf (poll t (length r.titles)) s (bodies_of_both body_size internal external) body
  first_now internal external is =
      held_first (poll t (length r.titles)) (decoded t (length r.titles)) (reads t (length r.titles) tables few) internal external body s known is

  -- what is found behind the syncs was there before them
  pub found_before : (a b : Told) → Does both_synced a b → ForSome b.flashes (λ fs. AreLoaded t r section fs.internal.content fs.external.content)
      → ForSome b.flashes (HoldsBody (rank_in t (length r.titles)) body_size body) → ForSome a.flashes (AreFound t r section s)
  found_before a b synced loaded held start told =
      let mid = after both_synced start in
      let told_b = told_after both_synced a b start synced told in
      record { loaded = loaded mid told_b; held = held_now mid.internal.content mid.external.content (held mid told_b) }

  -- what the body's change to the encoding that is written today does
  change_is : (ops : List Op) × IsBroughtUp t s body ops
  change_is = elim (cases_bytes body (encode t s)) [
    | inl same ↦ ([], inl (same, refl))
    | inr differs ↦
        let internal = renewal_ops body_size Internal body (encode t s) in
        let external = renewal_ops body_size External body (encode t s) in
        let all = renewals_join body_size body (encode t s) internal external (renewal_is body_size Internal body (encode t s)) (renewal_is body_size External body (encode t s)) in
        (internal ++ external, inr (differs, all))
  ]

  -- the syncs change no content
  over_start : (start : Flashes) (ops : List Op) → IsHeal body_size body (after both_synced start) ops → IsHeal body_size body start ops
  over_start start ops heal =
      record {
        internal = heal.internal;
        external = heal.external;
        internal_is = heal.internal_is;
        external_is = heal.external_is;
        in_row = heal.in_row;
      }

  -- a heal and the change of the body, behind the syncs
  abbrev Behind : Flashes → List Op → Type 0
  Behind start ops = IsRecovery t (length r.titles) s start (both_synced ++ ops)

  -- all that was done: syncs, heal, and the change of the body
  module _ (a b c d : Told) (synced : Does both_synced a b) (done : Does [] b c) (held : ForSome b.flashes (HoldsBody (rank_in t (length r.titles)) body_size body)) where
    recovery_joins : (start : Flashes) → a.flashes ≡ Some start → (xs ys : List Op) → IsHeal body_size body start xs → IsBroughtUp t s body ys → Behind start (xs ++ ys)
    recovery_joins start told xs ys heals brings_up =
        let mid = after both_synced start in
        record {
          body = body;
          held = first_now mid.internal.content mid.external.content (held mid (told_after both_synced a b start synced told));
          heal = xs;
          heals = heals;
          change = ys;
          brings_up = brings_up;
          in_row = refl;
        }

    behind_syncs : (start : Flashes) (ops : List Op) → IsUpTo (Behind start) ops → IsUpTo (IsRecovery t (length r.titles) s start) (both_synced ++ ops)
    behind_syncs start ops behind =
        up_to_later (λ xs. xs ≡ both_synced) (Behind start) (IsRecovery t (length r.titles) s start) both_synced ops
        (λ xs ys first then. subst (λ (l : List Op). IsRecovery t (length r.titles) s start (l ++ ys)) (sym first) then) refl behind

    -- the heal was cut off
    cut_in_heal : ForSome c.flashes (λ start. Runs (IsUpTo (IsHeal body_size body start)) c d) → ForSome a.flashes (λ start. Runs (IsUpTo (IsRecovery t (length r.titles) s start)) a d)
    cut_in_heal cut start told =
        let mid = after both_synced start in
        let healed = cut mid (told_after [] b c mid done (told_after both_synced a b start synced told)) in
        let heals = up_to_as (IsHeal body_size body mid) (IsHeal body_size body start) healed.0 (over_start start) healed.2 in (
          both_synced ++ healed.0,
          does-append both_synced healed.0 a c d (does-append both_synced [] a b c synced done) healed.1,
          behind_syncs start healed.0 (up_to_first (IsHeal body_size body start) (IsBroughtUp t s body) (Behind start) healed.0 change_is.0 (recovery_joins start told) change_is.1 heals),
        )

    module _ (e : Told) (heals : ForSome c.flashes (λ start. Runs (IsHeal body_size body start) c d)) where
      -- what was done behind the syncs
      healed_then : (P : List Op → Type 0) → ForSome d.flashes (λ start. Runs P d e) → (start : Flashes) → a.flashes ≡ Some start
          → (heal : List Op) × (change : List Op) × Does (both_synced ++ (heal ++ change)) a e × IsHeal body_size body start heal × P change
      healed_then P second start told =
          let mid = after both_synced start in
          let told_c = told_after [] b c mid done (told_after both_synced a b start synced told) in
          let healed = heals mid told_c in
          let changed = second (after healed.0 mid) (told_after healed.0 c d mid healed.1 told_c) in
          let first = does-append both_synced healed.0 a c d (does-append both_synced [] a b c synced done) healed.1 in (
            healed.0,
            changed.0,
            subst (λ (ops : List Op). Does ops a e) (append_assoc both_synced healed.0 changed.0) (does-append (both_synced ++ healed.0) changed.0 a d e first changed.1),
            over_start start healed.0 healed.2,
            changed.2,
          )

      -- all was done
      pub recovered_exactly : ForSome d.flashes (λ start. Runs (IsBroughtUp t s body) d e) → ForSome a.flashes (λ start. Runs (IsRecovery t (length r.titles) s start) a e)
      recovered_exactly second start told =
          let all = healed_then (IsBroughtUp t s body) second start told in
          (both_synced ++ (all.0 ++ all.1), all.2, recovery_joins start told all.0 all.1 all.3 all.4)

      -- or the change of the body was cut off
      cut_in_change : ForSome d.flashes (λ start. Runs (IsUpTo (IsBroughtUp t s body)) d e) → ForSome a.flashes (λ start. Runs (IsUpTo (IsRecovery t (length r.titles) s start)) a e)
      cut_in_change second start told =
          let all = healed_then (IsUpTo (IsBroughtUp t s body)) second start told in (
            both_synced ++ (all.0 ++ all.1),
            all.2,
            behind_syncs start (all.0 ++ all.1) (up_to_later (IsHeal body_size body start) (IsBroughtUp t s body) (Behind start) all.0 all.1 (recovery_joins start told) all.3 all.4),
          )

  module _ (a b c d : Told) (synced : Does both_synced a b) (done : Does [] b c)
      (loaded : ForSome b.flashes (λ fs. AreLoaded t r section fs.internal.content fs.external.content))
      (held : ForSome b.flashes (HoldsBody (rank_in t (length r.titles)) body_size body))
      (run : Runs (Heals c body_size body) c d) where
    -- behind the syncs the state that was found is kept
    recovers_stops : ForSome a.flashes (λ start. AreFound t r section s start
        × AtEachStop (after both_synced start) run.0 (λ left. HeldByBoth t (length r.titles) left.internal left.external s × KeepFrames start left))
    recovers_stops start told =
        let mid = after both_synced start in
        let told_b = told_after both_synced a b start synced told in
        let told_c = told_after [] b c mid done told_b in (
          record { loaded = loaded mid told_b; held = held_now mid.internal.content mid.external.content (held mid told_b) },
          λ done stop left is. (
            held_now left.internal left.external ((run.2.stops mid told_c done stop left is).both (rank_in t (length r.titles)) (held mid told_b)),
            frames_before body_size start left (run.2.frames mid told_c done stop left is),
          ),
        )

    does_all : Does (both_synced ++ run.0) a d
    does_all = does-append both_synced run.0 a c d (does-append both_synced [] a b c synced done) run.1

    -- and it is kept while the body becomes the encoding that is written today
    module _ (e : Told) (second : Runs (BringsUp t (length r.titles) s d) d e) (heals : ForSome c.flashes (λ start. Runs (IsHeal body_size body start) c d))
        (change : ForSome d.flashes (λ start. Runs (IsUpTo (IsBroughtUp t s body)) d e)) where
      does_both : Does (both_synced ++ (run.0 ++ second.0)) a e
      does_both =
          subst (λ (ops : List Op). Does ops a e) (append_assoc both_synced run.0 second.0) (does-append (both_synced ++ run.0) second.0 a d e does_all second.1)

      recovers_on : Recovers t r section s a (run.0 ++ second.0)
      recovers_on =
          record {
            slots = record {
              within = in-append (λ d k. IsOfTwin body_size k) run.0 second.0 run.2.within second.2.slots.within;
              syncs = omega (arith, syncs-append run.0 second.0, run.2.syncs, second.2.slots.syncs);
            };
            stops = λ start told.
                let mid = after both_synced start in
                let told_b = told_after both_synced a b start synced told in
                let told_c = told_after [] b c mid done told_b in
                let told_d = told_after run.0 c d mid run.1 told_c in
                let first = recovers_stops start told in
                let kept = frames_at_end body_size start mid run.0 (λ stop_ops stop left is. (first.1 stop_ops stop left is).1) in (
                  first.0,
                  stops-append_silent mid run.0 second.0 (λ left. HeldByBoth t (length r.titles) left.internal left.external s × KeepFrames start left) (in_shows (λ d k. IsOfTwin body_size k) run.0 run.2.within) first.1
                      (λ stop_ops stop left is.
                      let then = second.2.stops (after run.0 mid) told_d stop_ops stop left is in
                      (then.0.both, frames_trans body_size start (after run.0 mid) left kept then.1)),
                );
            order = λ trail start told.
                traced (IsUpTo (IsRecovery t (length r.titles) s start)) a e (both_synced ++ (run.0 ++ second.0)) trail does_both (cut_in_change a b c d synced done held e heals change start told);
          }

      pub recovered : Runs (λ ops. (rest : List Op) × (ops ≡ both_synced ++ rest) × Recovers t r section s a rest) a e
      recovered = (both_synced ++ (run.0 ++ second.0), does_both, (run.0 ++ second.0, refl, recovers_on))

      -- the change of the body failed at a device
      pub fails_changing : (dev : Dev) → IsSectionOf t r section → IsFaultless a d → EndsAt (port_of dev) d e → FailsToRecover t r a e (store.Flash dev)
      fails_changing dev fits fine ends = (
        ends_later (port_of dev) a d e fine ends,
        (both_synced ++ (run.0 ++ second.0), does_both, inr (run.0 ++ second.0, refl, inr (section, s, fits, recovers_on))),
      )

    -- the heal failed at a device
    pub fails_healing : ForSome c.flashes (λ start. Runs (IsUpTo (IsHeal body_size body start)) c d) → (dev : Dev) → IsSectionOf t r section → IsFaultless a c → EndsAt (port_of dev) c d
        → FailsToRecover t r a d (store.Flash dev)
    fails_healing cut dev fits fine ends =
        let recovers : Recovers t r section s a run.0 = record {
          slots = record { within = run.2.within; syncs = omega (arith, run.2.syncs) };
          stops = recovers_stops;
          order = λ trail start told. traced (IsUpTo (IsRecovery t (length r.titles) s start)) a d (both_synced ++ run.0) trail does_all (cut_in_heal a b c d synced done held cut start told);
        } in (
          ends_later (port_of dev) a c d fine ends,
          (both_synced ++ run.0, does_all, inr (run.0, refl, inr (section, s, fits, recovers))),
        )

-- all of it, or a front of it
pub up_to_whole : (P : List Op → Type 0) (a b : Told) → ForSome a.flashes (λ start. Runs P a b) → ForSome a.flashes (λ start. Runs (IsUpTo P) a b)
up_to_whole P a b done start told = let run = done start told in (run.0, run.1, inl run.2)

pub up_to_front : (P : List Op → Type 0) (a b : Told) → ForSome a.flashes (λ start. Runs (IsFrontOfSome P) a b) → ForSome a.flashes (λ start. Runs (IsUpTo P) a b)
up_to_front P a b cut start told = let run = cut start told in (run.0, run.1, inr run.2)

-- the frames of a section's load
framed_of : (t : TablesData) (r : RollData) (section : Section) (fs : Flashes) → AreLoaded t r section fs.internal.content fs.external.content → AreFramed body_size (header (load_of t r section)) fs
framed_of t r section fs loaded Internal = loaded.internal_frame
framed_of t r section fs loaded External = loaded.external_frame

-- The bytes that both flashes hold are an encoding of a state, which the flashes are at rest with in the end.
module _ (t : TablesData) (r : RollData) (section : Section) (tables : IsTables t) (roll : IsRoll r) (fits : IsSectionOf t r section) (s : State) (body : List ℕ) (is : IsEncoding t (length r.titles) s body) where
  pub found_known : decoded t (length r.titles) body ≡ Some s
  found_known = decoded_back t (length r.titles) body s tables roll.count.1 is

  pub found_encoding : IsEncoding t section.voters s body
  found_encoding = subst (λ (n : ℕ). IsEncoding t n s body) (sym fits.voters) is

  pub rests_brought : (c d e : Told) → AreDevices c.sizes → ForSome c.flashes (AreSized c.sizes) → ForSome d.flashes (AreSized d.sizes) → ForSome e.flashes (AreSized e.sizes) → ForSome c.flashes (λ fs. AreLoaded t r section fs.internal.content fs.external.content)
      → Runs (Heals c body_size body) c d → Runs (BringsUp t (length r.titles) s d) d e → ForSome e.flashes (IsLevel body_size (encode t s)) → ForSome e.flashes (AreAtRest t (load_of t r section) s)
  rests_brought c d e devices sized sized_d sized_e loaded run second level =
      let load = load_of t r section in
      let framed = framed_after body_size (header load) _ c d devices sized (λ fs told. framed_of t r section fs (loaded fs told)) run run.2.frames in
      rests_after body_size (header load) (encode t s) _ d e (subst AreDevices (sym run.1.sizes) devices) sized_d sized_e (long_state t (length r.titles) s tables roll.count.1 is.state) framed second
      (λ start told done stop left at. (second.2.stops start told done stop left at).1) level

  -- by the number of those whom the state has
  pub brought_named : (d e : Told) → Runs (BringsUp t (length s.came) s d) d e → Runs (BringsUp t (length r.titles) s d) d e
  brought_named d e run = subst (λ (n : ℕ). Runs (BringsUp t n s d) d e) is.state.roll run

-- what recovers a state keeps it held
pub recovers_keep : (t : TablesData) (r : RollData) (section : Section) (s : State) (a b : Told) → Runs (λ ops. (rest : List Op) × (ops ≡ both_synced ++ rest) × Recovers t r section s a rest) a b
    → Runs (λ ops. (rest : List Op) × (ops ≡ both_synced ++ rest) × KeepsHeld (poll t section.voters) s a rest) a b
recovers_keep t r section s a b (ops, does, (rest, is, recovers)) = (
  ops,
  does,
  (
    rest,
    is,
    record {
      within = recovers.slots.within;
      stops = λ start told done stop left leaves.
          let there = recovers.stops start told in
          let holds = there.1 done stop left leaves in
          (subst (λ (n : ℕ). HeldByBoth t n left.internal left.external s) (sym there.0.loaded.section_fits.voters) holds.0, holds.1);
    },
  ),
)

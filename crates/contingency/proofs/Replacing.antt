-- A replacement: two syncs, three tests, and the writes.
use Rattle.std.proofs.Common.{◌≡◌, ◌⊎◌, inl, inr, ℕ, Some, List, [], ◌++◌, length, refl, sym, ap, subst, ◌∙◌, arith}
use Rattle.std.specs.Option.{ForSome}
use Rattle.urna_outside.specs.Faults.{EndsAt, IsFaultless}
use Rattle.urna_outside.specs.Flash.{Flashes, Op, after, flash_of}
use Rattle.urna_outside.specs.Started.{clean_flashes}
use Rattle.urna_outside.specs.Stop.{Left, left_on}
use Rattle.urna_outside.specs.Told.{AreSized, Does, Runs, Told, port_of}
use Rattle.urna_outside.specs.declared.device.Dev.{Dev}
use Rattle.urna_outside.specs.declared.device.Dev.TheVariants.{Internal, External}
use Rattle.urna_outside.proofs.Doing.{does-append, then_told, told_after}
use Rattle.urna_outside.proofs.Faults.{ends_later, faultless_trans}
use Rattle.election_tables.specs.Roll.{IsRoll, RollData}
use Rattle.election_tables.specs.TablesData.{IsTables, TablesData}
use Rattle.election_tables.specs.declared.tables.sections.Section.{Section}
use Rattle.gate_slot.specs.Device.{OnFlash}
use Rattle.gate_slot.specs.Front.{IsUpTo}
use Rattle.image_codec.specs.Decoded.{decoded, rank_in}
use Rattle.image_codec.specs.Encoding.{IsEncoding, encode}
use Rattle.image_codec.specs.Layout.{body_size}
use Rattle.image_codec.specs.State.{State}
use Rattle.image_codec.proofs.Decoding.{decoded_back}
use Rattle.twin_image.specs.Frame.{FrameStands, HasFrame}
use Rattle.twin_image.specs.Held.{held_alone}
use Rattle.twin_image.specs.Level.{IsLevel}
use Rattle.twin_image.specs.Slots.{beside}
use Rattle.twin_image.proofs.Laid.{frame_image, frame_kept}
use Rattle.twin_image.proofs.Renewing.{content_image}
use Rattle.flash_store.specs.Syncs.{IsSynced, both_synced}
use Rattle.state_store.specs.Calls.{AreFound}
use Rattle.state_store.specs.Held.{HasFrameOf, HeldAlone, HeldByBoth}
use Rattle.state_store.specs.Laws.{AreWhole}
use Rattle.state_store.specs.Load.{IsSectionOf, header, load_of}
use Rattle.state_store.specs.Rest.{AreAtRest, IsInUse, device_size}
use Rattle.state_store.specs.Store.{AreDevices}
use Rattle.flash_store.proofs.Resting.{at_end, level_rests}
use Rattle.state_store.proofs.Stored.{header_long, long_state}
use Rattle.contingency.specs.Calls.{FailsToReplace, IsReplacement, Replaces}
use Rattle.contingency.specs.Replaced.{IsReplaced, LeavesStanding}
use Rattle.contingency.specs.Restored.{IsRestored, LeavesHeld, Restores}
use Rattle.contingency.specs.declared.replacement.ReplaceError.TheVariants as error
use Rattle.contingency.proofs.Alone.{body_alone, first_alone}
use Rattle.contingency.proofs.Devices.{content_synced, on_two}
use Rattle.contingency.proofs.Finding.{content_before}
use Rattle.contingency.proofs.InRow.{both_done, second_cut}
use Rattle.flash_store.proofs.Tracing.{traced}

-- what was found: the section, whose frame the standing device has, the body that it holds, and the state of that
pub record IsFound (t : TablesData) (r : RollData) (section : Section) (s : State) (body : List ℕ) (replaced : Dev) (told : Told) : Type 0 where
  pub tables : IsTables t
  pub roll : IsRoll r
  pub fits : IsSectionOf t r section
  pub encoding : IsEncoding t (length r.titles) s body
  pub frame : OnFlash (beside replaced) (λ f. HasFrameOf t r section (beside replaced) f.content) told
  pub holds : OnFlash (beside replaced) (λ f. held_alone (rank_in t (length r.titles)) body_size f.content ≡ Some body) told
  pub unused : OnFlash replaced (λ f. ¬ IsInUse f.content) told

-- It is so where those bytes were read as the state.
pub is_found : (t : TablesData) (r : RollData) (section : Section) (s : State) (body bytes : List ℕ) (places : ℕ) (replaced : Dev) (told : Told) → bytes ≡ body → places ≡ length r.titles → IsEncoding t places s bytes
    → IsTables t → IsRoll r → IsSectionOf t r section → OnFlash (beside replaced) (λ f. HasFrameOf t r section (beside replaced) f.content) told
    → OnFlash (beside replaced) (λ f. held_alone (rank_in t (length r.titles)) body_size f.content ≡ Some body) told → OnFlash replaced (λ f. ¬ IsInUse f.content) told
    → IsFound t r section s body replaced told
is_found t r section s body bytes places replaced told same as_many read tables roll fits frame holds unused =
    record {
      tables = tables;
      roll = roll;
      fits = fits;
      encoding = subst (λ (n : ℕ). IsEncoding t n s body) as_many (subst (IsEncoding t places s) same read);
      frame = frame;
      holds = holds;
      unused = unused;
    }

-- what is so where a replacement ends well
pub record HasReplaced (t : TablesData) (r : RollData) (section : Section) (s : State) (replaced : Dev) (a d : Told) : Type 0 where
  pub rest : ForSome d.flashes (AreAtRest t (load_of t r section) s)
  pub ran : Runs (λ ops. (rest : List Op) × (ops ≡ both_synced ++ rest) × Replaces t r section s replaced a rest) a d
  pub exact : ForSome a.flashes (λ start. Runs (IsReplacement t r section s replaced start) a d)

module _ (t : TablesData) (r : RollData) (section : Section) (s : State) (body : List ℕ) (replaced : Dev) (a b c : Told) (devices : AreDevices a.sizes) (sized : ForSome c.flashes (AreSized c.sizes))
    (synced : IsSynced a b) (done : Does [] b c) (found : IsFound t r section s body replaced b) where
  abbrev voters : ℕ
  voters = length r.titles

  abbrev standing : Dev
  standing = beside replaced

  abbrev head : List ℕ
  head = header (load_of t r section) replaced

  known : decoded t voters body ≡ Some s
  known = decoded_back t voters body s found.tables found.roll.count.1 found.encoding

  begun : Does both_synced a c
  begun = does-append both_synced [] a b c synced.does done

  devices_then : AreDevices c.sizes
  devices_then = subst AreDevices (sym begun.sizes) devices

  held_before : OnFlash standing (λ f. held_alone (rank_in t voters) body_size f.content ≡ Some body) a
  held_before = content_before standing (λ content. held_alone (rank_in t voters) body_size content ≡ Some body) a b synced.does found.holds

  -- so it was before the syncs
  replaced_before : ForSome a.flashes (IsReplaced t r section s replaced)
  replaced_before start told = record {
    standing = record {
      section_fits = found.fits;
      frame = content_before standing (HasFrameOf t r section standing) a b synced.does found.frame start told;
      held = body_alone t voters found.tables found.roll.count.1 s (flash_of standing start).content body (held_before start told) known;
    };
    unused = content_before replaced (λ content. ¬ IsInUse content) a b synced.does found.unused start told;
  }

  long : (start : Flashes) → a.flashes ≡ Some start → (d : Dev) → length (flash_of d (after both_synced start)).content ≡ device_size
  long start told d = (sized (after both_synced start) (told_after both_synced a c start begun told)).content d ∙ devices_then d

  -- what the writes leave is what a replacement leaves
  leaves : (start : Flashes) → a.flashes ≡ Some start → (left : Left) → LeavesHeld t s replaced head (after both_synced start) left → LeavesStanding t r section s replaced left
  leaves start told left held =
      let was = replaced_before start told in
      let frame = frame_kept body_size (header (load_of t r section) standing) (flash_of standing (after both_synced start)).content (left_on standing left)
      (omega (arith, long start told standing)) held.frame
      (subst (HasFrameOf t r section standing) (sym (content_synced standing start)) was.standing.frame) in
      record {
        whole = each_whole (on_two (λ d. length (left_on d left) ≡ device_size) replaced (held.frame.same_length ∙ long start told standing) (held.same_length ∙ long start told replaced));
        standing = record {
          section_fits = found.fits;
          frame = frame;
          held = subst (λ (n : ℕ). HeldAlone t n (left_on standing left) s) found.encoding.state.roll held.held;
        };
        other = either was.unused frame held.other;
      }
    where
      each_whole : ((d : Dev) → length (left_on d left) ≡ device_size) → AreWhole (clean_flashes left.internal left.external)
      each_whole each Internal = each Internal
      each_whole each External = each External

      either : ¬ IsInUse (flash_of replaced start).content → HasFrameOf t r section standing (left_on standing left)
          → (IsInUse (left_on replaced left) → IsInUse (flash_of replaced (after both_synced start)).content) ⊎ (HasFrame body_size head (left_on replaced left) × HeldByBoth t (length s.came) left.internal left.external s)
          → (¬ IsInUse (left_on replaced left)) ⊎ AreFound t r section s (clean_flashes left.internal left.external)
      either unused frame (inl before) =
          inl (λ busy. unused (subst IsInUse (content_synced replaced start) (before busy)))
      either unused frame (inr both) =
          let framed = on_two (λ d. HasFrameOf t r section d (left_on d left)) replaced frame both.0 in
          inr (record {
            loaded = record { section_fits = found.fits; internal_frame = framed Internal; external_frame = framed External };
            held = subst (λ (n : ℕ). HeldByBoth t n left.internal left.external s) found.encoding.state.roll both.1;
          })

  -- ---- the writes

  -- with the header and the bytes by other names
  module _ (d : Told) (top bytes : List ℕ) (named : top ≡ head) (same : bytes ≡ body) where
    abbrev AreSynced : Flashes → List Op → Type 0
    AreSynced start ops = ops ≡ both_synced

    abbrev AreRestored : Flashes → List Op → Type 0
    AreRestored mid ops = IsRestored t s replaced top bytes mid ops

    abbrev AreReplaced : Flashes → List Op → Type 0
    AreReplaced start ops = IsReplacement t r section s replaced start ops

    -- the syncs change no content
    over_start : (x : Dev) (start : Flashes) (l : List ℕ) {ops : List Op} → IsRestored t s x l body (after both_synced start) ops → IsRestored t s x l body start ops
    over_start Internal start l is = record { front = is.front; brings_up = is.brings_up; in_row = is.in_row }
    over_start External start l is = record { front = is.front; brings_up = is.brings_up; in_row = is.in_row }

    replacement : (start : Flashes) → a.flashes ≡ Some start → (xs ys : List Op) → Does xs a c → AreSynced start xs → AreRestored (after xs start) ys → AreReplaced start (xs ++ ys)
    replacement start told xs ys does first writes =
        let over_both = subst (λ (ops : List Op). AreRestored (after ops start) ys) first writes in
        let over_body = subst (λ (l : List ℕ). IsRestored t s replaced head l (after both_synced start) ys) same (subst (λ (l : List ℕ). IsRestored t s replaced l bytes (after both_synced start) ys) named over_both) in
        record {
          body = body;
          held = first_alone t voters found.tables found.roll.count.1 s (flash_of standing start).content body (held_before start told) known;
          writes = ys;
          restored = over_start replaced start head over_body;
          in_row = ap (λ (l : List Op). l ++ ys) first;
        }

    first_synced : ForSome a.flashes (λ start. Runs (AreSynced start) a c)
    first_synced start told = (both_synced, begun, refl)

    -- as far as it came
    module _ (restores : Runs (Restores t s replaced top c) c d) (up_to : ForSome c.flashes (λ mid. Runs (IsUpTo (AreRestored mid)) c d)) where
      run : Runs (Restores t s replaced head c) c d
      run = subst (λ (l : List ℕ). Runs (Restores t s replaced l c) c d) named restores

      does_all : Does (both_synced ++ run.0) a d
      does_all = does-append both_synced run.0 a c d begun run.1

      replaces : Replaces t r section s replaced a run.0
      replaces = record {
        within = run.2.within;
        syncs = run.2.syncs;
        stops = λ start told. (
          replaced_before start told,
          λ done_ops stop left is. leaves start told left (run.2.stops (after both_synced start) (told_after both_synced a c start begun told) done_ops stop left is),
        );
        order = λ trail start told.
            traced (IsUpTo (AreReplaced start)) a d (both_synced ++ run.0) trail does_all (second_cut AreSynced AreRestored AreReplaced a c d replacement first_synced up_to start told);
      }

      -- a device failed
      pub fails_restoring : (dev : Dev) → IsFaultless b c → EndsAt (port_of dev) c d → FailsToReplace t r replaced a d (error.Flash dev)
      fails_restoring dev fine ends = (
        ends_later (port_of dev) a c d (faultless_trans a b c synced.fine fine) ends,
        (both_synced ++ run.0, does_all, inr (run.0, refl, inr (section, s, found.fits, replaces))),
      )

      -- in the end both are at rest
      rests : ForSome d.flashes (AreSized d.sizes) → ForSome d.flashes (IsLevel body_size (encode t s)) → OnFlash replaced (FrameStands body_size top) d → ForSome d.flashes (AreAtRest t (load_of t r section) s)
      rests sized_d level stands =
          then_told (both_synced ++ run.0) a d (AreAtRest t (load_of t r section) s) does_all (λ start told.
          let mid = after both_synced start in
          let fs = after run.0 mid in
          let told_d = told_after run.0 c d mid run.1 (told_after both_synced a c start begun told) in
          let left = at_end mid run.0 (LeavesStanding t r section s replaced) ((replaces.stops start told).1) in
          let other = content_left standing fs _ left.standing.frame in
          let top_long = ap length named ∙ header_long t r (load_of t r section) replaced (record { tables = found.tables; roll = found.roll; section = found.fits; same = refl }) in
          let own = subst (λ (l : List ℕ). HasFrame body_size l (flash_of replaced fs).content) named (frame_image body_size top (flash_of replaced fs) (flash_of replaced fs).content top_long (stands fs told_d) (content_image (flash_of replaced fs))) in
          level_rests body_size (header (load_of t r section)) (encode t s) (long_state t voters s found.tables found.roll.count.1 found.encoding.state) d.sizes fs (subst AreDevices (sym run.1.sizes) devices_then) (sized_d fs told_d) (level fs told_d)
          (on_two (λ e. HasFrameOf t r section e (flash_of e fs).content) replaced other own))
        where
          -- the content is what is left where the power stays
          content_left : (e : Dev) (x : Flashes) (text : List ℕ) → HasFrameOf t r section e (left_on e (record { internal = x.internal.content; external = x.external.content; shown = text })) → HasFrameOf t r section e (flash_of e x).content
          content_left Internal x text frame = frame
          content_left External x text frame = frame

    -- all of it was done
    pub has_replaced : Runs (Restores t s replaced top c) c d → ForSome c.flashes (λ mid. Runs (AreRestored mid) c d) → ForSome d.flashes (AreSized d.sizes) → ForSome d.flashes (IsLevel body_size (encode t s)) → OnFlash replaced (FrameStands body_size top) d
        → HasReplaced t r section s replaced a d
    has_replaced restores exact sized_d level stands =
        let up_to : ForSome c.flashes (λ mid. Runs (IsUpTo (AreRestored mid)) c d) = λ mid told. let one = exact mid told in (one.0, one.1, inl one.2) in
        record {
          rest = rests restores up_to sized_d level stands;
          ran = (both_synced ++ (run restores up_to).0, does_all restores up_to, ((run restores up_to).0, refl, replaces restores up_to));
          exact = both_done AreSynced AreRestored AreReplaced a c d replacement first_synced exact;
        }

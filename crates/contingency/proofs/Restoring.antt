-- The standing device is brought up, and the replaced one is loaded.
use Rattle.std.proofs.Common.{◌≡◌, ◌≢◌, ◌⊎◌, inl, inr, ℕ, ◌<◌, ◌≤◌, Some, List, [], ◌++◌, length, refl, sym, ap, subst, ◌∙◌, arith}
use Rattle.std.proofs.lemmas.Bool.{cases_eq}
use Rattle.std.specs.Option.{ForSome}
use Rattle.urna_outside.specs.Confined.{KeepsOthers}
use Rattle.urna_outside.specs.Flash.{Flash, Flashes, IsClean, IsImage, Op, after, flash_of}
use Rattle.urna_outside.specs.Stage.{Course}
use Rattle.urna_outside.specs.Stop.{Left, left_on}
use Rattle.urna_outside.specs.Told.{AreSized, Does, Runs, Told, size_of}
use Rattle.urna_outside.specs.declared.device.Dev.{Dev}
use Rattle.urna_outside.specs.declared.device.Dev.TheVariants.{Internal, External}
use Rattle.urna_outside.proofs.Courses.{courses-append, course_weaker}
use Rattle.urna_outside.proofs.Doing.{told_after}
use Rattle.urna_outside.proofs.Runs.{run_keeps}
use Rattle.urna_outside.proofs.Stages.{left_image, stage_stronger}
use Rattle.election_tables.specs.Limits.{most_voters}
use Rattle.election_tables.specs.TablesData.{IsTables, TablesData}
use Rattle.gate_slot.specs.Device.{OnFlash}
use Rattle.gate_slot.specs.Front.{IsFrontOf, IsUpTo}
use Rattle.gate_slot.specs.Slot.{gate_in, open_gate, room}
use Rattle.image_codec.specs.Decoded.{decoded}
use Rattle.image_codec.specs.Encoding.{IsStateOf, encode}
use Rattle.image_codec.specs.Layout.{body_size}
use Rattle.image_codec.specs.State.{State}
use Rattle.twin_image.specs.Frame.{HasFrame}
use Rattle.twin_image.specs.Lay.{IsLate, LaysOn, LeavesLaid, lay_ops}
use Rattle.twin_image.specs.Level.{IsLevel}
use Rattle.twin_image.specs.Slots.{AreClean, beside}
use Rattle.twin_image.specs.Twin.{HoldsEither, IsOfTwin, IsTwin}
use Rattle.twin_image.proofs.Committing.{differs, other_kept}
use Rattle.twin_image.proofs.Renewing.{live_image, stage_rest, twin_bounded}
use Rattle.state_store.specs.Held.{HeldAlone, HeldByBoth}
use Rattle.state_store.specs.Load.{magic}
use Rattle.state_store.specs.Rest.{IsBegun, IsInUse, IsUsed, device_size}
use Rattle.state_store.specs.Store.{AreDevices}
use Rattle.flash_store.proofs.Resting.{clean_image}
use Rattle.state_store.proofs.Stored.{known_state, long_state}
use Rattle.flash_store.proofs.InUse.{early_before}
use Rattle.contingency.specs.Restored.{AreBroughtUp, Brings, IsRestored, LeavesHeld, MayBeWritten, Restores}
use Rattle.contingency.proofs.Alone.{either_alone, either_both}
use Rattle.contingency.proofs.Devices.{course_in, differs_back, image_of_other, on_two}
use Rattle.contingency.proofs.InRow.{both_done, first_cut, second_cut}

-- the places of either device
standing_place : (replaced : Dev) (k : ℕ) → IsOfTwin body_size k → MayBeWritten replaced (beside replaced) k
standing_place Internal k is = is
standing_place External k is = is

replaced_place : (replaced : Dev) (k : ℕ) → k < device_size → MayBeWritten replaced replaced k
replaced_place Internal k is = is
replaced_place External k is = is

-- a slot that is shut isn't used
none_used : (image : List ℕ) → gate_in body_size 0 image ≢ open_gate → gate_in body_size 1 image ≢ open_gate → ¬ IsInUse image
none_used image first second busy = either busy.used
  where
    either : ¬ (IsUsed 0 image ⊎ IsUsed 1 image)
    either (inl used) = first used.0
    either (inr used) = second used.0

-- both slots of a device are live with this body
twin_holds : (body : List ℕ) (f : Flash) (image : List ℕ) → length body ≡ body_size → IsTwin body_size body f → IsImage f image → HoldsEither body_size body body image
twin_holds body f image long twin is =
    let first = live_image body_size 0 body f image long twin.first is in
    let second = live_image body_size 1 body f image long twin.second is in
    record { first = λ gate. inl first.1; second = λ gate. inl second.1; open_one = inl first.0 }

-- a device that is loaded has the frame, and in each open slot the body
late_holds : (header body image : List ℕ) → IsLate body_size header body image → (gate_in body_size 0 image ≡ open_gate) ⊎ (gate_in body_size 1 image ≡ open_gate) → HoldsEither body_size body body image
late_holds header body image late one =
    record { first = λ gate. inl (late.first gate).0; second = λ gate. inl (late.second gate).0; open_one = one }

late_framed : (header body image : List ℕ) → IsLate body_size header body image → (gate_in body_size 0 image ≡ open_gate) ⊎ (gate_in body_size 1 image ≡ open_gate) → HasFrame body_size header image
late_framed header body image late (inl gate) = (late.first gate).1
late_framed header body image late (inr gate) = (late.second gate).1

-- one of the slots is open, or neither is
opened_one : (image : List ℕ) → ((gate_in body_size 0 image ≡ open_gate) ⊎ (gate_in body_size 1 image ≡ open_gate)) ⊎ ((gate_in body_size 0 image ≢ open_gate) × (gate_in body_size 1 image ≢ open_gate))
opened_one image = elim (cases_eq (gate_in body_size 0 image) open_gate) [
  | inl first ↦ inl (inl first)
  | inr shut ↦
      elim (cases_eq (gate_in body_size 1 image) open_gate) [
        | inl second ↦ inl (inr second)
        | inr also ↦ inr (shut, also)
      ]
]

-- what is so where it stops, and where it ends well
pub record HasStopped (t : TablesData) (s : State) (replaced : Dev) (header body : List ℕ) (a b : Told) : Type 0 where
  pub ran : Runs (Restores t s replaced header a) a b
  pub cut : ForSome a.flashes (λ start. Runs (IsUpTo (IsRestored t s replaced header body start)) a b)

pub record HasRestored (t : TablesData) (s : State) (replaced : Dev) (header body : List ℕ) (a c : Told) : Type 0 where
  pub level : ForSome c.flashes (IsLevel body_size (encode t s))
  pub ran : Runs (Restores t s replaced header a) a c
  pub exact : ForSome a.flashes (λ start. Runs (IsRestored t s replaced header body start) a c)

-- ---- the standing device is brought up

module _ (t : TablesData) (s : State) (tables : IsTables t) (few : length s.came ≤ most_voters) (of : IsStateOf t (length s.came) s) (replaced : Dev) (header body : List ℕ) (a b : Told) (devices : AreDevices a.sizes)
    (sized : ForSome a.flashes (AreSized a.sizes)) (clean : ForSome a.flashes AreClean) (dev : Dev) (named : dev ≡ beside replaced) (brings_dev : Runs (Brings t s dev a) a b) where
  abbrev voters : ℕ
  voters = length s.came

  abbrev standing : Dev
  standing = beside replaced

  abbrev Leaves : Flashes → Left → Type 0
  Leaves start left = LeavesHeld t s replaced header start left

  brings : Runs (Brings t s standing a) a b
  brings = subst (λ (e : Dev). Runs (Brings t s e a) a b) named brings_dev

  known : decoded t voters (encode t s) ≡ Some s
  known = known_state t voters s tables few of

  bounded : (k : ℕ) → IsOfTwin body_size k → k < size_of standing a.sizes
  bounded = twin_bounded body_size (size_of standing a.sizes) (omega (arith, devices standing))

  keeps : (start mid : Flashes) → a.flashes ≡ Some start → b.flashes ≡ Some mid → KeepsOthers standing (IsOfTwin body_size) start mid
  keeps start mid told later = stage_rest standing (IsOfTwin body_size) 12 (λ start left. HeldAlone t voters (left_on standing left) s) a b sized bounded brings start told mid later

  -- while the standing device is brought up, the replaced one is as it was
  bringing : Runs (Course a (MayBeWritten replaced) 12 Leaves) a b
  bringing =
      course_in standing (IsOfTwin body_size) (MayBeWritten replaced) 12 Leaves a b (standing_place replaced)
      (stage_stronger standing (IsOfTwin body_size) 12 (λ start left. HeldAlone t voters (left_on standing left) s) Leaves a b sized bounded
      (λ start told fs left kept is held.
      let image = left_image standing fs [] left is in
      let same = clean_image (flash_of replaced start) (left_on replaced left) (clean start told replaced) (image_of_other standing replaced (IsOfTwin body_size) start fs left (differs_back replaced) kept is) in
      record {
        held = held;
        frame = record {
          same_length = image.same_length ∙ kept.own.size;
          bytes = λ k out. image.clean k (kept.own.clean k out (clean start told standing k)) ∙ kept.own.content k out;
        };
        same_length = ap length same;
        other = inl (λ busy. subst IsInUse same busy);
      }) brings)

  -- what is owed to load the replaced one
  pub owed : (room body_size ≤ size_of replaced b.sizes) × OnFlash replaced IsClean b
  owed =
      let devices_b = subst AreDevices (sym brings.1.sizes) devices in (
        omega (arith, devices_b replaced),
        run_keeps standing (IsOfTwin body_size) (λ fs. IsClean (flash_of replaced fs)) brings.0 a b brings.1 brings.2.within sized bounded
            (λ fs gs kept was. subst IsClean (sym (kept.other replaced (differs_back replaced))) was) (λ fs told. clean fs told replaced),
      )

  abbrev AreBrought : Flashes → List Op → Type 0
  AreBrought start ops = AreBroughtUp t s standing body (flash_of standing start).content ops

  abbrev AreRestored : Flashes → List Op → Type 0
  AreRestored start ops = IsRestored t s replaced header body start ops

  on_standing : (P : Dev → List ℕ → List Op → Type 0) → OnFlash dev (λ flash. Runs (P dev flash.content) a b) a → ForSome a.flashes (λ start. Runs (P standing (flash_of standing start).content) a b)
  on_standing P runs = subst (λ (e : Dev). OnFlash e (λ flash. Runs (P e flash.content) a b) a) named runs

  -- the call stops there
  pub stopped_first : OnFlash dev (λ flash. Runs (IsUpTo (AreBroughtUp t s dev body flash.content)) a b) a → HasStopped t s replaced header body a b
  stopped_first cut =
      record {
        ran = course_weaker (MayBeWritten replaced) 12 19 Leaves Leaves a b (omega arith) (λ start told left p. p) bringing;
        cut = first_cut AreBrought AreRestored (λ start. lay_ops body_size replaced header (encode t s) (flash_of replaced start).content) a b
            (λ start xs front. record { front = xs; brings_up = front; in_row = refl }) (on_standing (λ e content. IsUpTo (AreBroughtUp t s e body content)) cut);
      }

  -- ---- the replaced one is loaded

  module _ (c : Told) (next : List ℕ) (same : next ≡ encode t s) (sized_b : ForSome b.flashes (AreSized b.sizes)) (twin_dev : OnFlash dev (IsTwin body_size (encode t s)) b) (clean_dev : OnFlash dev IsClean b)
      (brought_dev : OnFlash dev (λ flash. Runs (AreBroughtUp t s dev body flash.content) a b) a) (lays_next : Runs (LaysOn b replaced body_size header next) b c) where
    lays : Runs (LaysOn b replaced body_size header (encode t s)) b c
    lays = subst (λ (l : List ℕ). Runs (LaysOn b replaced body_size header l) b c) same lays_next

    abbrev IsReady : Flash → Type 0
    IsReady f = IsTwin body_size (encode t s) f × IsClean f

    ready : OnFlash standing IsReady b
    ready = subst (λ (e : Dev). OnFlash e IsReady b) named (λ fs told. (twin_dev fs told, clean_dev fs told))

    below : (k : ℕ) → k < room body_size → k < size_of replaced b.sizes
    below k less = let fits = owed.0 in omega arith

    long : length (encode t s) ≡ body_size
    long = long_state t voters s tables few of

    -- both together hold the state, once a slot of the replaced one is open again
    with_both : (left : Left) → HoldsEither body_size (encode t s) (encode t s) (left_on standing left) → HoldsEither body_size (encode t s) (encode t s) (left_on replaced left) → HeldByBoth t voters left.internal left.external s
    with_both left other own =
        let each = on_two (λ d. HoldsEither body_size (encode t s) (encode t s) (left_on d left)) replaced other own in
        either_both t voters tables few s (encode t s) (encode t s) known known left (each Internal) (each External)

    loaded : (before : List ℕ) (left : Left) → HoldsEither body_size (encode t s) (encode t s) (left_on standing left) → LeavesLaid body_size header (encode t s) before (left_on replaced left)
        → (IsInUse (left_on replaced left) → IsInUse before) ⊎ (HasFrame body_size header (left_on replaced left) × HeldByBoth t voters left.internal left.external s)
    loaded before left holds (inl early) = inl (early_before magic body_size IsBegun before (left_on replaced left) early)
    loaded before left holds (inr late) = elim (opened_one (left_on replaced left)) [
      | inl one ↦
          inr (
            late_framed header (encode t s) (left_on replaced left) late one,
            with_both left holds (late_holds header (encode t s) (left_on replaced left) late one),
          )
      | inr shut ↦ inl (λ busy. absurd (none_used (left_on replaced left) shut.0 shut.1 busy))
    ]

    -- meanwhile the standing one holds the state
    loading : Runs (Course b (MayBeWritten replaced) 7 Leaves) b c
    loading =
        course_in replaced (λ k. k < room body_size) (MayBeWritten replaced) 7 Leaves b c (replaced_place replaced)
        (stage_stronger replaced (λ k. k < room body_size) 7 (λ start left. LeavesLaid body_size header (encode t s) (flash_of replaced start).content (left_on replaced left)) Leaves b c sized_b below
        (λ start told fs left kept is laid.
        let there = ready start told in
        let image = image_of_other replaced standing (λ k. k < room body_size) start fs left (differs replaced) kept is in
        let holds = twin_holds (encode t s) (flash_of standing start) (left_on standing left) long there.0 image in
        record {
          held = either_alone t voters tables few s (encode t s) (encode t s) known known (left_on standing left) holds;
          frame = record { same_length = image.same_length; bytes = λ k out. image.clean k (there.1 k) };
          same_length = (left_image replaced fs [] left is).same_length ∙ kept.own.size;
          other = loaded (flash_of replaced start).content left holds laid;
        }) lays)

    -- what is left then is left of the start
    of_start : (start mid : Flashes) → a.flashes ≡ Some start → b.flashes ≡ Some mid → (left : Left) → Leaves mid left → Leaves start left
    of_start start mid told later left p =
        let kept = keeps start mid told later in
        let other = kept.other replaced (differs_back replaced) in
        record {
          held = p.held;
          frame = record {
            same_length = p.frame.same_length ∙ kept.own.size;
            bytes = λ k out. p.frame.bytes k out ∙ kept.own.content k out;
          };
          same_length = p.same_length ∙ ap (λ (f : Flash). length f.content) other;
          other = subst (λ (f : Flash). (IsInUse (left_on replaced left) → IsInUse f.content) ⊎ (HasFrame body_size header (left_on replaced left) × HeldByBoth t voters left.internal left.external s)) other p.other;
        }

    restored : Runs (Restores t s replaced header a) a c
    restored = courses-append (MayBeWritten replaced) 12 7 Leaves Leaves a b c of_start bringing loading

    -- all that is done: the replaced device is loaded over what it had at the start
    abbrev AreLaid : Flashes → List Op → Type 0
    AreLaid start ops = ops ≡ lay_ops body_size replaced header next (flash_of replaced start).content

    laid : (start : Flashes) → a.flashes ≡ Some start → (xs ys : List Op) → Does xs a b → AreBrought start xs → AreLaid (after xs start) ys → AreRestored start (xs ++ ys)
    laid start told xs ys does front lays =
        let kept = keeps start (after xs start) told (told_after xs a b start does told) in
        let over = ap (λ (f : Flash). lay_ops body_size replaced header next f.content) (kept.other replaced (differs_back replaced)) in
        let today = ap (λ (l : List ℕ). lay_ops body_size replaced header l (flash_of replaced start).content) same in
        record { front = xs; brings_up = front; in_row = ap (λ (l : List Op). xs ++ l) (lays ∙ over ∙ today) }

    brought : ForSome a.flashes (λ start. Runs (AreBrought start) a b)
    brought = on_standing (λ e content. AreBroughtUp t s e body content) brought_dev

    -- the load was cut off
    pub stopped_later : OnFlash replaced (λ flash. Runs (IsFrontOf (lay_ops body_size replaced header next flash.content)) b c) b → HasStopped t s replaced header body a c
    stopped_later cut =
        record {
          ran = restored;
          cut = second_cut AreBrought AreLaid AreRestored a b c laid brought (λ mid told.
              let run = cut mid told in
              (run.0, run.1, inr (lay_ops body_size replaced header next (flash_of replaced mid).content, refl, run.2)));
        }

    -- or it was done, and both are level
    pub has_restored : OnFlash replaced (λ flash. Does (lay_ops body_size replaced header next flash.content) b c) b → OnFlash replaced (IsTwin body_size next) c → OnFlash replaced IsClean c → HasRestored t s replaced header body a c
    has_restored exact own_twin own_clean =
        record {
          level = λ fs told.
              let other = other_kept replaced (λ k. k < room body_size) 7 (λ start left. LeavesLaid body_size header (encode t s) (flash_of replaced start).content (left_on replaced left)) IsReady b c below sized_b lays ready fs told in
              record {
                twins = on_two (λ d. IsTwin body_size (encode t s) (flash_of d fs)) replaced other.0 (subst (λ (l : List ℕ). IsTwin body_size l (flash_of replaced fs)) same (own_twin fs told));
                clean = on_two (λ d. IsClean (flash_of d fs)) replaced other.1 (own_clean fs told);
              };
          ran = restored;
          exact = both_done AreBrought AreLaid AreRestored a b c laid brought
              (λ mid told. (lay_ops body_size replaced header next (flash_of replaced mid).content, exact mid told, refl));
        }

-- Both devices are loaded, one after the other.
use Rattle.std.proofs.Common.{◌≡◌, ℕ, ◌+◌, ◌<◌, ◌≤◌, inl, inr, Some, List, [], ◌∷◌, ◌++◌, length, sym, ap, subst, ◌∙◌, arith}
use Rattle.std.specs.Option.{ForSome}
use Rattle.urna_outside.specs.Flash.{Put, Sync, Flash, Flashes, flash_of, after, IsClean, IsImage}
use Rattle.urna_outside.specs.Stop.{Left, left_on}
use Rattle.urna_outside.specs.Stage.{Course}
use Rattle.urna_outside.specs.Told.{Told, Sizes, Runs, AreSized, size_of, Does}
use Rattle.urna_outside.specs.declared.device.Dev.{Dev}
use Rattle.urna_outside.specs.declared.device.Dev.TheVariants.{Internal, External}
use Rattle.urna_outside.proofs.Courses.{course_from_stage, courses-append, course_weaker}
use Rattle.urna_outside.proofs.Doing.{told_after, does-append}
use Rattle.urna_outside.proofs.Keeping.{within_keeps}
use Rattle.urna_outside.proofs.Places.{same_part}
use Rattle.urna_outside.proofs.Runs.{places_of}
use Rattle.urna_outside.proofs.Stages.{stage_stronger}
use Rattle.gate_slot.specs.Device.{OnFlash}
use Rattle.gate_slot.specs.Front.{IsFrontOf}
use Rattle.gate_slot.proofs.Fronts.{front_first, fronts_later, none_yet}
use Rattle.gate_slot.specs.Slot.{room, body_offset, fill_ops, publish_ops}
use Rattle.gate_slot.proofs.Written.{body_fits}
use Rattle.twin_image.specs.Frame.{FrameStands, device_image}
use Rattle.twin_image.specs.Lay.{IsEarly, IsLate, LeavesLaid, LaysOn, Lays, frame_ops, header_for, lay_ops, load_ops}
use Rattle.twin_image.specs.Slots.{AreClean}
use Rattle.twin_image.specs.Twin.{IsTwin, shutting_ops}
use Rattle.twin_image.proofs.Committing.{differs}
use Rattle.twin_image.proofs.Framing.{on_both}
use Rattle.twin_image.proofs.Laid.{frame_image, twin_whole}
use Rattle.twin_image.proofs.Laying.{was_same}
use Rattle.twin_image.proofs.Mending.{image_same}
use Rattle.twin_image.proofs.Renewing.{content_image, live_image}

-- a clean device shows as it was
untouched : (size : ℕ) (f : Flash) (image : List ℕ) → room size ≤ length f.content → IsClean f → IsImage f image → IsEarly size f.content image
untouched size f image fits clean is =
    let zero : 0 < 2 = omega arith in
    let one : 1 < 2 = omega arith in
    let fit_0 = body_fits size 0 (length f.content) zero fits in
    let fit_1 = body_fits size 1 (length f.content) one fits in
    record {
      header = same_part image f.content 0 512 is.same_length (omega arith) (λ k low high. is.clean k (clean k));
      first = was_same size 0 f.content image (image_same size 0 f image fit_0 clean is);
      second = was_same size 1 f.content image (image_same size 1 f image fit_1 clean is);
    }

-- and one that is loaded as that
loaded : (size : ℕ) (header body : List ℕ) (f : Flash) (image : List ℕ) → length header ≡ 512 → length body ≡ size → FrameStands size header f → IsTwin size body f → IsImage f image → IsLate size header body image
loaded size header body f image header_long long stands twin is =
    let frame = frame_image size header f image header_long stands is in
    record {
      first = λ gate. ((live_image size 0 body f image long twin.first is).1, frame);
      second = λ gate. ((live_image size 1 body f image long twin.second is).1, frame);
    }

-- there is always something to be done
pub load_none : (size : ℕ) (internal external body : List ℕ) (start : Flashes) → IsFrontOf (load_ops size internal external body start) []
load_none size internal external body start =
    let content = start.internal.content in
    let shut = shutting_ops size Internal 0 content ++ shutting_ops size Internal 1 content in
    let fill = fill_ops size Internal 0 body ++ fill_ops size Internal 1 body in
    let publish = publish_ops size Internal 0 ++ publish_ops size Internal 1 in
    let none = none_yet shut (Put Internal (body_offset size 0) body) (Sync Internal ∷ fill_ops size Internal 1 body) in
    let frame = frame_ops size Internal internal in
    front_first (lay_ops size Internal internal body content) (lay_ops size External external body start.external.content) []
    (front_first (shut ++ fill ++ frame) publish [] (front_first (shut ++ fill) frame [] none))

-- the content of a loaded device
pub loaded_content : (size : ℕ) (header body : List ℕ) (f : Flash) → length header ≡ 512 → length body ≡ size → length f.content ≡ room size → FrameStands size header f → IsTwin size body f → f.content ≡ device_image size header body
loaded_content size header body f header_long long full stands twin =
    twin_whole size header body f long full (frame_image size header f f.content header_long stands (content_image f)) twin

module _ (size : ℕ) (internal external body : List ℕ) (internal_long : length internal ≡ 512) (external_long : length external ≡ 512) (long : length body ≡ size) where
  abbrev OnDevice : Dev → ℕ → Type 0
  OnDevice d k = k < room size

  abbrev Loading : Flashes → Left → Type 0
  Loading start left =
      (d : Dev) → LeavesLaid size (header_for d internal external) body (flash_of d start).content (left_on d left)

  abbrev OnOne : Dev → Flashes → Left → Type 0
  OnOne d start left = LeavesLaid size (header_for d internal external) body (flash_of d start).content (left_on d left)

  -- while the internal flash is loaded, the external one is as it was
  load_internal : (a b : Told) → ((d : Dev) → room size ≤ size_of d a.sizes) → ForSome a.flashes (AreSized a.sizes) → ForSome a.flashes AreClean → Runs (LaysOn a Internal size internal body) a b → Runs (Course a OnDevice 7 Loading) a b
  load_internal a b fits sized clean run =
      course_from_stage Internal (λ k. k < room size) 7 Loading a b
      (stage_stronger Internal (λ k. k < room size) 7 (OnOne Internal) Loading a b sized (λ k is. let wide = fits Internal in omega arith) (λ start told fs left keeps is laying.
      let image = subst (λ (f : Flash). IsImage f left.external) (keeps.other External (differs Internal)) is.external in
      let wide = (sized start told).content External in
      let full = fits External in
      on_both (λ d. OnOne d start left) laying (inl (untouched size start.external left.external (omega arith) (clean start told External) image))) run)

  abbrev Later : Flashes → Left → Type 0
  Later mid left = IsLate size internal body left.internal × OnOne External mid left

  -- while the external flash is loaded, the internal one is loaded
  load_external : (b c : Told) → room size ≤ size_of External b.sizes → ForSome b.flashes (AreSized b.sizes) → OnFlash Internal (FrameStands size internal) b → OnFlash Internal (IsTwin size body) b → Runs (LaysOn b External size external body) b c → Runs (Course b OnDevice 7 Later) b c
  load_external b c fits sized stands twin run =
      course_from_stage External (λ k. k < room size) 7 Later b c
      (stage_stronger External (λ k. k < room size) 7 (OnOne External) Later b c sized (λ k is. omega arith) (λ start told fs left keeps is laying.
      let image = subst (λ (f : Flash). IsImage f left.internal) (keeps.other Internal (differs External)) is.internal in
      (loaded size internal body start.internal left.internal internal_long long (stands start told) (twin start told) image, laying)) run)

  external_same : (a b : Told) → room size ≤ size_of Internal a.sizes → ForSome a.flashes (AreSized a.sizes) → Runs (LaysOn a Internal size internal body) a b → (start mid : Flashes) → a.flashes ≡ Some start → b.flashes ≡ Some mid → mid.external ≡ start.external
  external_same a b fits sized run start mid told later =
      let keeps = within_keeps Internal (λ k. k < room size) run.0 start run.2.within (places_of Internal (λ k. k < room size) a start (sized start told) (λ k is. omega arith)) in
      let same : mid ≡ after run.0 start = some_same (sym later ∙ told_after run.0 a b start run.1 told) in
      ap (λ (fs : Flashes). fs.external) same ∙ keeps.other External (differs Internal)
    where
      some_same : {x y : Flashes} → Some x ≡ Some y → x ≡ y
      some_same e = cc

  -- the call stops while the internal flash is loaded
  pub loads_internal : (a b : Told) → ((d : Dev) → room size ≤ size_of d a.sizes) → ForSome a.flashes (AreSized a.sizes) → ForSome a.flashes AreClean → Runs (LaysOn a Internal size internal body) a b → Runs (Lays a size internal external body) a b
  loads_internal a b fits sized clean run =
      course_weaker OnDevice 7 14 Loading Loading a b (omega arith) (λ start told left p. p) (load_internal a b fits sized clean run)

  -- or later
  pub loads : (a b c : Told) → ((d : Dev) → room size ≤ size_of d a.sizes) → ForSome a.flashes (AreSized a.sizes) → ForSome b.flashes (AreSized b.sizes) → ForSome a.flashes AreClean → Runs (LaysOn a Internal size internal body) a b
      → OnFlash Internal (FrameStands size internal) b → OnFlash Internal (IsTwin size body) b → Runs (LaysOn b External size external body) b c → Runs (Lays a size internal external body) a c
  loads a b c fits sized sized_b clean first stands twin second =
      let fits_b = subst (λ (z : Sizes). room size ≤ size_of External z) (sym first.1.sizes) (fits External) in
      course_weaker OnDevice (7 + 7) 14 Loading Loading a c (omega arith) (λ start told left p. p)
      (courses-append OnDevice 7 7 Loading Later a b c (λ start mid told later left q.
      let external_left = subst (λ (f : Flash). LeavesLaid size external body f.content left.external) (external_same a b (fits Internal) sized first start mid told later) q.1 in
      on_both (λ d. OnOne d start left) (inr q.0) external_left) (load_internal a b fits sized clean first) (load_external b c fits_b sized_b stands twin second))

  -- all that is done on both devices
  pub loads_all : (a b c : Told) → ((d : Dev) → room size ≤ size_of d a.sizes) → ForSome a.flashes (AreSized a.sizes) → Runs (LaysOn a Internal size internal body) a b
      → OnFlash Internal (λ f. Does (lay_ops size Internal internal body f.content) a b) a → OnFlash External (λ f. Does (lay_ops size External external body f.content) b c) b → ForSome a.flashes (λ start. Does (load_ops size internal external body start) a c)
  loads_all a b c fits sized run first second start told =
      let one = first start told in
      let ops = lay_ops size Internal internal body start.internal.content in
      let mid = after ops start in
      let later = told_after ops a b start one told in
      let same = external_same a b (fits Internal) sized run start mid told later in
      let two = subst (λ (f : Flash). Does (lay_ops size External external body f.content) b c) same (second mid later) in
      does-append ops (lay_ops size External external body start.external.content) a b c one two

  -- the load was cut off on the external flash
  pub loads_cut : (a b c : Told) → ((d : Dev) → room size ≤ size_of d a.sizes) → ForSome a.flashes (AreSized a.sizes) → Runs (LaysOn a Internal size internal body) a b
      → OnFlash Internal (λ f. Does (lay_ops size Internal internal body f.content) a b) a → OnFlash External (λ f. Runs (IsFrontOf (lay_ops size External external body f.content)) b c) b
      → ForSome a.flashes (λ start. Runs (IsFrontOf (load_ops size internal external body start)) a c)
  loads_cut a b c fits sized run first second start told =
      let one = first start told in
      let ops = lay_ops size Internal internal body start.internal.content in
      let mid = after ops start in
      let later = told_after ops a b start one told in
      let same = external_same a b (fits Internal) sized run start mid told later in
      let two = subst (λ (f : Flash). Runs (IsFrontOf (lay_ops size External external body f.content)) b c) same (second mid later) in
      fronts_later ops (lay_ops size External external body start.external.content) a b c one two

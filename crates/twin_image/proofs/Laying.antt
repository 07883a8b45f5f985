-- A device that is loaded: shut, filled, framed and published.
use Rattle.std.proofs.Common.{◌≡◌, ◌≢◌, ℕ, ◌+◌, ◌<◌, ◌≤◌, inl, inr, Some, List, [], ◌∷◌, ◌++◌, length, sym, subst, ◌∙◌, arith, cond, eqb, ap, append_assoc}
use Rattle.std.specs.Option.{ForSome}
use Rattle.urna_outside.specs.Flash.{Flash, Flashes, flash_of, after, IsClean, IsImage, part, Op}
use Rattle.urna_outside.specs.Confined.{KeepsBut}
use Rattle.urna_outside.specs.Stop.{Left, left_on}
use Rattle.urna_outside.specs.Stage.{Stage}
use Rattle.urna_outside.specs.Told.{Told, Sizes, Runs, AreSized, size_of, Does}
use Rattle.urna_outside.specs.declared.device.Dev.{Dev}
use Rattle.urna_outside.proofs.Doing.{does-append, told_after}
use Rattle.urna_outside.proofs.Keeping.{within_more, within-append, stays}
use Rattle.urna_outside.proofs.Places.{same_part}
use Rattle.urna_outside.proofs.Runs.{run_keeps, syncs-append}
use Rattle.urna_outside.proofs.Stages.{left_image, stage_weaker, stage_stronger, stages-append}
use Rattle.urna_outside.proofs.Stops.{stop_whole, within_shows}
use Rattle.gate_slot.specs.Device.{OnFlash, KeepsRest}
use Rattle.gate_slot.specs.Front.{IsFrontOf}
use Rattle.gate_slot.proofs.Fronts.{fronts_later, none_yet}
use Rattle.gate_slot.specs.Slot.{room, gate_offset, body_offset, padding_offset, gate_in, IsGate, IsBody, IsGateShut, IsGateOpen, IsFilled, HasBody, IsOneWrite, shut_ops}
use Rattle.gate_slot.proofs.Written.{body_fits, gate_bounded}
use Rattle.gate_slot.proofs.Images.{gate_image, body_image}
use Rattle.twin_image.specs.Frame.{IsOfFrame, FrameStands, padding}
use Rattle.twin_image.specs.Lay.{IsEarly, IsLate, IsOfGates, IsOfBodies, LaysOn, LeavesLaid, WritesOnly}
use Rattle.twin_image.specs.Pair.{AreShut, AreOpen, AreFilled, HaveBody}
use Rattle.twin_image.specs.Twin.{IsOfTwin, IsTwin, WasOpen, shutting_ops}
use Rattle.twin_image.proofs.Framing.{contents_of, left_contents, some_same}
use Rattle.twin_image.proofs.Laid.{frame_apart, frame_image, length-padding}
use Rattle.twin_image.proofs.Mending.{SameSlot, image_kept}
use Rattle.twin_image.proofs.Renewing.{content_image, twin_bounded}
use Rattle.twin_image.proofs.Turning.{shutting_cut, writes_stage}

-- places
pub gates_of_twin : (size k : ℕ) → IsOfGates size k → IsOfTwin size k
gates_of_twin size k (inl first) = inl (inl first)
gates_of_twin size k (inr second) = inr (inl second)

pub bodies_of_twin : (size k : ℕ) → IsOfBodies size k → IsOfTwin size k
bodies_of_twin size k (inl first) = inl (inr first)
bodies_of_twin size k (inr second) = inr (inr second)

pub gates_apart : (size k : ℕ) → IsOfGates size k → ¬ IsOfBodies size k
gates_apart size k (inl gate) (inl body) = omega (arith, gate.1, body.0)
gates_apart size k (inl gate) (inr body) = omega (arith, gate.1, body.0)
gates_apart size k (inr gate) (inl body) = omega (arith, gate.0, body.1)
gates_apart size k (inr gate) (inr body) = omega (arith, gate.1, body.0)

pub frame_bounded : (size n : ℕ) → room size ≤ n → (k : ℕ) → IsOfFrame size k → k < n
frame_bounded size n fits k (inl front) = omega arith
frame_bounded size n fits k (inr (inl first)) = omega (arith, first.1)
frame_bounded size n fits k (inr (inr second)) = omega (arith, second.1)

-- writes, one after another
pub writes-append : (d : Dev) (In : ℕ → Type 0) (m n : ℕ) (a b c : Told) → Runs (WritesOnly d In m) a b → Runs (WritesOnly d In n) b c → Runs (WritesOnly d In (m + n)) a c
writes-append d In m n a b c first second = (
  first.0 ++ second.0,
  does-append first.0 second.0 a b c first.1 second.1,
  record {
    within = within-append d In first.0 second.0 first.2.within second.2.within;
    syncs = omega (arith, syncs-append first.0 second.0, first.2.syncs, second.2.syncs);
  },
)

pub writes_weaker : (d : Dev) (In More : ℕ → Type 0) (m n : ℕ) (a b : Told) → m ≤ n → ((k : ℕ) → In k → More k) → Runs (WritesOnly d In m) a b → Runs (WritesOnly d More n) a b
writes_weaker d In More m n a b fewer more run =
    (run.0, run.1, record { within = within_more d In More run.0 more run.2.within; syncs = omega (arith, run.2.syncs) })

-- what survives them
pub writes_keep : (d : Dev) (In : ℕ → Type 0) (n : ℕ) (F : Flash → Type 0) (a b : Told) → ForSome a.flashes (AreSized a.sizes) → ((k : ℕ) → In k → k < size_of d a.sizes) → ((f g : Flash) → KeepsBut In f g → F f → F g) → Runs (WritesOnly d In n) a b → OnFlash d F a → OnFlash d F b
writes_keep d In n F a b sized bounded survives run =
    run_keeps d In (λ fs. F (flash_of d fs)) run.0 a b run.1 run.2.within sized bounded (λ fs gs keeps. survives (flash_of d fs) (flash_of d gs) keeps.own)

module _ (size : ℕ) (In : ℕ → Type 0) (f g : Flash) (keeps : KeepsBut In f g) where
  pub shut_kept : ((k : ℕ) → IsOfGates size k → ¬ In k) → AreShut size f → AreShut size g
  shut_kept apart shut =
      record {
        first = (shut.first.0, shut.first.1, stays In f g (gate_offset size 0) (shut.first.0 ∷ []) (λ k low high. apart k (inl (low, high))) keeps shut.first.2);
        second = (shut.second.0, shut.second.1, stays In f g (gate_offset size 1) (shut.second.0 ∷ []) (λ k low high. apart k (inr (low, high))) keeps shut.second.2);
      }

  pub body_kept : (body : List ℕ) → length body ≡ size → ((k : ℕ) → IsOfBodies size k → ¬ In k) → HaveBody size body f → HaveBody size body g
  body_kept body long apart has =
      record {
        first = stays In f g (body_offset size 0) body (λ k low high. apart k (inl (low, omega arith))) keeps has.first;
        second = stays In f g (body_offset size 1) body (λ k low high. apart k (inr (low, omega arith))) keeps has.second;
      }

  pub stands_kept : (header : List ℕ) → length header ≡ 512 → ((k : ℕ) → IsOfFrame size k → ¬ In k) → FrameStands size header f → FrameStands size header g
  stands_kept header long apart stands =
      record {
        at_front = stays In f g 0 header (λ k low high. apart k (inl (omega arith))) keeps stands.at_front;
        first = stays In f g (padding_offset size 0) padding (λ k low high. apart k (inr (inl (low, omega (arith, length-padding))))) keeps stands.first;
        second = stays In f g (padding_offset size 1) padding (λ k low high. apart k (inr (inr (low, omega (arith, length-padding))))) keeps stands.second;
      }

-- one slot's gate or body, where the other slot's is written
pub first_shut_kept : (size : ℕ) (f g : Flash) → KeepsBut (IsGate size 1) f g → IsGateShut size 0 f → IsGateShut size 0 g
first_shut_kept size f g keeps shut =
    (shut.0, shut.1, stays (IsGate size 1) f g (gate_offset size 0) (shut.0 ∷ []) (λ k low high gate. omega (arith, gate.0)) keeps shut.2)

pub first_body_kept : (size : ℕ) (body : List ℕ) (f g : Flash) → length body ≡ size → KeepsBut (IsBody size 1) f g → HasBody size 0 body f → HasBody size 0 body g
first_body_kept size body f g long keeps has =
    stays (IsBody size 1) f g (body_offset size 0) body (λ k low high other. omega (arith, other.0)) keeps has

pub first_open_kept : (size : ℕ) (f g : Flash) → KeepsBut (IsGate size 1) f g → IsGateOpen size 0 f → IsGateOpen size 0 g
first_open_kept size f g keeps opened =
    stays (IsGate size 1) f g (gate_offset size 0) (0xA5 ∷ []) (λ k low high gate. omega (arith, gate.0)) keeps opened

pub second_filled_kept : (size : ℕ) (f g : Flash) → KeepsBut (IsGate size 0) f g → IsFilled size 1 f → IsFilled size 1 g
second_filled_kept size f g keeps filled =
    let gate = stays (IsGate size 0) f g (gate_offset size 1) (filled.shut.0 ∷ []) (λ k low high other. omega (arith, other.1)) keeps filled.shut.2 in
    record {
      shut = (filled.shut.0, filled.shut.1, gate);
      body = filled.body;
      long = filled.long;
      stands = stays (IsGate size 0) f g (body_offset size 1) filled.body (λ k low high other. omega (arith, other.1)) keeps filled.stands;
    }

-- what survives one write
pub one_write_keeps : (d : Dev) (In : ℕ → Type 0) (F : Flash → Type 0) (a b : Told) → ForSome a.flashes (AreSized a.sizes) → ((k : ℕ) → In k → k < size_of d a.sizes) → ((f g : Flash) → KeepsBut In f g → F f → F g) → Runs (IsOneWrite d In) a b → OnFlash d F a → OnFlash d F b
one_write_keeps d In F a b sized bounded survives run =
    run_keeps d In (λ fs. F (flash_of d fs)) run.0 a b run.1 run.2.within sized bounded (λ fs gs keeps. survives (flash_of d fs) (flash_of d gs) keeps.own)

-- what stands when both slots are filled or open
pub filled_of : (size : ℕ) (body : List ℕ) (f : Flash) → length body ≡ size → AreShut size f → HaveBody size body f → AreFilled size f
filled_of size body f long shut has =
    record {
      first = record { shut = shut.first; body = body; long = long; stands = has.first };
      second = record { shut = shut.second; body = body; long = long; stands = has.second };
    }

pub twin_of : (size : ℕ) (body : List ℕ) (f : Flash) → AreOpen size f → HaveBody size body f → IsTwin size body f
twin_of size body f opened has =
    record {
      first = record { gate = opened.first; body_stands = has.first };
      second = record { gate = opened.second; body_stands = has.second };
    }

-- all that shutting both slots does
pub shuts_both : (d : Dev) (size : ℕ) (a b c : Told) → KeepsRest d (IsGate size 0) a b → OnFlash d (λ f. Does (shutting_ops size d 0 f.content) a b) a → OnFlash d (λ f. Does (shutting_ops size d 1 f.content) b c) b
    → OnFlash d (λ f. Does (shutting_ops size d 0 f.content ++ shutting_ops size d 1 f.content) a c) a
shuts_both d size a b c rest first second start told =
    let one = first start told in
    let ops = shutting_ops size d 0 (flash_of d start).content in
    let mid = after ops start in
    let later = told_after ops a b start one told in
    let same = (rest start told mid later).own.content (gate_offset size 1) (λ gate. omega (arith, gate.1)) in
    let again : shutting_ops size d 1 (flash_of d mid).content ≡ shutting_ops size d 1 (flash_of d start).content = ap (λ (gate : ℕ). cond (eqb gate 0xA5) (shut_ops size d 1) []) same in
    does-append ops (shutting_ops size d 1 (flash_of d start).content) a b c one (subst (λ (l : List Op). Does l b c) again (second mid later))

-- shutting both was cut off at slot 0, where more is to follow
pub shuts_cut_first : (d : Dev) (size : ℕ) (a b : Told) → Runs (IsFrontOf (shut_ops size d 0)) a b → OnFlash d (λ f. gate_in size 0 f.content ≢ 0xA5 → Does [] a b) a
    → OnFlash d (λ f. (next : Op) (more : List Op) → Runs (IsFrontOf (shutting_ops size d 0 f.content ++ shutting_ops size d 1 f.content ++ next ∷ more)) a b) a
shuts_cut_first d size a b opened other start told next more =
    let content = (flash_of d start).content in
    let second = shutting_ops size d 1 content in
    subst (λ (ops : List Op). Runs (IsFrontOf ops) a b) (sym (append_assoc (shutting_ops size d 0 content) second (next ∷ more)))
    (shutting_cut d size 0 content (second ++ next ∷ more) a b (none_yet second next more) opened (other start told))

-- or at slot 1
pub shuts_cut_second : (d : Dev) (size : ℕ) (a b c : Told) → KeepsRest d (IsGate size 0) a b → OnFlash d (λ f. Does (shutting_ops size d 0 f.content) a b) a
    → Runs (IsFrontOf (shut_ops size d 1)) b c → OnFlash d (λ f. gate_in size 1 f.content ≢ 0xA5 → Does [] b c) b
    → OnFlash d (λ f. (next : Op) (more : List Op) → Runs (IsFrontOf (shutting_ops size d 0 f.content ++ shutting_ops size d 1 f.content ++ next ∷ more)) a c) a
shuts_cut_second d size a b c rest first opened other start told next more =
    let one = first start told in
    let content = (flash_of d start).content in
    let ops = shutting_ops size d 0 content in
    let mid = after ops start in
    let later = told_after ops a b start one told in
    let same = (rest start told mid later).own.content (gate_offset size 1) (λ gate. omega (arith, gate.1)) in
    let again : shutting_ops size d 1 (flash_of d mid).content ≡ shutting_ops size d 1 content = ap (λ (gate : ℕ). cond (eqb gate 0xA5) (shut_ops size d 1) []) same in
    let two = shutting_cut d size 1 (flash_of d mid).content (next ∷ more) b c (none_yet [] next more) opened (other mid later) in
    subst (λ (ops : List Op). Runs (IsFrontOf ops) a c) (sym (append_assoc ops (shutting_ops size d 1 content) (next ∷ more)))
    (fronts_later ops (shutting_ops size d 1 content ++ next ∷ more) a b c one (subst (λ (l : List Op). Runs (IsFrontOf (l ++ next ∷ more)) b c) again two))

-- what is told at the end of a stage is one of the things that it leaves
at_end : (d : Dev) (In : ℕ → Type 0) (n : ℕ) (P : Flashes → Left → Type 0) (a b : Told) (start now : Flashes) → a.flashes ≡ Some start → b.flashes ≡ Some now → Runs (Stage a d In n P) a b
    → P start (contents_of now)
at_end d In n P a b start now told later run =
    let same : after run.0 start ≡ now = some_same (sym (told_after run.0 a b start run.1 told) ∙ later) in
    subst (λ (fs : Flashes). P start (contents_of fs)) same
    (run.2.stops start told run.0 (stop_whole run.0) (contents_of (after run.0 start))
    (record {
      internal = content_image (after run.0 start).internal;
      external = content_image (after run.0 start).external;
      shown = sym (within_shows d In run.0 run.2.within);
    }))

-- early and late
was_open_trans : (size index : ℕ) (a b c : List ℕ) → WasOpen size index a b → WasOpen size index b c → WasOpen size index a c
was_open_trans size index a b c first second gate =
    let then = second gate in let was = first then.1 in (then.0 ∙ was.0, was.1)

pub early_trans : (size : ℕ) (a b c : List ℕ) → IsEarly size a b → IsEarly size b c → IsEarly size a c
early_trans size a b c first second =
    record {
      header = second.header ∙ first.header;
      first = was_open_trans size 0 a b c first.first second.first;
      second = was_open_trans size 1 a b c first.second second.second;
    }

-- a slot that an image shows as it was
pub was_same : (size index : ℕ) (before image : List ℕ) → SameSlot size index before image → WasOpen size index before image
was_same size index before image same gate = (same.body, sym same.gate ∙ gate)

-- the header of a clean flash shows in each image, where nothing is written there
header_same : (In : ℕ → Type 0) (f g : Flash) (image : List ℕ) → 512 ≤ length f.content → ((k : ℕ) → k < 512 → ¬ In k) → IsClean f → KeepsBut In f g → IsImage g image → part image 0 512 ≡ part f.content 0 512
header_same In f g image fits apart clean keeps is =
    same_part image f.content 0 512 (is.same_length ∙ keeps.size) (omega arith) (λ k low high.
    is.clean k (keeps.clean k (apart k (omega arith)) (clean k)) ∙ keeps.content k (apart k (omega arith)))

module _ (d : Dev) (size : ℕ) where
  abbrev pub Early : Flashes → Left → Type 0
  Early start left = IsEarly size (flash_of d start).content (left_on d left)

  -- two early stages
  pub early_stages : (In : ℕ → Type 0) (m n : ℕ) (a b c : Told) → Runs (Stage a d In m Early) a b → Runs (Stage b d In n Early) b c → Runs (Stage a d In (m + n) Early) a c
  early_stages In m n a b c first second =
      stages-append d In m n Early Early a b c (λ start mid told later left q.
      let reached = subst (IsEarly size (flash_of d start).content) (left_contents d mid) (at_end d In m Early a b start mid told later first) in
      early_trans size (flash_of d start).content (flash_of d mid).content (left_on d left) reached q) first second

  pub early_more : (m n : ℕ) (a b : Told) → m ≤ n → Runs (Stage a d (IsOfTwin size) m Early) a b → Runs (Stage a d (IsOfTwin size) n Early) a b
  early_more m n a b few run = stage_weaker d (IsOfTwin size) (IsOfTwin size) m n Early Early a b (λ k is. is) few (λ start told left p. p) run

  -- while a gate is shut
  pub shut_first_early : (a b : Told) → room size ≤ size_of d a.sizes → ForSome a.flashes (AreSized a.sizes) → OnFlash d IsClean a → Runs (Stage a d (IsGate size 0) 1 (λ start left. WasOpen size 0 (flash_of d start).content (left_on d left))) a b → Runs (Stage a d (IsOfTwin size) 1 Early) a b
  shut_first_early a b fits sized clean run =
      let below : 0 < 2 = omega arith in
      let other : 1 < 2 = omega arith in
      stage_weaker d (IsGate size 0) (IsOfTwin size) 1 1 Early Early a b (λ k is. inl (inl is)) (omega arith) (λ start told left p. p)
      (stage_stronger d (IsGate size 0) 1 (λ start left. WasOpen size 0 (flash_of d start).content (left_on d left)) Early a b sized (gate_bounded size 0 (size_of d a.sizes) below fits) (λ start told fs left keeps is was.
      let wide = (sized start told).content d in
      let within = body_fits size 1 (size_of d a.sizes) other fits in
      let image = left_image d fs [] left is in
      record {
        header = header_same (IsGate size 0) (flash_of d start) (flash_of d fs) (left_on d left) (omega arith) (λ k low gate. omega (arith, gate.0)) (clean start told) keeps.own image;
        first = was;
        second = was_same size 1 (flash_of d start).content (left_on d left) (image_kept (IsGate size 0) size 1 (flash_of d start) (flash_of d fs) (left_on d left) (omega arith) (clean start told) (λ k low high gate. omega (arith, gate.1)) keeps.own image);
      }) run)

  pub shut_second_early : (a b : Told) → room size ≤ size_of d a.sizes → ForSome a.flashes (AreSized a.sizes) → OnFlash d IsClean a → Runs (Stage a d (IsGate size 1) 1 (λ start left. WasOpen size 1 (flash_of d start).content (left_on d left))) a b → Runs (Stage a d (IsOfTwin size) 1 Early) a b
  shut_second_early a b fits sized clean run =
      let below : 1 < 2 = omega arith in
      let other : 0 < 2 = omega arith in
      stage_weaker d (IsGate size 1) (IsOfTwin size) 1 1 Early Early a b (λ k is. inr (inl is)) (omega arith) (λ start told left p. p)
      (stage_stronger d (IsGate size 1) 1 (λ start left. WasOpen size 1 (flash_of d start).content (left_on d left)) Early a b sized (gate_bounded size 1 (size_of d a.sizes) below fits) (λ start told fs left keeps is was.
      let wide = (sized start told).content d in
      let within = body_fits size 0 (size_of d a.sizes) other fits in
      let image = left_image d fs [] left is in
      record {
        header = header_same (IsGate size 1) (flash_of d start) (flash_of d fs) (left_on d left) (omega arith) (λ k low gate. omega (arith, gate.0)) (clean start told) keeps.own image;
        first = was_same size 0 (flash_of d start).content (left_on d left) (image_kept (IsGate size 1) size 0 (flash_of d start) (flash_of d fs) (left_on d left) (omega arith) (clean start told) (λ k low high gate. omega (arith, gate.0)) keeps.own image);
        second = was;
      }) run)

  -- gates that are shut show so
  shut_images : (f : Flash) (image : List ℕ) → AreShut size f → IsImage f image → (gate_in size 0 image ≢ 0xA5) × (gate_in size 1 image ≢ 0xA5)
  shut_images f image shut is = (
    λ gate. shut.first.1 (sym (gate_image size 0 shut.first.0 f image shut.first.2 is) ∙ gate),
    λ gate. shut.second.1 (sym (gate_image size 1 shut.second.0 f image shut.second.2 is) ∙ gate),
  )

  -- while the bodies are written
  pub fill_early : (b c : Told) → room size ≤ size_of d b.sizes → ForSome b.flashes (AreSized b.sizes) → OnFlash d IsClean b → OnFlash d (AreShut size) b → Runs (WritesOnly d (IsOfBodies size) 2) b c → Runs (Stage b d (IsOfTwin size) 2 Early) b c
  fill_early b c fits sized clean shut run =
      stage_weaker d (IsOfBodies size) (IsOfTwin size) 2 2 Early Early b c (bodies_of_twin size) (omega arith) (λ start told left p. p)
      (writes_stage d (IsOfBodies size) 2 Early b c sized (λ k is. twin_bounded size (size_of d b.sizes) fits k (bodies_of_twin size k is)) (λ start told fs left keeps is.
      let wide = (sized start told).content d in
      let image = left_image d fs [] left is in
      let seen = shut_images (flash_of d fs) (left_on d left) (shut_kept size (IsOfBodies size) (flash_of d start) (flash_of d fs) keeps.own (gates_apart size) (shut start told)) image in
      record {
        header = header_same (IsOfBodies size) (flash_of d start) (flash_of d fs) (left_on d left) (omega arith) (λ k low body. frame_apart size k (inl low) (bodies_of_twin size k body)) (clean start told) keeps.own image;
        first = λ gate. absurd (seen.0 gate);
        second = λ gate. absurd (seen.1 gate);
      }) run)

  module _ (header body : List ℕ) (header_long : length header ≡ 512) (body_long : length body ≡ size) where
    abbrev Late : Flashes → Left → Type 0
    Late start left = IsLate size header body (left_on d left)

    abbrev Laying : Flashes → Left → Type 0
    Laying start left = LeavesLaid size header body (flash_of d start).content (left_on d left)

    abbrev OnDevice : ℕ → Type 0
    OnDevice k = k < room size

    twin_there : (k : ℕ) → IsOfTwin size k → OnDevice k
    twin_there k is = let all : room size ≤ room size = omega arith in twin_bounded size (room size) all k is

    -- while the frame is written
    frame_late : (c e : Told) → room size ≤ size_of d c.sizes → ForSome c.flashes (AreSized c.sizes) → OnFlash d (AreShut size) c → Runs (WritesOnly d (IsOfFrame size) 1) c e → Runs (Stage c d OnDevice 1 Late) c e
    frame_late c e fits sized shut run =
        let all : room size ≤ room size = omega arith in
        stage_weaker d (IsOfFrame size) OnDevice 1 1 Late Late c e (frame_bounded size (room size) all) (omega arith) (λ start told left p. p)
        (writes_stage d (IsOfFrame size) 1 Late c e sized (frame_bounded size (size_of d c.sizes) fits) (λ start told fs left keeps is.
        let image = left_image d fs [] left is in
        let seen = shut_images (flash_of d fs) (left_on d left) (shut_kept size (IsOfFrame size) (flash_of d start) (flash_of d fs) keeps.own (λ k gate frame. frame_apart size k frame (gates_of_twin size k gate)) (shut start told)) image in
        record { first = λ gate. absurd (seen.0 gate); second = λ gate. absurd (seen.1 gate) }) run)

    -- while the slots are published
    publish_late : (e f : Told) → room size ≤ size_of d e.sizes → ForSome e.flashes (AreSized e.sizes) → OnFlash d (FrameStands size header) e → OnFlash d (HaveBody size body) e → Runs (WritesOnly d (IsOfGates size) 2) e f → Runs (Stage e d OnDevice 2 Late) e f
    publish_late e f fits sized stands has run =
        stage_weaker d (IsOfGates size) OnDevice 2 2 Late Late e f (λ k is. twin_there k (gates_of_twin size k is)) (omega arith) (λ start told left p. p)
        (writes_stage d (IsOfGates size) 2 Late e f sized (λ k is. twin_bounded size (size_of d e.sizes) fits k (gates_of_twin size k is)) (λ start told fs left keeps is.
        let image = left_image d fs [] left is in
        let whole = frame_image size header (flash_of d fs) (left_on d left) header_long (stands_kept size (IsOfGates size) (flash_of d start) (flash_of d fs) keeps.own header header_long (λ k frame gate. frame_apart size k frame (gates_of_twin size k gate)) (stands start told)) image in
        let bodies = body_kept size (IsOfGates size) (flash_of d start) (flash_of d fs) keeps.own body body_long (λ k body gate. gates_apart size k gate body) (has start told) in
        record {
          first = λ gate. (body_image size 0 body (flash_of d fs) (left_on d left) body_long bodies.first image, whole);
          second = λ gate. (body_image size 1 body (flash_of d fs) (left_on d left) body_long bodies.second image, whole);
        }) run)

    early_laying : (n : ℕ) (a b : Told) → n ≤ 7 → Runs (Stage a d (IsOfTwin size) n Early) a b → Runs (LaysOn a d size header body) a b
    early_laying n a b few run =
        stage_weaker d (IsOfTwin size) OnDevice n 7 Early Laying a b twin_there few (λ start told left early. inl early) run

    late_laying : (m n : ℕ) (a c e : Told) → m + n ≤ 7 → Runs (Stage a d (IsOfTwin size) m Early) a c → Runs (Stage c d OnDevice n Late) c e → Runs (LaysOn a d size header body) a e
    late_laying m n a c e few early late =
        stage_weaker d OnDevice OnDevice (m + n) 7 Laying Laying a e (λ k is. is) few (λ start told left p. p)
        (stages-append d OnDevice m n Laying Late a c e (λ start mid told later left is. inr is) (stage_weaker d (IsOfTwin size) OnDevice m m Early Laying a c twin_there (omega arith) (λ start told left is. inl is) early) late)

    -- the call stops while the slots are shut
    pub laid_shut : (a b : Told) → Runs (Stage a d (IsOfTwin size) 2 Early) a b → Runs (LaysOn a d size header body) a b
    laid_shut a b run = early_laying 2 a b (omega arith) run

    early_filled : (a b c : Told) → room size ≤ size_of d a.sizes → ForSome b.flashes (AreSized b.sizes) → OnFlash d IsClean b → OnFlash d (AreShut size) b → Runs (Stage a d (IsOfTwin size) 2 Early) a b → Runs (WritesOnly d (IsOfBodies size) 2) b c → Runs (Stage a d (IsOfTwin size) (2 + 2) Early) a c
    early_filled a b c fits sized clean shut first second =
        let fits_b = subst (λ (s : Sizes). room size ≤ size_of d s) (sym first.1.sizes) fits in
        early_stages (IsOfTwin size) 2 2 a b c first (fill_early b c fits_b sized clean shut second)

    -- or while they are filled
    pub laid_fill : (a b c : Told) → room size ≤ size_of d a.sizes → ForSome b.flashes (AreSized b.sizes) → OnFlash d IsClean b → OnFlash d (AreShut size) b → Runs (Stage a d (IsOfTwin size) 2 Early) a b → Runs (WritesOnly d (IsOfBodies size) 2) b c → Runs (LaysOn a d size header body) a c
    laid_fill a b c fits sized clean shut first second =
        early_laying (2 + 2) a c (omega arith) (early_filled a b c fits sized clean shut first second)

    -- or while the frame is written
    pub laid_frame : (a b c e : Told) → room size ≤ size_of d a.sizes → ForSome b.flashes (AreSized b.sizes) → ForSome c.flashes (AreSized c.sizes) → OnFlash d IsClean b → OnFlash d (AreShut size) b → OnFlash d (AreShut size) c
        → Runs (Stage a d (IsOfTwin size) 2 Early) a b → Runs (WritesOnly d (IsOfBodies size) 2) b c → Runs (WritesOnly d (IsOfFrame size) 1) c e → Runs (LaysOn a d size header body) a e
    laid_frame a b c e fits sized_b sized_c clean shut_b shut_c first second third =
        let early = early_filled a b c fits sized_b clean shut_b first second in
        let fits_c = subst (λ (s : Sizes). room size ≤ size_of d s) (sym early.1.sizes) fits in
        late_laying (2 + 2) 1 a c e (omega arith) early (frame_late c e fits_c sized_c shut_c third)

    -- or while the slots are published, or at the end
    pub laid : (a b c e f : Told) → room size ≤ size_of d a.sizes → ForSome b.flashes (AreSized b.sizes) → ForSome c.flashes (AreSized c.sizes) → ForSome e.flashes (AreSized e.sizes) → OnFlash d IsClean b → OnFlash d (AreShut size) b → OnFlash d (AreShut size) c → OnFlash d (FrameStands size header) e → OnFlash d (HaveBody size body) e
        → Runs (Stage a d (IsOfTwin size) 2 Early) a b → Runs (WritesOnly d (IsOfBodies size) 2) b c → Runs (WritesOnly d (IsOfFrame size) 1) c e → Runs (WritesOnly d (IsOfGates size) 2) e f → Runs (LaysOn a d size header body) a f
    laid a b c e f fits sized_b sized_c sized_e clean shut_b shut_c stands has first second third fourth =
        let early = early_filled a b c fits sized_b clean shut_b first second in
        let fits_c = subst (λ (s : Sizes). room size ≤ size_of d s) (sym early.1.sizes) fits in
        let fits_e = subst (λ (s : Sizes). room size ≤ size_of d s) (sym third.1.sizes) fits_c in
        late_laying (2 + 2) (1 + 2) a c f (omega arith) early
        (stages-append d OnDevice 1 2 Late Late c e f (λ start mid told later left is. is) (frame_late c e fits_c sized_c shut_c third) (publish_late e f fits_e sized_e stands has fourth))

    -- what stands when the frame is written
    shut_framed : (c e : Told) → room size ≤ size_of d c.sizes → ForSome c.flashes (AreSized c.sizes) → Runs (WritesOnly d (IsOfFrame size) 1) c e → OnFlash d (AreShut size) c → OnFlash d (AreShut size) e
    shut_framed c e fits sized run =
        writes_keep d (IsOfFrame size) 1 (AreShut size) c e sized (frame_bounded size (size_of d c.sizes) fits) (λ f g keeps. shut_kept size (IsOfFrame size) f g keeps (λ k gate frame. frame_apart size k frame (gates_of_twin size k gate))) run

    pub body_framed : (c e : Told) → room size ≤ size_of d c.sizes → ForSome c.flashes (AreSized c.sizes) → Runs (WritesOnly d (IsOfFrame size) 1) c e → OnFlash d (HaveBody size body) c → OnFlash d (HaveBody size body) e
    body_framed c e fits sized run =
        writes_keep d (IsOfFrame size) 1 (HaveBody size body) c e sized (frame_bounded size (size_of d c.sizes) fits) (λ f g keeps. body_kept size (IsOfFrame size) f g keeps body body_long (λ k is frame. frame_apart size k frame (bodies_of_twin size k is))) run

    pub filled_twins : (c e : Told) → room size ≤ size_of d c.sizes → ForSome c.flashes (AreSized c.sizes) → Runs (WritesOnly d (IsOfFrame size) 1) c e → OnFlash d (AreShut size) c → OnFlash d (HaveBody size body) c → OnFlash d (AreFilled size) e
    filled_twins c e fits sized run shut has fs told =
        filled_of size body (flash_of d fs) body_long (shut_framed c e fits sized run shut fs told) (body_framed c e fits sized run has fs told)

    -- and when the slots are published
    pub twins_laid : (e f : Told) → room size ≤ size_of d e.sizes → ForSome e.flashes (AreSized e.sizes) → Runs (WritesOnly d (IsOfGates size) 2) e f → OnFlash d (HaveBody size body) e → OnFlash d (AreOpen size) f → OnFlash d (IsTwin size body) f
    twins_laid e f fits sized run has opened fs told =
        twin_of size body (flash_of d fs) (opened fs told) (writes_keep d (IsOfGates size) 2 (HaveBody size body) e f sized (λ k is. twin_bounded size (size_of d e.sizes) fits k (gates_of_twin size k is)) (λ g h keeps. body_kept size (IsOfGates size) g h keeps body body_long (λ k is gate. gates_apart size k gate is)) run has fs told)

    pub frame_laid : (e f : Told) → room size ≤ size_of d e.sizes → ForSome e.flashes (AreSized e.sizes) → Runs (WritesOnly d (IsOfGates size) 2) e f → OnFlash d (FrameStands size header) e → OnFlash d (FrameStands size header) f
    frame_laid e f fits sized run =
        writes_keep d (IsOfGates size) 2 (FrameStands size header) e f sized (λ k is. twin_bounded size (size_of d e.sizes) fits k (gates_of_twin size k is)) (λ g h keeps. stands_kept size (IsOfGates size) g h keeps header header_long (λ k frame gate. frame_apart size k frame (gates_of_twin size k gate))) run
